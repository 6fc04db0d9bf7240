use Rattle.std.proofs.Common.{rules, ◌≡◌, [], length, ap, sym, subst, ◌∙◌}
use Rattle.ks_hints.proofs.Lists.{push_each}
use Rattle.std.specs.List.{All}
use Rattle.std.proofs.lemmas.List.Elements.{All-push}
use Rattle.ks_hints.specs.Posts.{read_by}
use Rattle.ks_hints.specs.Rule.{IsSeatedAt}
use Rattle.ks_hints.proofs.starting.readers_of.Goals as goal

pub loop-blank-preserved : goal.loop-blank-preserved
loop-blank-preserved c = (
  ap length c.push_reserved.ensures.items ∙ push_each c.loop-blank.into.items c.loop-blank.yielded _ _ c.loop-blank.invariant.0,
  search rules,
  subst (All (λ h. read_by h ≡ [])) (sym c.push_reserved.ensures.items) (All-push (λ h. read_by h ≡ []) c.loop-blank.into.items _ c.loop-blank.invariant.2 c.reader_of.ensures.seen),
  subst (All (λ h. IsSeatedAt c.args.writer.now.desk.place.table_id h.reader)) (sym c.push_reserved.ensures.items) (All-push (λ h. IsSeatedAt c.args.writer.now.desk.place.table_id h.reader) c.loop-blank.into.items _ c.loop-blank.invariant.3 c.reader_of.ensures.seated),
)
