use Rattle.std.specs.Prelude.{cond, get_or}
use Rattle.std.proofs.Common.{ap, ◌∙◌, sym, Some, None}
use Rattle.ks_hash.specs.Laws.Joined.{sole_starts}
use Rattle.ks_hash.proofs.slices.sole_child.Goals as goal

pub returns-then-all_lead_to : goal.returns-then-all_lead_to
returns-then-all_lead_to c =
    let cs = c.args.slices.now in
    sym (sole_starts cs c.requires ∙ ap (λ b. cond b (Some (get_or cs 0 0)) None) (sym c.all_lead_to.ensures ∙ c.if-all_lead_to.true))

pub returns-else-all_lead_to : goal.returns-else-all_lead_to
returns-else-all_lead_to c =
    let cs = c.args.slices.now in
    sym (sole_starts cs c.requires ∙ ap (λ b. cond b (Some (get_or cs 0 0)) None) (sym c.all_lead_to.ensures ∙ c.if-all_lead_to.false))
