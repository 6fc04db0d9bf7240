use Rattle.std.proofs.Common.{refl, sym, ap, ◌∙◌}
use Rattle.ks_keysets.specs.declared.Frame.{Frame}
use Rattle.ks_node.specs.Body.{is_branch_kind}
use Rattle.ks_node.specs.Edges.{record_of}
use Rattle.ks_arena.specs.Sound.{sort_of}
use Rattle.ks_arena.specs.Visits.{held_at}
use Rattle.ks_shape.specs.Laws.Single.{shown, record_is}
use Rattle.ks_shape.proofs.located.above_of.Goals as goal

pub returns-clause-live : goal.returns-clause-live
returns-clause-live g c = λ h matches. let sort = sort_of g.N.Node.layout g.N.Node.ranged in let x = held_at c.args.visited.now in let live = refl in let framed = (shown sort g.N.Node.body h x live matches).1 in record {
  live = (record_of (g.N.Node.body x.body), record_is sort g.N.Node.body h x live matches);
  branch = ap (λ (z : Frame). is_branch_kind z.kind) framed ∙ sym c.is_branch.ensures.branch ∙ c.if-not-is_branch.false;
  range = ap (λ (z : Frame). z.range) framed ∙ c.range-range.ensures.range;
}
