use Rattle.std.proofs.Common.{◌∙◌, ℕ, length, arith, ap, sym}
use Rattle.std.specs.Prelude.{Some}
use Rattle.ks_history.specs.Trace.{graph_after}
use Rattle.ks_history.specs.Frames.{frame_after}
use Rattle.ks_arena.specs.Sound.{blank_of, sort_of}
use Rattle.ks_arena.specs.Clauses.{seen_of}
use Rattle.ks_shape.specs.Laws.Stretches.{stretches_here}
use Rattle.ks_shape.specs.Laws.Frees.{frees_here}
use Rattle.ks_tidy.proofs.Standing.{plain, stands_now}
use Rattle.ks_tidy.proofs.Steps.{sole_is}
use Rattle.ks_shape.specs.Does.{MayDel}
use Rattle.ks_shape.specs.Laws.Does.{does_none}
use Rattle.ks_tidy.proofs.try_step.try_tidy_child.Goals as goal

pub take_over-requires-clause-sole : goal.take_over-requires-clause-sole
take_over-requires-clause-sole g c = let sort = sort_of g.N.Node.layout g.N.Node.ranged in let h = seen_of c.args.pass.now in let y = c.args.parent in let under = c.requires.pair.path.under in let u = g.N.Node.body y.body in
    let sole = c.has_sole.ensures.sole c.if-has_sole.true in
    let stands = stands_now sort g.N.Node.body h y under.live under.matches (plain u c.node_law.ensures.sound c.node_law.ensures.framed (c.unlinked_law.ensures.no_link y.body)) in
    let all = ((c.tests_law.ensures.only_child (graph_after h) (frame_after (blank_of sort) h) y.node sole.0 u stands).0 sole.1).1 in
    sole.1 ∙ ap (λ (z : ℕ). Some z) (sole_is u c.args.place c.args.node.node sole.0 all under.leads)

pub returns-clause-stretch : goal.returns-clause-stretch
returns-clause-stretch g c = stretches_here c.args.pass.now.caller (seen_of c.args.pass.now) (omega (arith, ap length c.requires.pair.path.hands))

pub returns-clause-frees : goal.returns-clause-frees
returns-clause-frees g c = frees_here c.args.pass.now.caller (seen_of c.args.pass.now)

pub returns-then-has_sole-clause-dels : goal.returns-then-has_sole-clause-dels
returns-then-has_sole-clause-dels g c = c.take_over.ensures.dels

pub returns-then-is_low-clause-dels : goal.returns-then-is_low-clause-dels
returns-then-is_low-clause-dels g c = c.try_merge_child.ensures.dels (sym c.is_low.ensures ∙ c.if-is_low.true)

pub returns-clause-dels : goal.returns-clause-dels
returns-clause-dels g c = does_none (MayDel (sort_of g.N.Node.layout g.N.Node.ranged)) c.args.pass.now.caller (seen_of c.args.pass.now)
