use Rattle.std.proofs.Common.{ℕ, List, [], sym, ap, subst}
use Rattle.std.specs.Prelude.{IfSome}
use Rattle.ks_history.specs.declared.Event.{Event}
use Rattle.ks_history.specs.declared.Event.TheVariants.{Give}
use Rattle.ks_history.specs.Laws.Begins.{with_begins}
use Rattle.ks_arena.specs.Sound.{sort_of}
use Rattle.ks_arena.specs.Clauses.{seen_of}
use Rattle.ks_shape.specs.Hinted.{WasAbove}
use Rattle.ks_shape.specs.Laws.Located.{was_above_on}
use Rattle.ks_giveup.proofs.near.pass_by.Goals as goal

pub passed-branch-requires-clause-last : goal.passed-branch-requires-clause-last
passed-branch-requires-clause-last g c κs within = ([], c.requires.way.0.alone)

pub returns-clause-above : goal.returns-clause-above
returns-clause-above g c = λ start since was. let sort = sort_of g.N.Node.layout g.N.Node.ranged in let p = c.passed-branch.new.pass in let h = seen_of p in let k = seen_of c.leave.new.pass in let b : ℕ = p.caller in let now = seen_of c.args.pass.now in
    was_above_on sort c.args.place start h k (with_begins b (Give b c.args.visited.node) h k c.leave.ensures.gave) c.passed-branch.result
    (subst (λ (z : List Event). IfSome c.passed-branch.result (WasAbove sort c.args.place start z)) (sym (ap seen_of c.passed-branch.ensures.same)) (c.passed-branch.ensures.lasts start now since c.requires.way.0.matches was))
