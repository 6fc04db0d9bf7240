use Rattle.std.proofs.Common.{ℕ, List, ap, subst}
use Rattle.ks_history.specs.declared.Event.{Event}
use Rattle.ks_history.specs.Trace.{◌⊑◌}
use Rattle.ks_arena.specs.Sound.{sort_of}
use Rattle.ks_arena.specs.Clauses.{seen_of}
use Rattle.ks_shape.specs.Laws.Located.{was_above_on}
use Rattle.ks_shape.specs.Makes.{MakesNone}
use Rattle.ks_link.proofs.near.go_by.Goals as goal

pub returns-clause-above : goal.returns-clause-above
returns-clause-above g c = λ start since was. let sort = sort_of g.N.Node.layout g.N.Node.ranged in let h = seen_of c.args.pass.now in let k = seen_of c.go_on-below.new.pass in
    let grows : h ⊑ k = subst (λ (z : List Event). z ⊑ k) (ap seen_of c.passed-branch.ensures.same) c.go_on-below.ensures.leaves.grows in
    was_above_on sort c.args.place start h k grows c.passed-branch.result (c.passed-branch.ensures.lasts start h since c.requires.way.matches was)

pub returns-clause-makes : goal.returns-clause-makes
returns-clause-makes g c = let h = seen_of c.passed-branch.new.pass in let k = seen_of c.go_on-below.new.pass in
    subst (λ (z : List Event). MakesNone c.args.pass.now.caller z k) (ap seen_of c.passed-branch.ensures.same) (subst (λ (z : ℕ). MakesNone z h k) (ap (λ p. p.caller) c.passed-branch.ensures.same) c.go_on-below.ensures.makes)
