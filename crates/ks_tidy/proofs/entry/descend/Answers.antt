use Rattle.std.proofs.Common.{◌∙◌, ℕ, List, sym, ap, subst}
use Rattle.ks_history.specs.declared.Event.{Event}
use Rattle.ks_arena.specs.Clauses.{seen_of}
use Rattle.ks_shape.specs.Frees.{Frees}
use Rattle.ks_shape.specs.Laws.Frees.{frees_take}
use Rattle.ks_shape.specs.Stretches.{Stretches}
use Rattle.ks_shape.specs.Does.{DoesOnly, MaySearch}
use Rattle.ks_tidy.proofs.Passing.{frees_none, leaves_on, stretch_on}
use Rattle.ks_tidy.proofs.entry.descend.Given.{Over}
use Rattle.ks_tidy.proofs.entry.descend.Goals as goal
use Rattle.ks_tidy.proofs.entry.descend.Goals.{After-go_down_in_slots}

pub returns-in-Here-clause-frees : goal.returns-in-Here-clause-frees
returns-in-Here-clause-frees g c = let me : ℕ = c.args.pass.now.caller in let h = seen_of c.args.pass.now in
    subst (λ (z : List Event). Frees me h z 0) (sym (c.lift.ensures.seen ∙ ap seen_of c.next.ensures.same)) (frees_take me 0 h (seen_of c.visit_root-root.new.pass) c.visit_root-root.ensures.took)

leaves : (g : Over) (c : After-go_down_in_slots g) → DoesOnly MaySearch c.args.pass.now.caller (seen_of c.args.pass.now) (seen_of c.go_down_in_slots.new.pass)
leaves g c = let e = c.visit_root-root.ensures in leaves_on c.args.pass.now.caller (seen_of c.args.pass.now) c.visit_root-root.new.pass c.next.new.pass (seen_of c.go_down_in_slots.new.pass) e.caller c.next.ensures.same e.leaves c.go_down_in_slots.ensures.leaves

stretch : (g : Over) (c : After-go_down_in_slots g) → Stretches c.args.pass.now.caller (seen_of c.args.pass.now) (seen_of c.go_down_in_slots.new.pass)
stretch g c = let e = c.visit_root-root.ensures in stretch_on c.args.pass.now.caller (seen_of c.args.pass.now) c.visit_root-root.new.pass c.next.new.pass (seen_of c.go_down_in_slots.new.pass) e.caller c.next.ensures.same e.stretch c.go_down_in_slots.ensures.stretch

pub returns-in-Go-clause-leaves : goal.returns-in-Go-clause-leaves
returns-in-Go-clause-leaves g c = leaves g (goal.at.returns-in-Go-clause-leaves g c).After-go_down_in_slots

pub returns-in-Go-clause-stretch : goal.returns-in-Go-clause-stretch
returns-in-Go-clause-stretch g c = stretch g (goal.at.returns-in-Go-clause-stretch g c).After-go_down_in_slots

pub returns-in-Go-clause-frees : goal.returns-in-Go-clause-frees
returns-in-Go-clause-frees g c = let at = (goal.at.returns-in-Go-clause-frees g c).After-go_down_in_slots in frees_none c.args.pass.now.caller (seen_of c.args.pass.now) (seen_of c.go_down_in_slots.new.pass) (stretch g at) (leaves g at)
