use Rattle.std.proofs.Common.{◌≡◌, ◌∙◌, ℕ, [], ◌∷◌, sym, ap, subst}
use Rattle.ks_history.specs.Own.{hand}
use Rattle.ks_arena.specs.Clauses.{hand_of, seen_of}
use Rattle.ks_tidy.proofs.Passing.{leaves_on, stretch_on}
use Rattle.ks_tidy.proofs.entry.go_below.Goals as goal

pub next-requires-clause-last : goal.next-requires-clause-last
next-requires-clause-last g c κs within = (c.args.onward.visited.node ∷ [], ap hand_of c.is_low.ensures.same ∙ subst (λ (z : ℕ). hand z (seen_of c.visit_below-below.new.pass) ≡ c.visit_below-below.result.node ∷ c.args.onward.visited.node ∷ []) (sym c.visit_below-below.ensures.caller) c.visit_below-below.ensures.path.hands)

pub returns-in-Go-clause-leaves : goal.returns-in-Go-clause-leaves
returns-in-Go-clause-leaves g c = let e = c.visit_below-below.ensures in leaves_on c.args.pass.now.caller (seen_of c.args.pass.now) c.visit_below-below.new.pass c.next.new.pass (seen_of c.leave_above.new.pass) e.caller (c.next.ensures.same ∙ c.is_low.ensures.same) e.leaves c.leave_above.ensures.leaves

pub returns-in-Go-clause-stretch : goal.returns-in-Go-clause-stretch
returns-in-Go-clause-stretch g c = let e = c.visit_below-below.ensures in stretch_on c.args.pass.now.caller (seen_of c.args.pass.now) c.visit_below-below.new.pass c.next.new.pass (seen_of c.leave_above.new.pass) e.caller (c.next.ensures.same ∙ c.is_low.ensures.same) e.stretch c.leave_above.ensures.stretch
