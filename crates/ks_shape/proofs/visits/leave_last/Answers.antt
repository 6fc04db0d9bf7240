use Rattle.std.proofs.Common.{◌≡◌, ℕ, [], length, sym, ap, subst, arith}
use Rattle.ks_history.specs.declared.Event.TheVariants.{Give}
use Rattle.ks_history.specs.Own.{hand, drop_one}
use Rattle.ks_arena.specs.Clauses.{seen_of}
use Rattle.ks_shape.specs.Laws.Makes.{makes_with}
use Rattle.ks_shape.specs.Laws.Single.{gave_last, gives}
use Rattle.ks_shape.specs.Laws.Stretches.{stretches_give}
use Rattle.ks_shape.specs.Laws.Does.{searches_give}
use Rattle.ks_shape.proofs.visits.leave_last.Given.{Over}
use Rattle.ks_shape.proofs.visits.leave_last.Goals as goal
use Rattle.ks_shape.proofs.visits.leave_last.Goals.{After-leave}

empty : (g : Over) (c : After-leave g) → hand c.args.pass.now.caller (seen_of c.leave.new.pass) ≡ []
empty g c = let me : ℕ = c.args.pass.now.caller in let h = seen_of c.args.pass.now in let k = seen_of c.leave.new.pass in let i : ℕ = c.args.visited.node in
    gave_last me i h k c.requires.alone (subst (λ (z : ℕ). hand z k ≡ drop_one i (hand me h)) c.leave.ensures.caller c.leave.ensures.hand)

pub returns-clause-pass : goal.returns-clause-pass
returns-clause-pass g c = let at = (goal.at.returns-clause-pass g c).After-leave in (c.leave.ensures.pass, subst (λ (z : ℕ). hand z (seen_of c.leave.new.pass) ≡ []) (sym c.leave.ensures.caller) (empty g at))

pub returns-clause-under : goal.returns-clause-under
returns-clause-under g c = λ template op start under. let at = (goal.at.returns-clause-under g c).After-leave in
    gives template c.args.pass.now.caller c.args.visited.node op start (seen_of c.args.pass.now) (seen_of c.leave.new.pass) (empty g at) c.leave.ensures.gave under

pub returns-clause-makes : goal.returns-clause-makes
returns-clause-makes g c = let me : ℕ = c.args.pass.now.caller in makes_with me (Give me c.args.visited.node) (seen_of c.args.pass.now) (seen_of c.leave.new.pass) tt c.leave.ensures.gave

pub returns-clause-stretch : goal.returns-clause-stretch
returns-clause-stretch g c = stretches_give c.args.pass.now.caller c.args.visited.node (seen_of c.args.pass.now) (seen_of c.leave.new.pass) (omega (arith, ap length c.requires.alone)) c.leave.ensures.gave

pub returns-clause-leaves : goal.returns-clause-leaves
returns-clause-leaves g c = searches_give c.args.pass.now.caller c.args.visited.node (seen_of c.args.pass.now) (seen_of c.leave.new.pass) c.leave.ensures.gave
