use Rattle.std.proofs.Common.{ℕ, sym, subst}
use Rattle.ks_history.specs.declared.Event.TheVariants.{Give}
use Rattle.ks_history.specs.Passes.{GrowsWith}
use Rattle.ks_history.specs.Done.{give_up}
use Rattle.ks_history.specs.Underway.{Underway}
use Rattle.ks_arena.specs.Clauses.{seen_of}
use Rattle.ks_giveup.proofs.Way.{goes_with}
use Rattle.ks_shape.specs.Does.{MaySearch}
use Rattle.ks_shape.specs.Laws.Does.{does_on}
use Rattle.ks_giveup.proofs.descent.find_room.Goals as goal

pub returns-then-has_room-clause-came : goal.returns-then-has_room-clause-came
returns-then-has_room-clause-came g c = record { ends = c.find-held.ensures.ends; room = c.has_room.ensures.room c.if-has_room.true }

pub returns-clause-goes : goal.returns-clause-goes
returns-clause-goes g c = let e = c.find-held.ensures in let h₁ = seen_of c.find-held.new.pass in let h₂ = seen_of c.give_last.new.pass in let i : ℕ = c.find-held.result.node in
    goes_with c.args.pass.now.caller c.args.place (Give c.args.pass.now.caller i) (seen_of c.args.pass.now) h₁ h₂ (subst (λ (z : ℕ). GrowsWith z (Give z i) h₁ h₂) e.caller c.give_last.ensures.gave) tt e.goes

pub returns-clause-under : goal.returns-clause-under
returns-clause-under g c = λ op. let e = c.find-held.ensures in let s = seen_of c.args.pass.now in
    subst (λ (z : ℕ). Underway give_up z op s (seen_of c.give_last.new.pass)) e.caller (c.give_last.ensures.under give_up op s (subst (λ (z : ℕ). Underway give_up z op s (seen_of c.find-held.new.pass)) (sym e.caller) (e.under op)))

pub returns-clause-leaves : goal.returns-clause-leaves
returns-clause-leaves g c = does_on MaySearch c.args.pass.now.caller c.find-held.new.pass.caller (seen_of c.args.pass.now) (seen_of c.find-held.new.pass) (seen_of c.give_last.new.pass) c.find-held.ensures.caller c.find-held.ensures.leaves c.give_last.ensures.leaves
