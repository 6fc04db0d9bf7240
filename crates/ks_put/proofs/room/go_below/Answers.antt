use Rattle.std.proofs.Common.{ℕ}
use Rattle.ks_arena.specs.Clauses.{seen_of}
use Rattle.ks_shape.specs.Laws.Stretches.{stretches_as, stretches_both}
use Rattle.ks_shape.specs.Does.{MaySearch}
use Rattle.ks_shape.specs.Laws.Does.{does_on}
use Rattle.ks_put.proofs.room.go_below.Goals as goal

pub returns-clause-leaves : goal.returns-clause-leaves
returns-clause-leaves g c = let me : ℕ = c.args.pass.now.caller in let h₁ = seen_of c.visit_below-below.new.pass in let e = c.visit_below-below.ensures in
    does_on MaySearch me c.visit_below-below.new.pass.caller (seen_of c.args.pass.now) h₁ (seen_of c.leave_above.new.pass) e.caller e.leaves (rw c.is_full.ensures.same at c.leave_above.ensures.leaves)

pub returns-clause-stretch : goal.returns-clause-stretch
returns-clause-stretch g c = let me : ℕ = c.args.pass.now.caller in let h₁ = seen_of c.visit_below-below.new.pass in let h₂ = seen_of c.leave_above.new.pass in let e = c.visit_below-below.ensures in
    stretches_both me (seen_of c.args.pass.now) h₁ h₂ e.stretch (stretches_as me c.visit_below-below.new.pass.caller h₁ h₂ e.caller (rw c.is_full.ensures.same at c.leave_above.ensures.stretch))
