use Rattle.std.proofs.Common.{ℕ, ◌∙◌, ap, inl, inr}
use Rattle.std.specs.Prelude.{Some}
use Rattle.ks_arena.specs.Clauses.{seen_of}
use Rattle.ks_shape.specs.Laws.Stretches.{stretches_as, stretches_both}
use Rattle.ks_shape.specs.Does.{MaySearch}
use Rattle.ks_shape.specs.Laws.Does.{does_on}
use Rattle.ks_put.proofs.room.down.Goals as goal

pub returns-clause-stretch : goal.returns-clause-stretch
returns-clause-stretch g c = let me : ℕ = c.args.pass.now.caller in let h = seen_of c.args.pass.now in let h₁ = seen_of c.let_go-held.new.pass in let h₂ = seen_of c.step_down-below.new.pass in let h₃ = seen_of c.settle.new.pass in
    let same₁ = c.let_go-held.new.pass.caller in let same₂ = c.step_down-below.new.pass.caller in
    stretches_both me h h₁ h₃ c.let_go-held.ensures.stretch (stretches_as me same₁ h₁ h₃ c.let_go-held.ensures.caller
    (stretches_both same₁ h₁ h₂ h₃ c.step_down-below.ensures.stretch (stretches_as same₁ same₂ h₂ h₃ c.step_down-below.ensures.caller c.settle.ensures.stretch)))

pub returns-clause-leaves : goal.returns-clause-leaves
returns-clause-leaves g c = does_on MaySearch c.args.pass.now.caller c.step_down-below.new.pass.caller (seen_of c.args.pass.now) (seen_of c.step_down-below.new.pass) (seen_of c.settle.new.pass) (c.step_down-below.ensures.caller ∙ c.let_go-held.ensures.caller) (does_on MaySearch c.args.pass.now.caller c.let_go-held.new.pass.caller (seen_of c.args.pass.now) (seen_of c.let_go-held.new.pass) (seen_of c.step_down-below.new.pass) (c.let_go-held.ensures.caller) c.let_go-held.ensures.leaves c.step_down-below.ensures.leaves) c.settle.ensures.leaves

pub returns-clause-above : goal.returns-clause-above
returns-clause-above g c = elim c.settle.ensures.above [
  | inl none ↦ inl none
  | inr same ↦ inr (same ∙ c.step_down-below.ensures.parent ∙ ap Some c.let_go-held.ensures.node)
]
