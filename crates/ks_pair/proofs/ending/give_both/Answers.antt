use Rattle.std.proofs.Common.{ℕ, subst}
use Rattle.ks_arena.specs.Clauses.{seen_of}
use Rattle.ks_shape.specs.Does.{MaySearch}
use Rattle.ks_shape.specs.Laws.Does.{does_on, searches_give}
use Rattle.ks_shape.specs.Laws.Stretches.{stretches_both, stretches_give}
use Rattle.ks_shape.specs.Stretches.{Stretches}
use Rattle.ks_pair.proofs.Decided.{two_few, one_of, left_of}
use Rattle.ks_pair.proofs.ending.give_both.Goals as goal

pub returns-clause-leaves : goal.returns-clause-leaves
returns-clause-leaves g c = let me : ℕ = c.args.pass.now.caller in let h = seen_of c.args.pass.now in let h₁ = seen_of c.give.new.pass in
    does_on MaySearch me c.give.new.pass.caller h h₁ (seen_of c.give_last.new.pass) c.give.ensures.caller (searches_give me c.args.first.node h h₁ c.give.ensures.gave) c.give_last.ensures.leaves

pub returns-clause-stretch : goal.returns-clause-stretch
returns-clause-stretch g c = let me : ℕ = c.args.pass.now.caller in let h = seen_of c.args.pass.now in let h₁ = seen_of c.give.new.pass in let h₂ = seen_of c.give_last.new.pass in
    stretches_both me h h₁ h₂ (stretches_give me c.args.first.node h h₁ (two_few me c.args.first.node c.args.second.node h c.requires.holds) c.give.ensures.gave)
    (subst (λ (z : ℕ). Stretches z h₁ h₂) c.give.ensures.caller c.give_last.ensures.stretch)
