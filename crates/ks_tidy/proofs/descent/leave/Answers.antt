use Rattle.std.proofs.Common.{◌≡◌, ◌∙◌, ℕ, List, [], ◌∷◌, length, arith, refl, sym, ap, subst, inl}
use Rattle.ks_history.specs.Own.{hand}
use Rattle.ks_history.specs.Passes.{Has, GrowsWith}
use Rattle.ks_history.specs.declared.Event.TheVariants.{Give}
use Rattle.ks_arena.specs.Clauses.{seen_of}
use Rattle.ks_shape.specs.Laws.Single.{gave_last}
use Rattle.ks_shape.specs.Laws.Stretches.{stretches_both, stretches_give}
use Rattle.ks_shape.specs.Laws.Frees.{frees_both, frees_give}
use Rattle.ks_tidy.proofs.Going.{frees_if}
use Rattle.ks_shape.specs.Does.{MaySearch}
use Rattle.ks_shape.specs.Laws.Does.{does_on, searches_give}
use Rattle.ks_tidy.proofs.descent.leave.Given.{Over}
use Rattle.ks_tidy.proofs.descent.leave.Goals as goal
use Rattle.ks_tidy.proofs.descent.leave.Goals.{After-give}

alone : (g : Over) (c : After-give g) → hand c.let_go-node.new.pass.caller (seen_of c.let_go-node.new.pass) ≡ c.let_go-node.result.node ∷ []
alone g c = ap (λ (z : ℕ). hand z (seen_of c.let_go-node.new.pass)) c.let_go-node.ensures.caller ∙ c.let_go-node.ensures.way.alone

gave : (g : Over) (c : After-give g) → GrowsWith c.args.pass.now.caller (Give c.args.pass.now.caller c.let_go-node.result.node) (seen_of c.let_go-node.new.pass) (seen_of c.give.new.pass)
gave g c = subst (λ (z : ℕ). GrowsWith z (Give z c.let_go-node.result.node) (seen_of c.let_go-node.new.pass) (seen_of c.give.new.pass)) c.let_go-node.ensures.caller c.give.ensures.gave

pub give-requires-clause-holds : goal.give-requires-clause-holds
give-requires-clause-holds g c κs within = let e = c.let_go-node.ensures in subst (λ (z : List ℕ). Has z c.let_go-node.result.node) (sym (ap (λ (z : ℕ). hand z (seen_of c.let_go-node.new.pass)) e.caller ∙ e.way.alone)) (inl refl)

pub returns-clause-pass : goal.returns-clause-pass
returns-clause-pass g c = let at = (goal.at.returns-clause-pass g c).After-give in let k = seen_of c.give.new.pass in let i : ℕ = c.let_go-node.result.node in
    (c.give.ensures.pass, ap (λ (z : ℕ). hand z k) c.give.ensures.caller ∙ gave_last c.let_go-node.new.pass.caller i (seen_of c.let_go-node.new.pass) k (alone g at) (ap (λ (z : ℕ). hand z k) (sym c.give.ensures.caller) ∙ c.give.ensures.hand))

pub returns-clause-stretch : goal.returns-clause-stretch
returns-clause-stretch g c = let at = (goal.at.returns-clause-stretch g c).After-give in let me : ℕ = c.args.pass.now.caller in let h = seen_of c.args.pass.now in let h₁ = seen_of c.let_go-node.new.pass in let k = seen_of c.give.new.pass in
    stretches_both me h h₁ k c.let_go-node.ensures.stretch (stretches_give me c.let_go-node.result.node h₁ k (omega (arith, ap length c.let_go-node.ensures.way.alone)) (gave g at))

pub returns-clause-frees : goal.returns-clause-frees
returns-clause-frees g c = let at = (goal.at.returns-clause-frees g c).After-give in let me : ℕ = c.args.pass.now.caller in let h = seen_of c.args.pass.now in let h₁ = seen_of c.let_go-node.new.pass in let k = seen_of c.give.new.pass in
    frees_both me 0 0 h h₁ k (frees_if me c.args.path.parent h h₁ c.let_go-node.ensures.gave) (frees_give me c.let_go-node.result.node h₁ k (gave g at))

pub returns-clause-leaves : goal.returns-clause-leaves
returns-clause-leaves g c = let own : ℕ = c.let_go-node.new.pass.caller in let h₁ = seen_of c.let_go-node.new.pass in let k = seen_of c.give.new.pass in does_on MaySearch c.args.pass.now.caller own (seen_of c.args.pass.now) h₁ k c.let_go-node.ensures.caller c.let_go-node.ensures.leaves (searches_give own c.let_go-node.result.node h₁ k c.give.ensures.gave)
