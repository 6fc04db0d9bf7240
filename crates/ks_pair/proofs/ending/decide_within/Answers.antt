use Rattle.std.proofs.Common.{ℕ, ◌≤◌, ◌≡◌, ◌∷◌, [], ◌∙◌, ap, sym, subst, length, arith}
use Rattle.ks_history.specs.declared.Event.TheVariants.{Twin}
use Rattle.ks_history.specs.declared.Op.{Op}
use Rattle.ks_history.specs.Done.{most_held}
use Rattle.ks_history.specs.Own.{hand}
use Rattle.ks_arena.specs.Clauses.{seen_of}
use Rattle.ks_shape.specs.Does.{MaySearch}
use Rattle.ks_shape.specs.Laws.Does.{does_on, does_with}
use Rattle.ks_shape.specs.Stretches.{Stretches}
use Rattle.ks_pair.proofs.Decided.{three_may, twin_done}
use Rattle.ks_pair.proofs.ending.decide_within.Goals as goal

pub returns-clause-leaves : goal.returns-clause-leaves
returns-clause-leaves g c = let me : ℕ = c.args.pass.now.caller in let h = seen_of c.args.pass.now in let e = c.decide_pair-number.ensures in let h₁ = seen_of c.decide_pair-number.new.pass in let i : ℕ = c.args.held.node in
    does_on MaySearch me c.decide_pair-number.new.pass.caller h h₁ (seen_of c.give_last.new.pass) e.caller (does_with MaySearch me (Twin me i i g.W.Decision.op g.W.Decision.reply) h h₁ e.decided.adds.grows tt) c.give_last.ensures.leaves

pub returns-clause-done : goal.returns-clause-done
returns-clause-done g c = λ template start under. let me : ℕ = c.args.pass.now.caller in let d : ℕ = c.decide_pair-number.new.pass.caller in let h = seen_of c.args.pass.now in let e = c.decide_pair-number.ensures in let h₁ = seen_of c.decide_pair-number.new.pass in let h₂ = seen_of c.give_last.new.pass in let i : ℕ = c.args.held.node in
    let same : hand me h₁ ≡ i ∷ [] = subst (λ (z : ℕ). hand z h₁ ≡ hand me h) e.caller e.decided.hand ∙ c.requires.alone in
    let empty : hand me h₂ ≡ [] = subst (λ (z : ℕ). hand z h₂ ≡ []) (c.give_last.ensures.caller ∙ e.caller) c.give_last.ensures.pass.1 in
    let three : 3 ≤ most_held template g.W.Decision.op = subst (λ (o : Op). 3 ≤ most_held template o) (sym c.requires.op) (three_may template c.args.from c.args.to) in
    twin_done g.N.Node.layout template c.args.arena.now.nodes me i i c.decide_pair-number.result g.W.Decision.op g.W.Decision.reply start h h₁ h₂ three e.decided.adds (omega (arith, ap length same)) (λ full. absurd (c.requires.some full)) (subst (λ (z : ℕ). Stretches z h₁ h₂) e.caller c.give_last.ensures.stretch) empty under
