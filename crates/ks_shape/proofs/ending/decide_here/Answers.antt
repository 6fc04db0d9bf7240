use Rattle.std.proofs.Common.{◌≡◌, ℕ, subst}
use Rattle.ks_history.specs.declared.Event.TheVariants.{Give}
use Rattle.ks_history.specs.Own.{hand, drop_one}
use Rattle.ks_history.specs.Passes.{GrowsWith}
use Rattle.ks_history.specs.Laws.Begins.{begins_both, with_begins}
use Rattle.ks_history.specs.Due.{last_call}
use Rattle.ks_history.specs.Laws.Stays.{lawful_in_turn}
use Rattle.ks_node.specs.Body.{frame_of}
use Rattle.ks_arena.specs.Sound.{blank_of, sort_of}
use Rattle.ks_arena.specs.Clauses.{seen_of}
use Rattle.ks_shape.specs.Laws.Makes.{makes_both, makes_with}
use Rattle.ks_shape.proofs.Concludes.{concluded}
use Rattle.ks_shape.specs.Does.{MaySearch}
use Rattle.ks_shape.specs.Laws.Does.{does_both, searches_call, searches_give}
use Rattle.ks_shape.proofs.ending.decide_here.Goals as goal

pub returns-clause-begins : goal.returns-clause-begins
returns-clause-begins g c = let h = seen_of c.args.pass.now in let h₁ = seen_of c.decide_as-number.new.pass in let h₂ = seen_of c.give.new.pass in
    begins_both h h₁ h₂ (with_begins c.args.pass.now.caller _ h h₁ c.decide_as-number.ensures.decided.adds.grows) (with_begins c.decide_as-number.new.pass.caller _ h₁ h₂ c.give.ensures.gave)

pub returns-clause-done : goal.returns-clause-done
returns-clause-done g c = λ template start none under. let me : ℕ = c.args.pass.now.caller in let h = seen_of c.args.pass.now in let h₁ = seen_of c.decide_as-number.new.pass in let h₂ = seen_of c.give.new.pass in let i : ℕ = c.args.held.node in let e = c.decide_as-number.ensures in let r = c.requires.ready in
    let sort = sort_of g.N.Node.layout g.N.Node.ranged in
    let same = subst (λ (z : ℕ). hand z h₁ ≡ hand me h) e.caller e.decided.hand in let gave = subst (λ (z : ℕ). GrowsWith z (Give z i) h₁ h₂) e.caller c.give.ensures.gave in
    let hands = subst (λ (z : ℕ). hand z h₂ ≡ drop_one i (hand z h₁)) e.caller (subst (λ (z : ℕ). hand z h₂ ≡ drop_one i (hand c.decide_as-number.new.pass.caller h₁)) c.give.ensures.caller c.give.ensures.hand) in
    let are = lawful_in_turn h₁ (c.sound_law.ensures.lawful sort c.args.arena.now.table.shared.table_id.slots h₁ e.pass.sound) in
    concluded g.N.Node.layout template c.args.arena.now.nodes me i c.decide_as-number.result g.W.Decision.op g.W.Decision.reply (blank_of sort) (frame_of (g.N.Node.body c.args.held.body)) start h h₁ h₂ are r.meets.0 r.frame c.requires.alone e.decided.adds same gave hands under
    (last_call me h) r.due none

pub returns-clause-makes : goal.returns-clause-makes
returns-clause-makes g c = let me : ℕ = c.args.pass.now.caller in let h = seen_of c.args.pass.now in let h₁ = seen_of c.decide_as-number.new.pass in let h₂ = seen_of c.give.new.pass in let e = c.decide_as-number.ensures in
    let gave = subst (λ (z : ℕ). GrowsWith z (Give z c.args.held.node) h₁ h₂) e.caller c.give.ensures.gave in
    makes_both me h h₁ h₂ (with_begins me _ h h₁ e.decided.adds.grows) (with_begins me _ h₁ h₂ gave) (makes_with me _ h h₁ tt e.decided.adds.grows) (makes_with me _ h₁ h₂ tt gave)

pub returns-clause-leaves : goal.returns-clause-leaves
returns-clause-leaves g c = let me : ℕ = c.args.pass.now.caller in let h = seen_of c.args.pass.now in let h₁ = seen_of c.decide_as-number.new.pass in let h₂ = seen_of c.give.new.pass in let e = c.decide_as-number.ensures in
    let gave = subst (λ (z : ℕ). GrowsWith z (Give z c.args.held.node) h₁ h₂) e.caller c.give.ensures.gave in
    does_both MaySearch me h h₁ h₂ (searches_call me c.args.held.node g.W.Decision.op g.W.Decision.reply h h₁ e.decided.adds.grows) (searches_give me c.args.held.node h₁ h₂ gave)
