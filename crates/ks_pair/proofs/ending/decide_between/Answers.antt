use Rattle.std.proofs.Common.{ℕ, ◌≤◌, ◌≡◌, ◌∷◌, [], ◌++◌, ◌∙◌, refl, sym, subst}
use Rattle.ks_history.specs.declared.Event.TheVariants.{Twin}
use Rattle.ks_history.specs.declared.Op.{Op}
use Rattle.ks_history.specs.declared.Op.TheVariants.{Move}
use Rattle.ks_history.specs.declared.Reply.{Reply}
use Rattle.ks_history.specs.declared.Reply.TheVariants.{Full}
use Rattle.ks_history.specs.Done.{most_held}
use Rattle.ks_history.specs.Due.{FullDue, last_call}
use Rattle.ks_history.specs.Own.{hand}
use Rattle.ks_history.specs.Laws.Stays.{lawful_in_turn}
use Rattle.ks_history.specs.Laws.Hand.{is_hand}
use Rattle.ks_arena.specs.Sound.{sort_of}
use Rattle.ks_arena.specs.Clauses.{seen_of}
use Rattle.ks_shape.specs.Does.{MaySearch}
use Rattle.ks_shape.specs.Laws.Does.{does_on, does_with}
use Rattle.ks_shape.specs.Stretches.{Stretches}
use Rattle.ks_pair.proofs.Decided.{holds_on, three_may, twin_done, twin_due, two_few}
use Rattle.ks_pair.proofs.ending.decide_between.Goals as goal

pub returns-clause-leaves : goal.returns-clause-leaves
returns-clause-leaves g c = let me : ℕ = c.args.pass.now.caller in let h = seen_of c.args.pass.now in let e = c.decide_pair-number.ensures in let h₁ = seen_of c.decide_pair-number.new.pass in
    does_on MaySearch me c.decide_pair-number.new.pass.caller h h₁ (seen_of c.give_both.new.pass) e.caller (does_with MaySearch me (Twin me c.args.first.node c.args.second.node g.W.Decision.op g.W.Decision.reply) h h₁ e.decided.adds.grows tt) c.give_both.ensures.leaves

pub decide_pair-number-requires-clause-ready : goal.decide_pair-number-requires-clause-ready
decide_pair-number-requires-clause-ready g c κs within = c.requires.ready _ refl

pub give_both-requires-clause-holds : goal.give_both-requires-clause-holds
give_both-requires-clause-holds g c κs within = holds_on c.args.pass.now.caller c.decide_pair-number.new.pass.caller c.args.first.node c.args.second.node (seen_of c.args.pass.now) (seen_of c.decide_pair-number.new.pass) c.decide_pair-number.ensures.decided.hand c.requires.holds

pub returns-clause-done : goal.returns-clause-done
returns-clause-done g c = λ template start none under. let me : ℕ = c.args.pass.now.caller in let h = seen_of c.args.pass.now in let e = c.decide_pair-number.ensures in let h₁ = seen_of c.decide_pair-number.new.pass in let h₂ = seen_of c.give_both.new.pass in let i : ℕ = c.args.first.node in let j : ℕ = c.args.second.node in
    let layout = g.N.Node.layout in let n : ℕ = c.args.arena.now.nodes in let o : Op = g.W.Decision.op in let y : Reply = g.W.Decision.reply in let number : ℕ = c.decide_pair-number.result in
    let sort = sort_of g.N.Node.layout g.N.Node.ranged in let ready = c.requires.ready (record { ref_ptr = (0, 0); now = c.args.second }) refl in
    let same : hand me h₁ ≡ hand me h = subst (λ (z : ℕ). hand z h₁ ≡ hand me h) e.caller e.decided.hand in
    let few = two_few me i j h₁ (holds_on me me i j h h₁ same c.requires.holds) in
    let empty : hand me h₂ ≡ [] = subst (λ (z : ℕ). hand z h₂ ≡ []) (c.give_both.ensures.caller ∙ e.caller) c.give_both.ensures.pass.1 in
    let three : 3 ≤ most_held template o = subst (λ (o : Op). 3 ≤ most_held template o) (sym c.requires.op) (three_may template c.args.from c.args.to) in
    let are = lawful_in_turn h₁ (c.sound_law.ensures.lawful sort c.args.arena.now.table.shared.table_id.slots h₁ e.pass.sound) in
    let grows = e.decided.adds.grows in
    twin_done layout template n me i j number o y start h h₁ h₂ three e.decided.adds few
    (λ is. subst (λ (z : Op × Reply). FullDue layout n start (grows.rest ++ h) (Twin me i j z.0 z.1)) (λ k. (sym c.requires.op k, sym is k))
    (twin_due layout n me i j c.args.from c.args.to (last_call me h) start h (Twin me i j o y) h₁ grows are ready.meets.0 ready.meets.1
    (subst (λ (z : Op × Reply). FullDue layout n (last_call me h) h (Twin me i j z.0 z.1)) (λ k. (c.requires.op k, is k)) (ready.due is)) (none is)))
    (subst (λ (z : ℕ). Stretches z h₁ h₂) e.caller c.give_both.ensures.stretch) empty under
