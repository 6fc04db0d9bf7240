use Rattle.std.proofs.Common.{◌∙◌, ℕ, refl, subst}
use Rattle.ks_keysets.specs.Layout.{Layout}
use Rattle.ks_history.specs.declared.Op.TheVariants.{Move}
use Rattle.ks_history.specs.Done.{give_up, Done}
use Rattle.ks_history.specs.Laws.Underway.{underway_first}
use Rattle.ks_arena.specs.Sound.{sort_of}
use Rattle.ks_arena.specs.Clauses.{seen_of}
use Rattle.ks_shape.specs.Answers.{move_number, move_reply}
use Rattle.ks_shape.specs.Does.{DoesOnly, MayFill}
use Rattle.ks_shape.specs.Laws.Does.{does_none, fills_on, fills_search_on}
use Rattle.ks_giveup.proofs.Moving.{not_true, as_new, goes_on, was_refused, is_refused, refusal}
use Rattle.ks_giveup.proofs.moves.move_value.Goals as goal

pub loop-init : goal.loop-init
loop-init g c = let me : ℕ = c.args.pass.now.caller in let s = seen_of c.args.pass.now in
    (c.requires.pass.0, c.requires.pass.1, refl, underway_first give_up me (Move c.args.from c.args.to) s c.requires.pass.1, (λ told. absurd (let z : ⊥ = cc in z)), does_none (MayFill (sort_of g.N.Node.layout g.N.Node.ranged) c.args.to) me s)

pub loop-preserved-in_default : goal.loop-preserved-in_default
loop-preserved-in_default g c = let layout : Layout = g.N.Node.layout in let sort = sort_of layout g.N.Node.ranged in let n : ℕ = c.args.arena.now.nodes in let to : ℕ = c.args.to in let s = seen_of c.args.pass.now in let inv = c.loop.invariant in
    let a : ℕ = c.loop.pass.caller in let h = seen_of c.loop.pass in let e = c.find_both.ensures in let b : ℕ = c.find_both.new.pass.caller in let k = seen_of c.find_both.new.pass in (
      e.pass,
      c.in_default.ensures.came,
      e.caller ∙ inv.2,
      as_new a b c.args.from to s k e.caller (e.under c.args.from to s inv.3),
      (λ t. was_refused layout n to a b s h k e.caller e.leaves.grows (inv.4 t)),
      fills_search_on sort to a b s h k e.caller inv.5 e.leaves,
    )

pub move_here-requires-clause-refused : goal.move_here-requires-clause-refused
move_here-requires-clause-refused g c κs within = λ t. let layout : Layout = g.N.Node.layout in let n : ℕ = c.args.arena.now.nodes in let to : ℕ = c.args.to in let s = seen_of c.args.pass.now in let inv = c.loop.invariant in
    let a : ℕ = c.loop.pass.caller in let h = seen_of c.loop.pass in let e = c.find_both.ensures in let b : ℕ = c.find_both.new.pass.caller in let k = seen_of c.find_both.new.pass in
    refusal layout n b c.args.from to s k (as_new a b c.args.from to s k e.caller (e.under c.args.from to s inv.3)) (was_refused layout n to a b s h k e.caller e.leaves.grows (inv.4 t))

pub returns-in-Done-clause-done : goal.returns-in-Done-clause-done
returns-in-Done-clause-done g c = let layout : Layout = g.N.Node.layout in let n : ℕ = c.args.arena.now.nodes in let to : ℕ = c.args.to in let s = seen_of c.args.pass.now in let inv = c.loop.invariant in
    let a : ℕ = c.loop.pass.caller in let h = seen_of c.loop.pass in let e = c.find_both.ensures in let b : ℕ = c.find_both.new.pass.caller in let k = seen_of c.find_both.new.pass in
    subst (λ (z : ℕ). Done layout give_up n z (Move c.args.from to) s (seen_of c.move_here.new.pass) (move_reply c.in-Done.answer) (move_number c.in-Done.answer)) (e.caller ∙ inv.2)
    (c.in-Done.ensures.step give_up s (λ t. was_refused layout n to a b s h k e.caller e.leaves.grows (inv.4 t)) (as_new a b c.args.from to s k e.caller (e.under c.args.from to s inv.3)))

pub returns-in-Done-clause-fills : goal.returns-in-Done-clause-fills
returns-in-Done-clause-fills g c = let sort = sort_of g.N.Node.layout g.N.Node.ranged in let to : ℕ = c.args.to in let s = seen_of c.args.pass.now in let inv = c.loop.invariant in
    let a : ℕ = c.loop.pass.caller in let h = seen_of c.loop.pass in let e = c.find_both.ensures in let b : ℕ = c.find_both.new.pass.caller in let k = seen_of c.find_both.new.pass in let e₂ = c.move_here.ensures in let b₂ : ℕ = c.move_here.new.pass.caller in let k₂ = seen_of c.move_here.new.pass in
    subst (λ (z : ℕ). DoesOnly (MayFill sort to) z s k₂) (e₂.caller ∙ e.caller ∙ inv.2) (fills_search_on sort to b b₂ s k k₂ e₂.caller (fills_search_on sort to a b s h k e.caller inv.5 e.leaves) e₂.leaves)

pub loop-preserved : goal.loop-preserved
loop-preserved g c = let layout : Layout = g.N.Node.layout in let sort = sort_of layout g.N.Node.ranged in let n : ℕ = c.args.arena.now.nodes in let from : ℕ = c.args.from in let to : ℕ = c.args.to in let s = seen_of c.args.pass.now in let inv = c.loop.invariant in
    let a : ℕ = c.loop.pass.caller in let h = seen_of c.loop.pass in let e = c.find_both.ensures in let b : ℕ = c.find_both.new.pass.caller in let k = seen_of c.find_both.new.pass in let e₂ = c.move_here.ensures in let b₂ : ℕ = c.move_here.new.pass.caller in let k₂ = seen_of c.move_here.new.pass in
    let e₃ = c.clear_room-room.ensures in let b₃ : ℕ = c.clear_room-room.new.pass.caller in let k₃ = seen_of c.clear_room-room.new.pass in
    let does = fills_search_on sort to b b₂ s k k₂ e₂.caller (fills_search_on sort to a b s h k e.caller inv.5 e.leaves) e₂.leaves in (
      e₃.pass.0,
      e₃.pass.1,
      e₃.caller ∙ e₂.caller ∙ e.caller ∙ inv.2,
      goes_on b₂ b₃ from to s k₂ k₃ e₃.caller e₃.stretch (as_new b b₂ from to s k₂ e₂.caller (c.in-NoRoom.ensures.step.1 give_up from to s (as_new a b from to s k e.caller (e.under from to s inv.3)))),
      (λ t. is_refused layout n to b₂ b₃ s k₂ k₃ e₃.caller does.grows (e₃.refused (not_true c.clear_room-room.result t))),
      fills_on sort to b₂ b₃ s k₂ k₃ e₃.caller does e₃.fills,
    )
