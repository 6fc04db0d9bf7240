use Rattle.std.proofs.Common.{◌≡◌, ◌∙◌, ℕ, List, sym, ap, subst, arith}
use Rattle.std.specs.Prelude.{IfSome}
use Rattle.ks_history.specs.declared.Event.{Event}
use Rattle.ks_history.specs.Done.{give_up}
use Rattle.ks_history.specs.Trace.{◌⊑◌}
use Rattle.ks_history.specs.Underway.{Underway}
use Rattle.ks_history.specs.Laws.Underway.{underway_first}
use Rattle.ks_arena.specs.Sound.{sort_of}
use Rattle.ks_arena.specs.Clauses.{seen_of}
use Rattle.ks_arena.specs.Visits.{held_if}
use Rattle.ks_giveup.specs.Descent.{Came}
use Rattle.ks_shape.specs.Does.{DoesOnly, MaySearch}
use Rattle.ks_shape.specs.Hinted.{BeginsAt, WasAbove}
use Rattle.ks_shape.specs.Laws.Does.{does_both}
use Rattle.ks_shape.specs.Laws.Located.{hint_begins, hint_on, was_above_on}
use Rattle.ks_giveup.proofs.near.find_near.Goals as goal

pub visit-here-requires-clause-node : goal.visit-here-requires-clause-node
visit-here-requires-clause-node g c = omega (arith, c.start_of-start.ensures.near (omega (arith, c.nodes-nodes.ensures)), c.nodes-nodes.ensures)

pub loop-init : goal.loop-init
loop-init g c = let me : ℕ = c.args.pass.now.caller in let s = seen_of c.args.pass.now in let k = seen_of c.visit-here.new.pass in let e = c.visit-here.ensures in (
  e.pass,
  e.caller,
  e.came,
  (λ op. e.under op s (underway_first give_up me op s c.requires.pass.1)),
  e.leaves,
  tt,
  hint_begins c.args.arena.now.nodes c.nodes-nodes.result me c.start_of-start.result s k c.nodes-nodes.ensures c.args.hint c.start_of-start.ensures.hinted e.first,
  e.lies,
)

pub loop-preserved-in_default : goal.loop-preserved-in_default
loop-preserved-in_default g c = let sort = sort_of g.N.Node.layout g.N.Node.ranged in let me : ℕ = c.args.pass.now.caller in let inv = c.loop.invariant in let s = seen_of c.args.pass.now in let h = seen_of c.loop.pass in let k = seen_of c.visit-here-in_default.new.pass in let e = c.visit-here-in_default.ensures in
    let on : DoesOnly MaySearch me h k = subst (λ (z : ℕ). DoesOnly MaySearch z h k) inv.1 e.leaves in (
      e.pass,
      e.caller ∙ inv.1,
      subst (λ (z : ℕ). Came sort g.N.Node.body z c.args.place k (held_if c.visit-here-in_default.result)) inv.1 e.came,
      (λ op. subst (λ (z : ℕ). Underway give_up z op s h → Underway give_up z op s k) inv.1 (e.under op s) (inv.3 op)),
      does_both MaySearch me s h k inv.4 on,
      was_above_on sort c.args.place s h k on.grows c.loop.above inv.5,
      hint_on c.args.arena.now.nodes me s h k inv.4.grows on.grows c.args.hint inv.6,
      e.lies,
    )

pub loop-preserved : goal.loop-preserved
loop-preserved g c = let sort = sort_of g.N.Node.layout g.N.Node.ranged in let me : ℕ = c.args.pass.now.caller in let inv = c.loop.invariant in let s = seen_of c.args.pass.now in let h = seen_of c.loop.pass in let k = seen_of c.pass_by-above.new.pass in let l = seen_of c.visit-here-in-Go.new.pass in let b = c.pass_by-above.ensures in let e = c.visit-here-in-Go.ensures in
    let a : ℕ = c.next-in-loop.new.pass.caller in let seen = ap seen_of c.next-in-loop.ensures.same in
    let from : a ≡ me = ap (λ p. p.caller) c.next-in-loop.ensures.same ∙ inv.1 in
    let same : c.pass_by-above.new.pass.caller ≡ me = b.caller ∙ from in
    let by : DoesOnly MaySearch me h k = subst (λ (z : ℕ). DoesOnly MaySearch z h k) from (subst (λ (z : List Event). DoesOnly MaySearch a z k) seen b.leaves) in
    let on : DoesOnly MaySearch me k l = subst (λ (z : ℕ). DoesOnly MaySearch z k l) same e.leaves in
    let both : DoesOnly MaySearch me h l = does_both MaySearch me h k l by on in (
      e.pass,
      e.caller ∙ same,
      subst (λ (z : ℕ). Came sort g.N.Node.body z c.args.place l (held_if c.visit-here-in-Go.result)) same e.came,
      (λ op. subst (λ (z : ℕ). Underway give_up z op s k → Underway give_up z op s l) same (e.under op s) (subst (λ (z : ℕ). Underway give_up z op s h → Underway give_up z op s k) from (subst (λ (z : List Event). Underway give_up a op s z → Underway give_up a op s k) seen (b.under op s)) (inv.3 op))),
      does_both MaySearch me s h l inv.4 both,
      was_above_on sort c.args.place s k l on.grows c.pass_by-above.result (subst (λ (z : List Event). s ⊑ z → IfSome c.loop.above (WasAbove sort c.args.place s z) → IfSome c.pass_by-above.result (WasAbove sort c.args.place s k)) seen (b.above s) inv.4.grows inv.5),
      hint_on c.args.arena.now.nodes me s h l inv.4.grows both.grows c.args.hint inv.6,
      e.lies,
    )

pub returns-in-Here-clause-first : goal.returns-in-Here-clause-first
returns-in-Here-clause-first g c = subst (λ (z : List Event). IfSome c.args.hint (λ i. BeginsAt c.args.arena.now.nodes c.args.pass.now.caller i (seen_of c.args.pass.now) z)) (sym (c.lift-held.ensures.seen ∙ ap seen_of c.next-in-loop.ensures.same)) c.loop.invariant.6
