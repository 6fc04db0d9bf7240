use Rattle.std.proofs.Common.{◌≡◌, ℕ, [], inl, inr, sym, refl, ap, ◌∙◌, length, subst, arith}
use Rattle.std.specs.Prelude.{slice_index_or}
use Rattle.std.proofs.lemmas.Bool.{cases_lt}
use Rattle.ks_history.specs.Alone.{ActsAlone}
use Rattle.ks_history.specs.Laws.Alone.{alone_first, alone_then}
use Rattle.ks_history.specs.Laws.Stays.{lawful_in_turn}
use Rattle.ks_history.specs.Trace.{◌⊑◌}
use Rattle.ks_arena.specs.Sound.{sort_of}
use Rattle.ks_arena.specs.Clauses.{seen_of}
use Rattle.ks_history.specs.Done.{link_move}
use Rattle.ks_history.specs.Stretch.{Stretch}
use Rattle.ks_history.specs.Laws.Stretch.{stretch_both, stretch_here, stretch_begins}
use Rattle.ks_shape.specs.Laws.Makes.{two_before}
use Rattle.ks_link.specs.declared.parts.Waiting.{Waiting}
use Rattle.ks_link.specs.Leads.{IsLedAfter}
use Rattle.ks_link.proofs.Leading.{holds_none, led_then, waits_at}
use Rattle.ks_link.proofs.Rooms.{all_later}
use Rattle.ks_shape.specs.Does.{DoesOnly, MayFill}
use Rattle.ks_shape.specs.Laws.Does.{does_none, fills_on}
use Rattle.ks_link.proofs.attaches.attach_all.Goals as goal

pub loop-to-init : goal.loop-to-init
loop-to-init g c = let h = seen_of c.args.pass.now in (c.requires.pass.0, c.requires.pass.1, refl, c.requires.off, stretch_here link_move c.args.pass.now.caller h h (omega (arith, ap length c.requires.pass.1)), (λ adopts halves alone two. ((λ i live. inl live), λ j lt. absurd (omega (arith, lt)))), λ place. does_none (MayFill (sort_of g.N.Node.layout g.N.Node.ranged) place) c.args.pass.now.caller h)

pub loop-to-preserved : goal.loop-to-preserved
loop-to-preserved g c = let sort = sort_of g.N.Node.layout g.N.Node.ranged in let n : ℕ = c.args.arena.now.table.shared.table_id.slots in let e = c.attach_on.ensures in let h = seen_of c.args.pass.now in let k = seen_of c.loop-to.pass in let l = seen_of c.attach_on.new.pass in let me : ℕ = c.loop-to.pass.caller in (
  e.pass.0,
  e.pass.1,
  e.caller ∙ c.loop-to.invariant.2,
  all_later sort k l c.args.waiting.now (c.sound_law.ensures.lasts sort n k l (stretch_begins link_move me k l e.stretch) e.pass.0.sound) c.loop-to.invariant.3,
  subst (λ (z : ℕ). Stretch link_move z h l) (sym e.caller) (stretch_both link_move me h k l c.loop-to.invariant.4 e.stretch),
  (λ adopts halves alone two. let alone' = subst (λ (z : ℕ). ActsAlone z h l) e.caller alone in let law = c.sound_law.ensures in
      let till : h ⊑ k = stretch_begins link_move me h k c.loop-to.invariant.4 in let on : k ⊑ l = stretch_begins link_move me k l e.stretch in
      let lasts = law.lasts sort n k l on e.pass.0.sound in let then = alone_then me h k l till on alone' in
      let two' = two_before c.args.arena.now.nodes me k l then (lawful_in_turn l (law.lawful sort n l e.pass.0.sound)) lasts.live (holds_none me k c.loop-to.invariant.1) two in
      let before = c.loop-to.invariant.5 adopts halves (alone_first me h k l till on alone') two' in
      let both = e.leads adopts halves then two in let element : ℕ → Waiting = λ j. slice_index_or c.args.waiting.now j record { cut = 0; node = 0; level = 0 } in (
        led_then sort [] h k l lasts before.0 both.1,
        λ j lt. elim (cases_lt j c.loop-to.to-index) [
          | inl less ↦ lasts.led (element j).node (before.1 j less)
          | inr ge ↦ (let same : c.loop-to.to-index ≡ j = omega (arith, lt, ge) in subst (λ (z : ℕ). IsLedAfter sort l (element z).node) same both.0)
        ],
      )),
  (λ place. fills_on (sort_of g.N.Node.layout g.N.Node.ranged) place me c.attach_on.new.pass.caller h k l e.caller (c.loop-to.invariant.6 place) (e.fills place)),
)

pub returns-clause-leads : goal.returns-clause-leads
returns-clause-leads g c = λ adopts halves alone two. let sort = sort_of g.N.Node.layout g.N.Node.ranged in let k = seen_of c.loop-to.pass in
    let alone' = subst (λ (z : ℕ). ActsAlone z (seen_of c.args.pass.now) k) (sym c.loop-to.invariant.2) alone in let inv = c.loop-to.invariant.5 adopts halves alone' two in
    ((λ i waits. let at = waits_at c.args.waiting.now i waits in subst (IsLedAfter sort k) (at.2 record { cut = 0; node = 0; level = 0 }) (inv.1 at.0 (omega (arith, at.1, c.loop-to-test.false)))), inv.0)

-- the kinds of its events

pub returns-clause-fills : goal.returns-clause-fills
returns-clause-fills g c = λ place. subst (λ (z : ℕ). DoesOnly (MayFill (sort_of g.N.Node.layout g.N.Node.ranged) place) z (seen_of c.args.pass.now) (seen_of c.loop-to.pass)) c.loop-to.invariant.2 (c.loop-to.invariant.6 place)
