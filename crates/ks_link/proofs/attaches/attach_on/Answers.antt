use Rattle.std.proofs.Common.{ℕ, [], ◌∷◌, inl, inr, sym, refl, ap, ◌∙◌, length, subst, arith}
use Rattle.std.specs.Prelude.{IsTrue, Option}
use Rattle.ks_history.specs.Alone.{ActsAlone}
use Rattle.ks_history.specs.Laws.Alone.{alone_first, alone_then}
use Rattle.ks_history.specs.Laws.Stays.{lawful_in_turn}
use Rattle.ks_history.specs.Trace.{◌⊑◌}
use Rattle.ks_history.specs.Done.{link_move}
use Rattle.ks_history.specs.Stretch.{Stretch}
use Rattle.ks_history.specs.Laws.Stretch.{stretch_begins, stretch_both, stretch_here}
use Rattle.ks_arena.specs.Sound.{sort_of}
use Rattle.ks_arena.specs.Clauses.{seen_of}
use Rattle.ks_shape.specs.Makes.{TwoFree}
use Rattle.ks_shape.specs.Laws.Makes.{two_before}
use Rattle.ks_link.specs.declared.parts.Waiting.{Waiting}
use Rattle.ks_link.specs.Leads.{IsLedAfter, LedBut, waits_if}
use Rattle.ks_link.proofs.Leading.{holds_none, led_both}
use Rattle.ks_shape.specs.Does.{DoesOnly, MayFill}
use Rattle.ks_shape.specs.Laws.Does.{does_none, fills_on}
use Rattle.ks_link.proofs.attaches.attach_on.Given.{Over}
use Rattle.ks_link.proofs.attaches.attach_on.Goals as goal
use Rattle.ks_link.proofs.attaches.attach_on.Goals.{After-attach_one}

pub loop-init : goal.loop-init
loop-init g c = let h = seen_of c.args.pass.now in (c.requires.pass.0, c.requires.pass.1, refl, c.requires.off, stretch_here link_move c.args.pass.now.caller h h (omega (arith, ap length c.requires.pass.1)), (λ adopts halves alone two. ((λ i live. inl live), inl refl)), λ place. does_none (MayFill (sort_of g.N.Node.layout g.N.Node.ranged) place) c.args.pass.now.caller h)

-- one more was led to
led_on : (g : Over) (c : After-attach_one g) → IsTrue g.N.Node.branches_adopt → IsTrue g.N.Node.halves_have_room → ActsAlone c.args.pass.now.caller (seen_of c.args.pass.now) (seen_of c.attach_one.new.pass) → TwoFree c.args.arena.now.nodes (seen_of c.attach_one.new.pass)
    → IsLedAfter (sort_of g.N.Node.layout g.N.Node.ranged) (seen_of c.attach_one.new.pass) c.args.to.node × LedBut (sort_of g.N.Node.layout g.N.Node.ranged) (waits_if c.attach_one.result) (seen_of c.args.pass.now) (seen_of c.attach_one.new.pass)
led_on g c adopts halves alone two = let sort = sort_of g.N.Node.layout g.N.Node.ranged in let n : ℕ = c.args.arena.now.table.shared.table_id.slots in let e = c.attach_one.ensures in let h = seen_of c.args.pass.now in let k = seen_of c.loop.pass in let l = seen_of c.attach_one.new.pass in let me : ℕ = c.loop.pass.caller in let law = c.sound_law.ensures in
    let alone' = subst (λ (z : ℕ). ActsAlone z h l) (sym c.loop.invariant.2) alone in
    let till : h ⊑ k = stretch_begins link_move me h k c.loop.invariant.4 in let on : k ⊑ l = stretch_begins link_move me k l e.stretch in
    let lasts = law.lasts sort n k l on e.pass.0.sound in let then = alone_then me h k l till on alone' in
    let two' = two_before c.args.arena.now.nodes me k l then (lawful_in_turn l (law.lawful sort n l e.pass.0.sound)) lasts.live (holds_none me k c.loop.invariant.1) two in
    let before = c.loop.invariant.5 adopts halves (alone_first me h k l till on alone') two' in
    let leads = e.leads adopts halves then two in (
      elim before.1 [ inl same ↦ subst (IsLedAfter sort l) same leads | inr led ↦ lasts.led c.args.to.node led ],
      led_both sort (c.loop.to ∷ []) (waits_if c.attach_one.result) h k l lasts (λ i waits. elim waits [ inl is ↦ subst (IsLedAfter sort l) is leads | inr none ↦ absurd none ]) before.0 (e.led then),
    )

pub loop-preserved : goal.loop-preserved
loop-preserved g c = let at = (goal.at.loop-preserved g c).After-attach_one in let sort = sort_of g.N.Node.layout g.N.Node.ranged in let e = c.attach_one.ensures in let h = seen_of c.args.pass.now in let k = seen_of c.loop.pass in let l = seen_of c.attach_one.new.pass in let me : ℕ = c.loop.pass.caller in (
  e.pass.0,
  e.pass.1,
  e.caller ∙ c.loop.invariant.2,
  e.off c.in-Some-attach_one.next c.in-Some-attach_one.is,
  subst (λ (z : ℕ). Stretch link_move z h l) (sym e.caller) (stretch_both link_move me h k l c.loop.invariant.4 e.stretch),
  (λ adopts halves alone two. let both = led_on g at adopts halves (subst (λ (z : ℕ). ActsAlone z h l) (e.caller ∙ c.loop.invariant.2) alone) two in
      (subst (λ (o : Option Waiting). LedBut sort (waits_if o) h l) c.in-Some-attach_one.is both.1, inr both.0)),
  (λ place. fills_on (sort_of g.N.Node.layout g.N.Node.ranged) place me c.attach_one.new.pass.caller h k l e.caller (c.loop.invariant.6 place) (e.fills place)),
)

pub returns-in-None-attach_one-clause-stretch : goal.returns-in-None-attach_one-clause-stretch
returns-in-None-attach_one-clause-stretch g c = let e = c.attach_one.ensures in let h = seen_of c.args.pass.now in let k = seen_of c.loop.pass in let l = seen_of c.attach_one.new.pass in let me : ℕ = c.loop.pass.caller in
    subst (λ (z : ℕ). Stretch link_move z h l) c.loop.invariant.2 (stretch_both link_move me h k l c.loop.invariant.4 e.stretch)

pub returns-in-None-attach_one-clause-leads : goal.returns-in-None-attach_one-clause-leads
returns-in-None-attach_one-clause-leads g c = λ adopts halves alone two. let at = (goal.at.returns-in-None-attach_one-clause-leads g c).After-attach_one in let sort = sort_of g.N.Node.layout g.N.Node.ranged in let h = seen_of c.args.pass.now in let l = seen_of c.attach_one.new.pass in
    let both = led_on g at adopts halves alone two in (both.0, subst (λ (o : Option Waiting). LedBut sort (waits_if o) h l) c.in-None-attach_one.is both.1)

-- the kinds of its events

pub returns-in-None-attach_one-clause-fills : goal.returns-in-None-attach_one-clause-fills
returns-in-None-attach_one-clause-fills g c = λ place. let e = c.attach_one.ensures in let h = seen_of c.args.pass.now in let k = seen_of c.loop.pass in let l = seen_of c.attach_one.new.pass in let me : ℕ = c.loop.pass.caller in
    subst (λ (z : ℕ). DoesOnly (MayFill (sort_of g.N.Node.layout g.N.Node.ranged) place) z h l) c.loop.invariant.2 (fills_on (sort_of g.N.Node.layout g.N.Node.ranged) place me me h k l refl (c.loop.invariant.6 place) (e.fills place))
