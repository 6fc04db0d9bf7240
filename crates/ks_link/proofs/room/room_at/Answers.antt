use Rattle.std.proofs.Common.{◌≡◌, ℕ, Bool, true, false, List, [], inl, inr, refl, sym, ap, ◌∙◌, length, subst, arith}
use Rattle.std.specs.Prelude.{◌⊎◌, All, Err}
use Rattle.std.proofs.lemmas.List.Elements.{All-nil}
use Rattle.ks_history.specs.declared.Event.{Event}
use Rattle.ks_history.specs.Alone.{ActsAlone}
use Rattle.ks_history.specs.Trace.{◌⊑◌}
use Rattle.ks_history.specs.Laws.Alone.{alone_first, alone_then}
use Rattle.ks_history.specs.Laws.Begins.{good_now}
use Rattle.ks_history.specs.Laws.Dues.{none_free_earlier}
use Rattle.ks_history.specs.Done.{link_move}
use Rattle.ks_history.specs.Stretch.{Stretch}
use Rattle.ks_history.specs.Laws.Stretch.{stretch_both, stretch_begins, stretch_here}
use Rattle.ks_arena.specs.declared.held.Held.{Held as Hand}
use Rattle.ks_arena.specs.Sound.{Sort, sort_of}
use Rattle.ks_arena.specs.Clauses.{seen_of}
use Rattle.ks_link.specs.declared.parts.Waiting.{Waiting}
use Rattle.ks_node.specs.Room.{is_full}
use Rattle.ks_link.specs.Descent.{IsOnWay}
use Rattle.ks_link.specs.Leads.{LedBut}
use Rattle.ks_link.specs.Parts.{IsSplitOff}
use Rattle.ks_shape.specs.Fills.{FoundRoom}
use Rattle.ks_link.proofs.Leading.{Lasts, led_then}
use Rattle.ks_link.proofs.Ways.{ends_here}
use Rattle.ks_shape.specs.Does.{DoesOnly, MayFill}
use Rattle.ks_shape.specs.Laws.Does.{does_none, fills_on}
use Rattle.ks_link.proofs.room.room_at.Goals as goal

-- a full node is split first, before anything waits, if halves have room
none_waits : (ws : List Waiting) (full : Bool) → (ws ≡ []) ⊎ (full ≡ false) → full ≡ true → ws ≡ []
none_waits ws full (inl empty) is = empty
none_waits ws full (inr room) is = absurd (let q : false ≡ true = sym room ∙ is in cc)

-- so only what it makes live waits
led_on : (sort : Sort) (ws vs : List Waiting) (me : ℕ) (h k l : List Event) → h ⊑ k → k ⊑ l → Lasts sort k l → ws ≡ [] → (ActsAlone me h k → LedBut sort ws h k) → (ws ≡ [] → ActsAlone me k l → LedBut sort vs k l) → ActsAlone me h l → LedBut sort vs h l
led_on sort ws vs me h k l till on lasts empty first then alone = led_then sort vs h k l lasts (subst (λ (z : List Waiting). LedBut sort z h k) empty (first (alone_first me h k l till on alone))) (then empty (alone_then me h k l till on alone))

pub loop-held-init : goal.loop-held-init
loop-held-init g c = let sort = sort_of g.N.Node.layout g.N.Node.ranged in let h = seen_of c.args.pass.now in (
  c.requires.pass,
  refl,
  c.requires.way,
  c.requires.ends,
  stretch_here link_move c.args.pass.now.caller h h (omega (arith, ap length c.requires.way.alone)),
  subst (λ (ws : List Waiting). All (λ w. IsSplitOff sort h w) ws) (sym c.requires.waiting) (All-nil (λ w. IsSplitOff sort h w)),
  (λ promise. inl c.requires.waiting),
  (λ promise alone i live. inl live),
  does_none (MayFill (sort_of g.N.Node.layout g.N.Node.ranged) c.args.place) c.args.pass.now.caller h,
)

pub make_room-requires-clause-full : goal.make_room-requires-clause-full
make_room-requires-clause-full g c = (c.has_room.ensures.none c.if-has_room.false).1

pub loop-held-smaller : goal.loop-held-smaller
loop-held-smaller g c = c.in-Ok.ensures.narrower

pub loop-held-preserved : goal.loop-held-preserved
loop-held-preserved g c = let sort = sort_of g.N.Node.layout g.N.Node.ranged in let n : ℕ = c.args.arena.now.table.shared.table_id.slots in let e = c.make_room.ensures in let h = seen_of c.args.pass.now in let k = seen_of c.loop-held.pass in let l = seen_of c.make_room.new.pass in let me : ℕ = c.loop-held.pass.caller in let inv = c.loop-held.invariant in let made = c.in-Ok.ensures.made in (
  e.pass,
  e.caller ∙ inv.1,
  subst (λ (z : ℕ). IsOnWay sort g.N.Node.body z c.args.place l c.in-Ok.next) (sym e.caller) made.0,
  made.1,
  subst (λ (z : ℕ). Stretch link_move z h l) (sym e.caller) (stretch_both link_move me h k l inv.4 e.stretch),
  e.waiting,
  (λ promise. inr (c.in-Ok.ensures.room promise)),
  (λ promise alone. led_on sort c.loop-held.waiting.items c.make_room.new.waiting.items me h k l (stretch_begins link_move me h k inv.4) (stretch_begins link_move me k l e.stretch) (c.sound_law.ensures.lasts sort n k l (stretch_begins link_move me k l e.stretch) e.pass.sound)
      (none_waits c.loop-held.waiting.items (is_full g.N.Node.layout (g.N.Node.body c.loop-held.held.body)) (inv.6 promise) (c.has_room.ensures.none c.if-has_room.false).1) (inv.7 promise) e.led (subst (λ (z : ℕ). ActsAlone z h l) e.caller alone)),
  fills_on (sort_of g.N.Node.layout g.N.Node.ranged) c.args.place me c.make_room.new.pass.caller h k l e.caller inv.8 (e.fills (let none = c.has_room.ensures.none c.if-has_room.false in (none.1, λ leaf. none.0))),
)

pub returns-then-has_room-clause-found : goal.returns-then-has_room-clause-found
returns-then-has_room-clause-found g c = let sort = sort_of g.N.Node.layout g.N.Node.ranged in let n : ℕ = c.args.arena.now.table.shared.table_id.slots in let k = seen_of c.loop-held.pass in let x = c.loop-held.held in let inv = c.loop-held.invariant in let law = c.sound_law.ensures in
    let way = subst (λ (z : ℕ). IsOnWay sort g.N.Node.body z c.args.place k x) inv.1 inv.2 in
    record { ends = ends_here sort g.N.Node.body c.args.pass.now.caller c.args.place k x way (law.facts sort n k inv.0.sound) (omega (arith, c.ranges.place)) c.node_law.ensures.sound inv.3 (good_now (law.good sort n k inv.0.sound)); room = c.has_room.ensures.room c.if-has_room.true }

pub returns-in-Err-clause-found : goal.returns-in-Err-clause-found
returns-in-Err-clause-found g c = let sort = sort_of g.N.Node.layout g.N.Node.ranged in let slots : ℕ = c.args.arena.now.table.shared.table_id.slots in let shows = g.N.Node.body in let h = seen_of c.args.pass.now in let k = seen_of c.loop-held.pass in let l = seen_of c.make_room.new.pass in let me : ℕ = c.loop-held.pass.caller in let inv = c.loop-held.invariant in let law = c.sound_law.ensures in
    let made = c.in-Err.ensures.made in let place : ℕ = c.args.place in let n : ℕ = c.args.arena.now.nodes in let x = c.loop-held.held in let told = c.has_room.ensures.none c.if-has_room.false in
    let ends = ends_here sort shows me place l x made.1 (law.facts sort slots l c.make_room.ensures.pass.sound) (omega (arith, c.ranges.place)) c.node_law.ensures.sound inv.3 (good_now (law.good sort slots l c.make_room.ensures.pass.sound)) in
    let none = none_free_earlier g.N.Node.layout n me place h k l (stretch_begins link_move me h k inv.4) made.2 in
    subst (λ (y : Hand g.row.N.Denot). FoundRoom sort shows n c.args.pass.now.caller place h l (Err y)) (sym made.0)
    (subst (λ (z : ℕ). FoundRoom sort shows n z place h l (Err x)) inv.1 (record { ends = ends; absent = told.0; full = told.1 }, none))

pub returns-in-Err-clause-stretch : goal.returns-in-Err-clause-stretch
returns-in-Err-clause-stretch g c = let h = seen_of c.args.pass.now in let k = seen_of c.loop-held.pass in let l = seen_of c.make_room.new.pass in
    subst (λ (z : ℕ). Stretch link_move z h l) c.loop-held.invariant.1 (stretch_both link_move c.loop-held.pass.caller h k l c.loop-held.invariant.4 c.make_room.ensures.stretch)

pub returns-then-has_room-clause-led : goal.returns-then-has_room-clause-led
returns-then-has_room-clause-led g c = λ promise alone. c.loop-held.invariant.7 promise (subst (λ (z : ℕ). ActsAlone z (seen_of c.args.pass.now) (seen_of c.loop-held.pass)) (sym c.loop-held.invariant.1) alone)

pub returns-in-Err-clause-led : goal.returns-in-Err-clause-led
returns-in-Err-clause-led g c = λ promise alone. let sort = sort_of g.N.Node.layout g.N.Node.ranged in let n : ℕ = c.args.arena.now.table.shared.table_id.slots in let e = c.make_room.ensures in let inv = c.loop-held.invariant in
    let h = seen_of c.args.pass.now in let k = seen_of c.loop-held.pass in let l = seen_of c.make_room.new.pass in let me : ℕ = c.loop-held.pass.caller in
    led_on sort c.loop-held.waiting.items c.make_room.new.waiting.items me h k l (stretch_begins link_move me h k inv.4) (stretch_begins link_move me k l e.stretch) (c.sound_law.ensures.lasts sort n k l (stretch_begins link_move me k l e.stretch) e.pass.sound)
    (none_waits c.loop-held.waiting.items (is_full g.N.Node.layout (g.N.Node.body c.loop-held.held.body)) (inv.6 promise) (c.has_room.ensures.none c.if-has_room.false).1) (inv.7 promise) e.led (subst (λ (z : ℕ). ActsAlone z h l) (sym inv.1) alone)

-- the kinds of its events

pub returns-then-has_room-clause-fills : goal.returns-then-has_room-clause-fills
returns-then-has_room-clause-fills g c = let inv = c.loop-held.invariant in subst (λ (z : ℕ). DoesOnly (MayFill (sort_of g.N.Node.layout g.N.Node.ranged) c.args.place) z (seen_of c.args.pass.now) (seen_of c.loop-held.pass)) inv.1 inv.8

pub returns-in-Err-clause-fills : goal.returns-in-Err-clause-fills
returns-in-Err-clause-fills g c = let inv = c.loop-held.invariant in let me : ℕ = c.loop-held.pass.caller in let h = seen_of c.args.pass.now in let k = seen_of c.loop-held.pass in let l = seen_of c.make_room.new.pass in
    subst (λ (z : ℕ). DoesOnly (MayFill (sort_of g.N.Node.layout g.N.Node.ranged) c.args.place) z h l) inv.1 (fills_on (sort_of g.N.Node.layout g.N.Node.ranged) c.args.place me me h k l refl inv.8 (c.make_room.ensures.fills (let none = c.has_room.ensures.none c.if-has_room.false in (none.1, λ leaf. none.0))))
