-- How a non-blocking search along links goes on, how far it can go, and what puts it off.
use Rattle.std.proofs.Common.{◌≡◌, ◌≢◌, ℕ, ◌+◌, ◌-◌, ◌*◌, ◌<◌, ◌≤◌, inl, inr, List, ap, arith}
use Rattle.std.specs.Prelude.{◌⊎◌, Some}
use Rattle.ks_keysets.specs.declared.Frame.{Frame}
use Rattle.ks_keysets.specs.declared.Record.{Record}
use Rattle.ks_keysets.specs.Record.{LeadsTo}
use Rattle.ks_keysets.specs.Keyset.{record_at}
use Rattle.ks_history.specs.declared.Event.{Event}
use Rattle.ks_history.specs.declared.Op.{Op}
use Rattle.ks_history.specs.Laws.Begins.{begins_self}
use Rattle.ks_history.specs.Done.{link_move}
use Rattle.ks_history.specs.Refusals.{IsOnWay, BusyDue}
use Rattle.ks_history.specs.Laws.Dues.{sometime_wider}
use Rattle.ks_history.specs.Map.{Touches}
use Rattle.ks_history.specs.Trace.{◌⊑◌, held, graph_after, turn_after}
use Rattle.ks_node.specs.Body.{Body, frame_of}
use Rattle.ks_shape.specs.declared.answers.Later.{Later}
use Rattle.ks_shape.specs.declared.answers.Later.TheVariants.{Busy, Moved, Far}
use Rattle.ks_shape.specs.Tries.{IsCause}
use Rattle.ks_link.specs.Tries.{IsOnFrom}

-- a step on in the graph is one between bodies, which others leave as to level and low
pub on_from : (f k : ℕ → Frame) (n m y : ℕ) (a b : Body) → f n ≡ frame_of a → k y ≡ frame_of b → y ≡ m → (k m).level ≡ (f m).level → (k m).low ≡ (f m).low → ((f m).level < (f n).level) ⊎ (((f m).level ≡ (f n).level) × ((f n).low < (f m).low)) → IsOnFrom a b
on_from f k n m y a b from to same level low step =
    let level_a : (f n).level ≡ a.level = ap (λ (x : Frame). x.level) from in
    let low_a : (f n).low ≡ a.low = ap (λ (x : Frame). x.low) from in
    let level_b : (k y).level ≡ b.level = ap (λ (x : Frame). x.level) to in
    let low_b : (k y).low ≡ b.low = ap (λ (x : Frame). x.low) to in
    let level_m : (k y).level ≡ (k m).level = ap (λ (i : ℕ). (k i).level) same in
    let low_m : (k y).low ≡ (k m).low = ap (λ (i : ℕ). (k i).low) same in
    elim step [
      | inl down ↦ inl (omega (arith, down, level_a, level_b, level_m, level))
      | inr right ↦ inr (omega (arith, right.0, level_a, level_b, level_m, level), omega (arith, right.1, low_a, low_b, low_m, low))
    ]

-- how far a search can go from a node: levels down, and places to the right
abbrev pub way_left : Body → ℕ
way_left b = b.level * 18446744073709551616 + (18446744073709551616 - b.low)

pub less_left : (a b : Body) → a.low ≤ 18446744073709551615 → IsOnFrom a b → way_left b < way_left a
less_left a b low step = elim step [ inl down ↦ omega (arith, low, down) | inr right ↦ omega (arith, low, right.0, right.1) ]

-- a node to which an edge led, and which another holds, may put the search off
pub met_busy : (c d place i n : ℕ) (r : Record) (h k : List Event) → h ⊑ k → record_at (graph_after h) n ≡ Some r → LeadsTo r place i → turn_after k i ≡ held d → d ≢ c → (op : Op) → Touches op place → BusyDue c op h k i d
met_busy c d place i n r h k begins is leads turn other op touched = record {
  another = other;
  place = place;
  touched = touched;
  on_way = record { moment = h; since = begins_self h; until = begins; so = inr (n, r, is, leads) };
  is_held = record { moment = k; since = begins; until = begins_self k; so = turn };
}

-- what put it off did so since any earlier moment
pub cause_since : (n c : ℕ) (op : Op) (r s t : List Event) (later : Later) → r ⊑ s → IsCause link_move n c op s t later → IsCause link_move n c op r t later
cause_since n c op r s t (Busy node holder) begins due = record {
  another = due.another;
  place = due.place;
  touched = due.touched;
  on_way = sometime_wider r s t t (λ h. IsOnWay (graph_after h) due.place node) begins (begins_self t) due.on_way;
  is_held = sometime_wider r s t t (λ h. turn_after h node ≡ held holder) begins (begins_self t) due.is_held;
}
cause_since n c op r s t (Moved node) begins due = absurd due.0
cause_since n c op r s t Far begins due = absurd due.0
