-- Calls that go on after they were decided.
use Rattle.std.proofs.Common.{◌≡◌, ◌≢◌, ◌≤◌, ℕ, List, [], ◌∷◌, ◌++◌, length, refl, sym, ap, ◌∙◌, subst, append_assoc}
use Rattle.ks_keysets.specs.declared.Frame.{Frame}
use Rattle.ks_keysets.specs.Layout.{Layout}
use Rattle.ks_history.specs.declared.Event.{Event}
use Rattle.ks_history.specs.declared.Event.TheVariants.{Call}
use Rattle.ks_history.specs.declared.Op.{Op}
use Rattle.ks_history.specs.declared.Reply.{Reply}
use Rattle.ks_history.specs.declared.Reply.TheVariants.{Full}
use Rattle.ks_history.specs.Own.{hand}
use Rattle.ks_history.specs.Frames.{frame_after}
use Rattle.ks_history.specs.Laws.Begins.{by_others_keeps, no_call_both, with_others}
use Rattle.ks_history.specs.Laws.Stays.{AreInTurn}
use Rattle.ks_history.specs.Laws.Underway.{underway_call}
use Rattle.ks_history.specs.Done.{Done, DoneAt, Hands, Template, and_on, at_first, most_held}
use Rattle.ks_history.specs.Stays.{StaysHeld}
use Rattle.ks_history.specs.Trace.{held, turn_after}
use Rattle.ks_history.specs.Underway.{Decided, Underway}
use Rattle.ks_arena.specs.Clauses.{Numbered}
use Rattle.ks_tidy.specs.Where.{DecidedAt}

pub hands_on : {template : Template} {c : ℕ} {op : Op} {s h k : List Event} → Hands template c op s h → Hands template c op h k → Hands template c op s k
hands_on a (at_first few) = a
hands_on a (and_on before well few) = and_on (hands_on a before) well few

-- a call that is decided may go on, and is done once nothing is held
abbrev pub decided_on : (layout : Layout) (template : Template) (n c : ℕ) (op : Op) (s h k : List Event) (reply : Reply) (number : ℕ) → Decided layout template n c op s h reply number → Underway template c op h k → hand c k ≡ [] → Done layout template n c op s k reply number
decided_on layout template n c op s h k reply number was on empty = record {
  before = was.before;
  event = was.event;
  after = on.rest ++ was.after;
  is = on.is ∙ ap (λ (z : List Event). on.rest ++ z) was.is ∙ sym (append_assoc on.rest was.after (was.event ∷ (was.before ++ s)));
  call = was.call;
  none_before = was.none_before;
  none_after = no_call_both c on.rest was.after on.none was.none_after;
  numbered = was.numbered;
  gave_all = empty;
  hands = hands_on was.hands on.hands;
  full = was.full;
}

-- so it is with the node where it was decided
pub decided_at_on : (layout : Layout) (template : Template) (n c : ℕ) (op : Op) (s h k : List Event) (reply : Reply) (number node : ℕ) (blank frame : Frame) → DecidedAt layout template n c op s h reply number node blank frame → Underway template c op h k → hand c k ≡ []
    → DoneAt layout template n c op s k reply number node blank frame
decided_at_on layout template n c op s h k reply number node blank frame was on empty = record { done = decided_on layout template n c op s h k reply number was.decided on empty; at = was.at; framed = was.framed }

-- the call of c is decided at a node that it holds, whose frame is this one
pub decided_there : (layout : Layout) (template : Template) (n c i number : ℕ) (op : Op) (reply : Reply) (blank frame : Frame) (s0 h k : List Event) → AreInTurn k → turn_after h i ≡ held c → frame_after blank h i ≡ frame → Numbered c (Call c i op reply) h k number → length (hand c k) ≤ most_held template op → reply ≢ Full
    → Underway template c op s0 h → DecidedAt layout template n c op s0 k reply number i blank frame
decided_there layout template n c i number op reply blank frame s0 h k are mine framed called few some under =
    let so = called.grows in
    let before : List Event = so.rest ++ h in
    let stays : StaysHeld c i h before = by_others_keeps c i h before (with_others c (Call c i op reply) h k so) (subst AreInTurn so.is are).0 mine in
    let joined : (so.rest ++ under.rest) ++ s0 ≡ before = append_assoc so.rest under.rest s0 ∙ sym (ap (λ (z : List Event). so.rest ++ z) under.is) in
    record {
      decided = underway_call layout template n c i op reply number s0 h k so few called.number (λ full. absurd (some full)) under;
      at = refl;
      framed = ap (λ (z : List Event). frame_after blank z i) joined ∙ stays.frame blank ∙ framed;
    }
