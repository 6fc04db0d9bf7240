-- How a call under way is done.
use Rattle.std.proofs.Common.{◌≡◌, ℕ, List, [], ◌∷◌, ◌++◌, length, append_assoc, ap, sym, subst, ◌∙◌, refl, arith}
use Rattle.ks_keysets.specs.declared.Frame.{Frame}
use Rattle.ks_keysets.specs.declared.Pair.{Pair}
use Rattle.ks_keysets.specs.Layout.{Layout}
use Rattle.ks_history.specs.declared.Event.{Event}
use Rattle.ks_history.specs.declared.Event.TheVariants.{Give, Call}
use Rattle.ks_history.specs.declared.Op.{Op}
use Rattle.ks_history.specs.declared.Reply.{Reply}
use Rattle.ks_history.specs.declared.Reply.TheVariants.{Full}
use Rattle.ks_history.specs.Map.{Touches}
use Rattle.ks_history.specs.Own.{hand, drop_one}
use Rattle.ks_history.specs.Frames.{frame_after}
use Rattle.ks_history.specs.Trace.{held, turn_after}
use Rattle.ks_history.specs.Passes.{GrowsWith}
use Rattle.ks_history.specs.Due.{NoneFree, FullDue}
use Rattle.ks_history.specs.Laws.Dues.{full_due_later}
use Rattle.ks_history.specs.Done.{Template, DoneAt}
use Rattle.ks_history.specs.Stays.{StaysHeld}
use Rattle.ks_history.specs.Laws.Stays.{AreInTurn}
use Rattle.ks_history.specs.Laws.Begins.{begins_append, by_others_keeps, with_others}
use Rattle.ks_history.specs.Underway.{Underway}
use Rattle.ks_history.specs.Laws.Underway.{underway_call, decided_with, done_of}
use Rattle.ks_node.specs.Body.{Body, frame_of}
use Rattle.ks_node.specs.Effect.{with_pairs}
use Rattle.ks_arena.specs.Clauses.{Numbered}
use Rattle.ks_shape.specs.Laws.Single.{one_may, gave_last}

-- the call of c is decided at the one node that it holds, whose frame is this one, and which is then released
module _ (layout : Layout) (template : Template) (n c i number : ℕ) (op : Op) (reply : Reply) (blank frame : Frame) (s0 h h₁ h₂ : List Event) (are : AreInTurn h₁) (mine : turn_after h i ≡ held c) (framed : frame_after blank h i ≡ frame) (alone : hand c h ≡ i ∷ [])
    (called : Numbered c (Call c i op reply) h h₁ number) (same : hand c h₁ ≡ hand c h) (gave : GrowsWith c (Give c i) h₁ h₂) (hands : hand c h₂ ≡ drop_one i (hand c h₁)) (under : Underway template c op s0 h) where
  -- the trace just before the call
  abbrev before : List Event
  before = called.grows.rest ++ h

  stays : StaysHeld c i h before
  stays = by_others_keeps c i h before (with_others c (Call c i op reply) h h₁ called.grows) (subst AreInTurn called.grows.is are).0 mine

  joined : (called.grows.rest ++ under.rest) ++ s0 ≡ before
  joined = append_assoc called.grows.rest under.rest s0 ∙ sym (ap (λ (z : List Event). called.grows.rest ++ z) under.is)

  -- a Full that is due before is due at the call, for a place for which no node was free since s0
  full_due : (r : List Event) → ((reply ≡ Full) → FullDue layout n r h (Call c i op reply)) → (reply ≡ Full → (place : ℕ) × Touches op place × NoneFree layout n c place s0 h) → reply ≡ Full → FullDue layout n s0 before (Call c i op reply)
  full_due r due none is = let x = none is in
      subst (λ (z : Reply). FullDue layout n s0 before (Call c i op z)) (sym is)
      (full_due_later layout n c i x.0 op r s0 h before (begins_append called.grows.rest h) stays.state x.1 x.2 (subst (λ (z : Reply). FullDue layout n r h (Call c i op z)) is (due is)))

  pub concluded : (r : List Event) → ((reply ≡ Full) → FullDue layout n r h (Call c i op reply)) → (reply ≡ Full → (place : ℕ) × Touches op place × NoneFree layout n c place s0 h) → DoneAt layout template n c op s0 h₂ reply number i blank frame
  concluded r due none =
      let one : hand c h₁ ≡ i ∷ [] = same ∙ alone in
      let none_left : hand c h₂ ≡ [] = gave_last c i h₁ h₂ one hands in
      record {
        done = done_of layout template n c op s0 h₂ reply number
            (decided_with layout template n c op reply number (Give c i) s0 h₁ h₂ tt gave tt (omega (arith, ap length none_left, one_may template op))
            (underway_call layout template n c i op reply number s0 h h₁ called.grows (omega (arith, ap length one, one_may template op)) called.number (full_due r due none) under))
            none_left;
        at = refl;
        framed = ap (λ (z : List Event). frame_after blank z i) joined ∙ stays.frame blank ∙ framed;
      }

-- a call that is decided at a body whose pairs it changed is decided at one with the frame of the body before
pub framed_before : {layout : Layout} {template : Template} {n c number node : ℕ} {op : Op} {s0 s1 : List Event} {reply : Reply} {blank : Frame} (b b' : Body) (ps : List Pair) → b' ≡ with_pairs b ps
    → DoneAt layout template n c op s0 s1 reply number node blank (frame_of b') → DoneAt layout template n c op s0 s1 reply number node blank (frame_of b)
framed_before {layout} {template} {n} {c} {number} {node} {op} {s0} {s1} {reply} {blank} b b' ps is = subst (DoneAt layout template n c op s0 s1 reply number node blank) (ap frame_of is)
