-- What the nodes that a caller holds are just before its Shape: as their bodies show.
use Rattle.std.proofs.Common.{ℕ, List, ◌++◌, ◌∙◌, subst}
use Rattle.ks_keysets.specs.declared.Change.{Change}
use Rattle.ks_keysets.specs.declared.Frame.{Frame}
use Rattle.ks_keysets.specs.declared.NodeState.{NodeState}
use Rattle.ks_history.specs.declared.Event.{Event}
use Rattle.ks_history.specs.Own.{hand}
use Rattle.ks_history.specs.Trace.{graph_after}
use Rattle.ks_history.specs.Frames.{frame_after}
use Rattle.ks_history.specs.Lawful.{Lawful}
use Rattle.ks_history.specs.Passes.{GrowsWith}
use Rattle.ks_history.specs.Stays.{StaysHeld}
use Rattle.ks_history.specs.Laws.Begins.{by_others_keeps, with_others}
use Rattle.ks_history.specs.Laws.Hand.{is_hand}
use Rattle.ks_history.specs.Laws.Stays.{AreInTurn, lawful_in_turn}
use Rattle.ks_node.specs.Body.{Body}
use Rattle.ks_arena.specs.declared.held.Held.{Held as Hand}
use Rattle.ks_arena.specs.Sound.{Sort, blank_of, Sound}
use Rattle.ks_shape.specs.InHand.{IsLive}
use Rattle.ks_shape.specs.Does.{HasBody}
use Rattle.ks_shape.proofs.Standing.{live_if}

module _ {N : Type 0} (sort : Sort) (shows : N → Body) (begins : Frame → Type 0) (asks : (ℕ → NodeState) → (ℕ → Frame) → List Change → Type 0) (n c : ℕ) (seen k : List Event) (lawful : (h : List Event) → Sound sort begins asks n h → Lawful h) (e : Event) (so : GrowsWith c e seen k) (before : Sound sort begins asks n seen) (after : Sound sort begins asks n k) where
  pub had : (x : Hand N) → IsLive sort shows (hand c seen) seen x → HasBody sort (so.rest ++ seen) x.node (shows x.body)
  had x is =
      let t = live_if sort shows x.live (graph_after seen x.node) (frame_after (blank_of sort) seen x.node) x.body is.live is.matches.is in
      let keep : StaysHeld c x.node seen (so.rest ++ seen) = by_others_keeps c x.node seen (so.rest ++ seen) (with_others c e seen k so) ((subst AreInTurn so.is (lawful_in_turn k (lawful k after))).0) ((is_hand seen c (lawful_in_turn seen (lawful seen before))).held x.node is.has) in record {
        state = keep.state ∙ t.0;
        frame = keep.frame (blank_of sort) ∙ t.1;
      }
