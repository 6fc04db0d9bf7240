-- Laws of traces: what a caller holds stays as it is while others act.
use Rattle.std.proofs.Common.{◌≡◌, ℕ, List}
use Rattle.ks_keysets.specs.declared.Frame.{Frame}
use Rattle.ks_history.specs.declared.Event.{Event}
use Rattle.ks_history.specs.Trace.{graph_after, held, turn_after}
use Rattle.ks_history.specs.Frames.{frame_after}

-- a node stays held by c, with the same state and the same frame
pub record StaysHeld (c i : ℕ) (h k : List Event) : Type 0 where
  pub turn : turn_after k i ≡ held c
  pub state : graph_after k i ≡ graph_after h i
  pub frame : (blank : Frame) → frame_after blank k i ≡ frame_after blank h i
