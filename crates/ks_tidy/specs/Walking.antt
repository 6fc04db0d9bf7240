-- How far a caller that walks over ascending places has tested the nodes of a graph.
use Rattle.std.specs.Prelude.{ℕ, ◌≡◌, ◌≢◌, Some, All, List}
use Rattle.ks_keysets.specs.declared.Frame.{Frame}
use Rattle.ks_keysets.specs.declared.Kind.TheVariants.{NoBranch}
use Rattle.ks_keysets.specs.declared.NodeState.{NodeState}
use Rattle.ks_keysets.specs.declared.Record.{Record}
use Rattle.ks_keysets.specs.Keyset.{record_at}
use Rattle.ks_keysets.specs.Layout.{Layout}
use Rattle.ks_history.specs.declared.Event.{Event}
use Rattle.ks_history.specs.Trace.{graph_after}
use Rattle.ks_history.specs.Frames.{frame_after}
use Rattle.ks_flow.specs.Tight.{IsTightBelow}
use Rattle.ks_arena.specs.Sound.{Sort, blank_of}

-- the root is no branch all of whose edges lead to one child
abbrev pub HasWideRoot : (ℕ → NodeState) → (ℕ → Frame) → Type 0
HasWideRoot g f = (r : Record) (m : ℕ) → record_at g 0 ≡ Some r → (f 0).kind ≢ NoBranch → ¬ All (λ e. e.node ≡ m) r.edges

-- each live node that begins below the place fits with no right neighbour; and, once a walk was made, the root is no
-- branch over one child
pub record IsTightUpTo (layout : Layout) (g : ℕ → NodeState) (f : ℕ → Frame) (p : ℕ) : Type 0 where
  pub below : IsTightBelow layout g f p
  pub root : p ≢ 0 → HasWideRoot g f

-- so it is after the trace
abbrev pub TightUpTo : Sort → ℕ → List Event → Type 0
TightUpTo sort p h = IsTightUpTo sort.layout (graph_after h) (frame_after (blank_of sort) h) p
