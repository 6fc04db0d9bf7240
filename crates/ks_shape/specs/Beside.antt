-- What stays at the nodes that a caller holds while it takes, claims and releases nodes, whatever others do.
use Rattle.std.specs.Prelude.{◌≡◌, ℕ, List}
use Rattle.ks_keysets.specs.declared.NodeState.{NodeState}
use Rattle.ks_history.specs.declared.Event.{Event}
use Rattle.ks_history.specs.Trace.{held, graph_after, turn_after}

-- `beside` holds, from h to k, at each node that c holds at both moments
abbrev pub KeepsBeside : (ℕ → (ℕ → NodeState) → (ℕ → NodeState) → Type 0) → ℕ → List Event → List Event → Type 0
KeepsBeside beside c h k = (i : ℕ) → turn_after h i ≡ held c → turn_after k i ≡ held c → beside i (graph_after h) (graph_after k)
