-- Laws of descents: a caller that goes down along edges from the root is ever deeper, whatever its own Shapes do below it,
-- unless another makes a Shape. So one that took as many nodes as there are, and would take one more, may report Far.
use Rattle.std.proofs.Common.{ℕ, ◌==◌, ◌≤◌, ◌⊎◌, List, length}
use Rattle.std.specs.Prelude.{Any, count_by}
use Rattle.ks_keysets.specs.Deep.{Deep}
use Rattle.ks_history.specs.declared.Event.{Event}
use Rattle.ks_history.specs.Trace.{◌⊑◌, graph_after}
use Rattle.ks_history.specs.Refusals.{ShapesBesides, takes_by}

-- since s0 a caller other than c made a Shape, or node i is this many steps deep
pub record IsDeep (n c : ℕ) (gone : List ℕ) (s0 h : List Event) (steps i : ℕ) : Type 0 where
  pub grows : s0 ⊑ h
  pub deep : Any (ShapesBesides c) grows.rest ⊎ Deep (graph_after h) n gone steps i

-- since s0 caller c took at least this many nodes, and the root at most this often
pub record TookSince (c : ℕ) (s0 h : List Event) (taken roots : ℕ) : Type 0 where
  pub grows : s0 ⊑ h
  pub many : taken ≤ length (takes_by c grows.rest)
  pub root : count_by (λ i. i == 0) (takes_by c grows.rest) ≤ roots
