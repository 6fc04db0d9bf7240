-- A list of node states as a graph.
use Rattle.std.specs.Prelude.{ℕ, zero, suc, List, [], ◌∷◌}
use Rattle.ks_keysets.specs.declared.NodeState.{NodeState}
use Rattle.ks_keysets.specs.declared.NodeState.TheVariants.{Free}

-- the graph of these nodes: past the end of the list all are free
abbrev pub graph_of : List NodeState → ℕ → NodeState
graph_of [] n = Free
graph_of (s ∷ g) zero = s
graph_of (s ∷ g) (suc n) = graph_of g n
