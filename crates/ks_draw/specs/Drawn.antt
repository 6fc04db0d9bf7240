-- What is drawn.
use Rattle.std.specs.Prelude.{ℕ, ◌≡◌, List, length}
use Rattle.ks_keysets.specs.declared.NodeState.{NodeState}
use Rattle.ks_keysets.specs.Keyset.{AreApart, Good}
use Rattle.ks_keysets.specs.Listed.{graph_of}
use Rattle.ks_history.specs.declared.Event.{Event}
use Rattle.ks_history.specs.Map.{Legal}
use Rattle.ks_history.specs.Trace.{calls_of, graph_after}

-- the graph of a dictionary of this number of nodes after a legal history of calls: it is good, so the edges of each node are
-- disjoint
pub record IsDrawn (nodes : ℕ) (graph : List NodeState) : Type 0 where
  pub history : List Event
  pub legal : Legal (calls_of history)
  pub states : (node : ℕ) → graph_of graph node ≡ graph_after history node
  pub count : length graph ≡ nodes
  pub good : Good (graph_after history)
  pub apart : AreApart (graph_of graph)
