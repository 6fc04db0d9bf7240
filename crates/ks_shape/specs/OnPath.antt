-- Searches that keep the parent of the node.
use Rattle.std.proofs.Common.{◌≡◌, ◌⊎◌, ℕ, true, false, List, [], ◌∷◌}
use Rattle.std.specs.Prelude.{Option, Some, None, IsTrue}
use Rattle.ks_keysets.specs.Record.{LeadsTo}
use Rattle.ks_keysets.specs.Keyset.{InInset}
use Rattle.ks_history.specs.declared.Event.{Event}
use Rattle.ks_history.specs.declared.Event.TheVariants.{Give}
use Rattle.ks_history.specs.Passes.{GrowsWith}
use Rattle.ks_history.specs.Own.{hand}
use Rattle.ks_history.specs.Trace.{graph_after}
use Rattle.ks_node.specs.Body.{Body}
use Rattle.ks_node.specs.Edges.{record_of}
use Rattle.ks_node.specs.Room.{is_full, in_place}
use Rattle.ks_arena.specs.declared.held.Held.{Held as Hand}
use Rattle.ks_arena.specs.Sound.{Sort}
use Rattle.ks_arena.specs.Clauses.{Matches}
use Rattle.ks_shape.specs.declared.path.Path.{Path}

-- the numbers of no node or one
abbrev pub numbers : {N : Type 0} → Option (Hand N) → List ℕ
numbers None = []
numbers (Some y) = y.node ∷ []

-- c released the one node, if there was one, and did nothing else
abbrev pub GaveIf : {N : Type 0} → ℕ → Option (Hand N) → List Event → List Event → Type 0
GaveIf c None h k = k ≡ h
GaveIf c (Some y) h k = GrowsWith c (Give c y.node) h k

module _ {N : Type 0} (sort : Sort) (shows : N → Body) where
  -- y is live, and leads to node i at the place
  pub record IsAbove (place i : ℕ) (h : List Event) (y : Hand N) : Type 0 where
    pub live : y.live ≡ true
    pub matches : Matches sort shows h y
    pub leads : LeadsTo (record_of (shows y.body)) place i

  -- the parent leads to the node; the root has none, and a node that is not full, or grows where it is, needs none
  abbrev pub IsUnder : ℕ → Hand N → List Event → Option (Hand N) → Type 0
  IsUnder place x h None = (x.node ≡ 0) ⊎ (is_full sort.layout (shows x.body) ≡ false) ⊎ IsTrue (in_place sort.layout)
  IsUnder place x h (Some y) = IsAbove place x.node h y

  -- after h, c, which searches for the place, holds this live node, whose inset has the place, and its parent unless it
  -- needs none
  pub record IsOnPath (c place : ℕ) (h : List Event) (x : Path N) : Type 0 where
    pub hands : hand c h ≡ x.node.node ∷ numbers x.parent
    pub live : x.node.live ≡ true
    pub matches : Matches sort shows h x.node
    pub inside : InInset (graph_after h) x.node.node place
    pub under : IsUnder place x.node h x.parent
