-- What a search that keeps the parent of its node requires and ensures, for clauses that see an arena and a pass before and
-- after.
use Rattle.std.specs.Prelude.{ℕ, Option}
use Rattle.ks_node.specs.declared.node.Node.{Ghosts as NodeGhosts}
use Rattle.ks_node.below.ks_places.specs.declared.Placing.{Ghosts as PlacingGhosts}
use Rattle.ks_flow.specs.declared.discipline.Discipline.{Ghosts as DisciplineGhosts}
use Rattle.ks_arena.specs.declared.arena.Arena.{Arena}
use Rattle.ks_arena.specs.declared.held.Pass.{Pass}
use Rattle.ks_arena.specs.declared.held.Held.{Held as Hand}
use Rattle.ks_arena.specs.Sound.{sort_of}
use Rattle.ks_arena.specs.Clauses.{seen_of}
use Rattle.ks_shape.specs.declared.path.Path.{Path}
use Rattle.ks_shape.specs.OnPath.{GaveIf, IsAbove, IsUnder, IsOnPath}

module _ {N D : Type 0} where
  -- the pass has seen its caller release the one node, if there was one, and events of others; and no other of its own
  abbrev pub AddsGive : Option (Hand N) → Pass N D → Pass N D → Type 0
  AddsGive given p q = GaveIf p.caller given (seen_of p) (seen_of q)

module _ {N D P : Type 0} {n : NodeGhosts N P} {q : PlacingGhosts P} {d : DisciplineGhosts D} where
  -- caller c, which searches for the place, holds the node of the path, whose inset has the place, and its parent unless it
  -- needs none
  abbrev pub IsOnPathOf : Arena N D P n q d → ℕ → ℕ → Pass N D → Path N → Type 0
  IsOnPathOf a c place p path = IsOnPath (sort_of n.layout n.ranged) n.body c place (seen_of p) path

  -- the node y is live, and leads to node i at the place
  abbrev pub LeadsDown : Arena N D P n q d → ℕ → ℕ → Pass N D → Hand N → Type 0
  LeadsDown a place i p y = IsAbove (sort_of n.layout n.ranged) n.body place i (seen_of p) y

  -- the parent leads to the node at the place; the root has none, and a node that is not full, or grows where it is, needs
  -- none
  abbrev pub IsUnderParent : Arena N D P n q d → ℕ → Pass N D → Hand N → Option (Hand N) → Type 0
  IsUnderParent a place p x parent = IsUnder (sort_of n.layout n.ranged) n.body place x (seen_of p) parent
