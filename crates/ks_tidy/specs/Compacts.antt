-- What compaction ensures, of an arena and of a pass before and after.
use Rattle.std.specs.Prelude.{ℕ}
use Rattle.ks_node.specs.declared.node.Node.{Ghosts as NodeGhosts}
use Rattle.ks_node.below.ks_places.specs.declared.Placing.{Ghosts as PlacingGhosts}
use Rattle.ks_flow.specs.declared.discipline.Discipline.{Ghosts as DisciplineGhosts}
use Rattle.ks_keysets.specs.Tight.{FitsNoRight}
use Rattle.ks_history.specs.Trace.{graph_after}
use Rattle.ks_history.specs.Frames.{frame_after}
use Rattle.ks_arena.specs.declared.arena.Arena.{Arena}
use Rattle.ks_arena.specs.declared.held.Pass.{Pass}
use Rattle.ks_arena.specs.Sound.{sort_of, blank_of}
use Rattle.ks_arena.specs.Clauses.{seen_of}
use Rattle.ks_shape.specs.declared.path.Path.{Path}
use Rattle.ks_tidy.specs.Pair.{IsPair, IsNoSole}
use Rattle.ks_tidy.specs.Walking.{TightUpTo}

module _ {N D P : Type 0} {n : NodeGhosts N P} {q : PlacingGhosts P} {d : DisciplineGhosts D} where
  -- no live node that begins below the place fits with its right neighbour; and, once a walk was made, the root is no
  -- branch over one child
  abbrev pub IsTightBefore : Arena N D P n q d → ℕ → Pass N D → Type 0
  IsTightBefore a place p = TightUpTo (sort_of n.layout n.ranged) place (seen_of p)

  -- node i fits with no right neighbour
  abbrev pub FitsNone : Arena N D P n q d → Pass N D → ℕ → Type 0
  FitsNone a p i = FitsNoRight n.layout (graph_after (seen_of p)) (frame_after (blank_of (sort_of n.layout n.ranged)) (seen_of p)) i

  -- caller c, which searches for the place, holds the node of the path, and the node that leads to it; a node that takes over
  -- its child may have none
  abbrev pub IsPairOf : Arena N D P n q d → ℕ → ℕ → Pass N D → Path N → Type 0
  IsPairOf a c place p path = IsPair (sort_of n.layout n.ranged) n.body c place (seen_of p) path

  -- the node above the one of the path, if it takes over an only child, is no branch over one
  abbrev pub IsNotSole : Arena N D P n q d → Path N → Type 0
  IsNotSole a path = IsNoSole (sort_of n.layout n.ranged) n.body path.parent
