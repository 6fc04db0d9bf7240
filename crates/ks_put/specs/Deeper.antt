-- How many steps below the root the node of a path is, and by how many takes the search came there.
use Rattle.std.specs.Prelude.{ℕ, ◌≤◌, suc, List, Option, Some, None}
use Rattle.ks_history.specs.declared.Event.{Event}
use Rattle.ks_arena.specs.declared.held.Held.{Held as Hand}
use Rattle.ks_shape.specs.declared.path.Path.{Path}
use Rattle.ks_put.specs.declared.halves.Part.{Part}
use Rattle.ks_put.specs.declared.halves.Part.TheVariants.{Split, Refused, Shut}
use Rattle.ks_shape.specs.Down.{IsDown}

module _ {N : Type 0} (n c : ℕ) (s0 h : List Event) (taken roots steps : ℕ) where
  -- since s0 c took `taken` nodes, the root `roots` times at most, and the node is `steps` steps down, or its parent one
  -- less; or another caller made a Shape
  abbrev pub StandsDown : Hand N → Option (Hand N) → Type 0
  StandsDown x None = IsDown n c s0 h taken roots steps x.node
  StandsDown x (Some y) = (above : ℕ) × (steps ≤ suc above) × IsDown n c s0 h taken roots above y.node

  -- so it is for the node of a path, and for that of a path after a try to split its node
  abbrev pub IsDownPath : Path N → Type 0
  IsDownPath path = StandsDown path.node path.parent

  abbrev pub IsDownPart : Part N → Type 0
  IsDownPart (Split x) = IsDownPath x
  IsDownPart (Refused x) = IsDownPath x
  IsDownPart (Shut x) = IsDownPath x
