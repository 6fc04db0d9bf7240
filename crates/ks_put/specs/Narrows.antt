-- How a split narrows a search that keeps the parent of its node: how often the node can still be split is bounded by a number
-- that each split makes less.
use Rattle.std.specs.Prelude.{ℕ, ◌+◌, ◌-◌, ◌*◌, ◌<◌, suc, Bool, true, false, cond, ◌&&◌, nat_le, min, List, [], ◌∷◌, Option, Some, None}
use Rattle.ks_keysets.specs.declared.Edge.{Edge}
use Rattle.ks_keysets.specs.Layout.{Layout}
use Rattle.ks_keysets.specs.Record.{top}
use Rattle.ks_node.specs.declared.start.Start.{Start}
use Rattle.ks_node.specs.Body.{Body, is_branch}
use Rattle.ks_node.specs.Edges.{edges_of}
use Rattle.ks_node.specs.Room.{is_full}
use Rattle.ks_arena.specs.declared.held.Held.{Held as Hand}
use Rattle.ks_shape.specs.declared.path.Path.{Path}
use Rattle.ks_put.specs.declared.halves.Part.{Part}
use Rattle.ks_put.specs.declared.halves.Part.TheVariants.{Split, Refused, Shut}

-- where the first edge that carries the place ends, or the last place
abbrev pub end_at : List Edge → ℕ → ℕ
end_at [] p = top
end_at (e ∷ es) p = cond (nat_le e.span.low p && nat_le p e.span.last) (min top e.span.last) (end_at es p)

-- where the own edge of a node that is no branch begins, or past the last place
abbrev pub own_at : Bool → List Start → ℕ
own_at true ss = 0
own_at false [] = suc top
own_at false (s ∷ ss) = s.low

abbrev pub own_start : Body → ℕ
own_start b = own_at (is_branch b) b.starts

-- a bound on how often a full node can be split, by its low, the end of what leads to it, and the begin of its own edge
abbrev pub cuts_of : Bool → ℕ → ℕ → ℕ → ℕ
cuts_of false low end own = 0
cuts_of true low end own = suc ((top - low) * 36893488147419103232 + (end + min (suc end) own))

module _ {N : Type 0} (layout : Layout) (shows : N → Body) (place : ℕ) where
  -- where the edge of the parent that carries the place ends
  abbrev pub end_under : Option (Hand N) → ℕ
  end_under None = top
  end_under (Some y) = end_at (edges_of (shows y.body)) place

  -- a bound on how often the node of the path can be split
  abbrev pub cuts_left : Path N → ℕ
  cuts_left path = let b : Body = shows path.node.body in cuts_of (is_full layout b) b.low (end_under path.parent) (own_start b)

  -- after a try to split the node of the path: if it was split, the bound is less
  abbrev pub IsNarrower : Path N → Part N → Type 0
  IsNarrower path (Split x) = cuts_left x < cuts_left path
  IsNarrower path (Refused x) = Unit {0}
  IsNarrower path (Shut x) = Unit {0}
