-- What is read from the parts of a node: a leaf's pairs, a branch's children.
use Rattle.std.specs.Prelude.{ℕ, Bool, true, false, List, [], length, None}
use Rattle.ks_keysets.specs.declared.Pair.{Pair}
use Rattle.ks_node.specs.declared.start.Start.{Start}
use Rattle.ks_node.specs.Body.{Body}
use Rattle.ks_wide.specs.declared.parts.Parts.{Parts}
use Rattle.ks_wide.specs.declared.parts.Parts.TheVariants.{Leaf, Inner}
use Rattle.ks_wide.specs.Wide.{wide_body, wide_content, wide_cut}

module _ {L F : ℕ} where
  -- a branch, and no leaf
  abbrev pub is_inner : Parts L F → Bool
  is_inner (Leaf ps) = false
  is_inner (Inner ss) = true

  -- the pairs of a leaf; a branch has none
  abbrev pub pairs_of : Parts L F → List Pair
  pairs_of (Leaf ps) = ps.items
  pairs_of (Inner ss) = []

  -- the children of a branch, each with the place at which it starts; a leaf has none
  abbrev pub starts_of : Parts L F → List Start
  starts_of (Leaf ps) = []
  starts_of (Inner ss) = ss.items

  -- how much fills it, and how much it has
  abbrev pub room_of : Parts L F → ℕ
  room_of (Leaf ps) = L
  room_of (Inner ss) = F

  abbrev pub load_of : Parts L F → ℕ
  load_of (Leaf ps) = length ps.items
  load_of (Inner ss) = length ss.items

  -- the meaning of a node of a low and these parts
  abbrev pub body_of : ℕ → Parts L F → Body
  body_of low parts = wide_body low (is_inner parts) (pairs_of parts) (starts_of parts)

  -- where a node with these parts is cut when full
  abbrev pub cut_of : Parts L F → ℕ
  cut_of parts = wide_cut L F (wide_content 0 (is_inner parts) (pairs_of parts) (starts_of parts)) None
