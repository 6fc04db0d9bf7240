-- Which widths suit a node.
use Rattle.std.specs.Prelude.{◌≡◌, ℕ, ◌-◌, ◌^◌, ◌<◌, ◌≤◌}

-- of so many pairs in a leaf and so many children in a branch a full node has two halves, with two children at least; they
-- can be counted, and the room is that of a leaf
pub record AreWidths (pairs children room : ℕ) : Type 0 where
  pub two_pairs : 2 ≤ pairs
  pub four_children : 4 ≤ children
  pub few_pairs : pairs < 2 ^ 32
  pub few_children : children < 2 ^ 32 - 1
  pub room_is : pairs ≡ room
