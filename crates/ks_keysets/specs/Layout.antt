-- How much the nodes of each layout hold.
use Rattle.std.specs.Prelude.{ℕ, Option, Some, None}

-- how a structure lays out its nodes: sorted lists, B+ leaves and inner nodes, hash buckets and directories, leaves and inner
-- nodes of a binary search tree, or leaves and inner nodes of a B+ tree whose widths are given: so many pairs, so many children
pub data Layout : Type 0 where
  list_layout : Layout
  bplus_layout : Layout
  hash_layout : Layout
  bst_layout : Layout
  wide_layout : ℕ → ℕ → Layout

-- the pairs that fill a node that is no branch
abbrev pub room : Layout → ℕ
room list_layout = 8
room bplus_layout = 16
room hash_layout = 8
room bst_layout = 2
room (wide_layout pairs children) = pairs

-- the children that fill an inner node, if any number does
abbrev pub fan : Layout → Option ℕ
fan list_layout = None
fan bplus_layout = Some 16
fan hash_layout = None
fan bst_layout = None
fan (wide_layout pairs children) = Some children
