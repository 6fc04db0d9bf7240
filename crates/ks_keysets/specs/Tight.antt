-- Which nodes are low, which neighbours fit into one node, and tight graphs.
use Rattle.std.specs.Prelude.{ℕ, suc, ◌≡◌, ◌≢◌, ◌≤◌, ◌+◌, ◌*◌, List, length, slice_get, Option, Some, None, All, Any}
use Rattle.ks_keysets.specs.declared.Edge.{Edge}
use Rattle.ks_keysets.specs.declared.Kind.{Kind}
use Rattle.ks_keysets.specs.declared.Kind.TheVariants.{NoBranch, Inner, Directory}
use Rattle.ks_keysets.specs.declared.Frame.{Frame}
use Rattle.ks_keysets.specs.declared.NodeState.{NodeState}
use Rattle.ks_keysets.specs.declared.Record.{Record}
use Rattle.ks_keysets.specs.Keyset.{record_at, InKeyset}
use Rattle.ks_keysets.specs.Layout.{Layout, room, fan}

-- how many pairs a node that is no branch may have, and how many children a branch, if there is a bound: directories have
-- none
abbrev pub capacity : Layout → Kind → Option ℕ
capacity layout NoBranch = Some (room layout)
capacity layout Inner = fan layout
capacity layout Directory = None

-- what a node of the kind has that counts against its capacity: the edges of a branch, the pairs of another node
abbrev pub filling : Kind → Record → ℕ
filling NoBranch r = length r.pairs
filling Inner r = length r.edges
filling Directory r = length r.edges

-- the number is at most half of the capacity, if there is one
abbrev pub IsHalf : Option ℕ → ℕ → Type 0
IsHalf None n = ⊥
IsHalf (Some c) n = n * 2 ≤ c

-- the number does not exceed the capacity, and there is one
abbrev pub IsWithin : Option ℕ → ℕ → Type 0
IsWithin None n = ⊥
IsWithin (Some c) n = n ≤ c

-- a node that holds at most half of its capacity is low; one with no capacity never is
abbrev pub IsLow : Layout → Kind → Record → Type 0
IsLow layout kind r = IsHalf (capacity layout kind) (filling kind r)

-- two nodes fit into one: neither is a branch or both are inner, and together they do not exceed their capacity
abbrev pub Fit : Layout → Kind → Record → Kind → Record → Type 0
Fit layout NoBranch r NoBranch s = IsWithin (capacity layout NoBranch) (filling NoBranch r + filling NoBranch s)
Fit layout Inner r Inner s = IsWithin (capacity layout Inner) (filling Inner r + filling Inner s)
Fit layout k r l s = ⊥

-- in the list of edges one that leads to m is next after one that leads to n
pub record IsNext (edges : List Edge) (n m : ℕ) : Type 0 where
  pub at : ℕ
  pub one : Edge
  pub other : Edge
  pub first : slice_get edges at ≡ Some one
  pub second : slice_get edges (suc at) ≡ Some other
  pub from : one.node ≡ n
  pub to : other.node ≡ m

-- node n, with this frame, is no branch and has an edge of its own
abbrev pub HasOwnEdge : Frame → Record → Type 0
HasOwnEdge frame r = (frame.kind ≡ NoBranch) × (length r.edges ≢ 0)

-- m is the right neighbour of the live node n: the target of its own edge, or, if it has none, that of the edge after the
-- one that leads to n from a branch
pub data IsRightNeighbour (g : ℕ → NodeState) (frames : ℕ → Frame) (n m : ℕ) : Type 0 where
  chained : (r : Record) → record_at g n ≡ Some r → HasOwnEdge (frames n) r → Any (λ e. e.node ≡ m) r.edges → IsRightNeighbour g frames n m
  beside : (r : Record) (a : ℕ) (s : Record) → record_at g n ≡ Some r → ¬ HasOwnEdge (frames n) r → record_at g a ≡ Some s → (frames a).kind ≢ NoBranch → IsNext s.edges n m → IsRightNeighbour g frames n m

-- node n fits with no right neighbour
abbrev pub FitsNoRight : Layout → (ℕ → NodeState) → (ℕ → Frame) → ℕ → Type 0
FitsNoRight layout g frames n = (m : ℕ) (r s : Record) → IsRightNeighbour g frames n m → record_at g n ≡ Some r → record_at g m ≡ Some s → ¬ Fit layout (frames n).kind r (frames m).kind s

-- no live node fits with its right neighbour, and the root is no branch with all edges to one child
pub record IsTight (layout : Layout) (g : ℕ → NodeState) (frames : ℕ → Frame) : Type 0 where
  pub full : (n : ℕ) → FitsNoRight layout g frames n
  pub root : (r : Record) (m : ℕ) → record_at g 0 ≡ Some r → (frames 0).kind ≢ NoBranch → ¬ All (λ e. e.node ≡ m) r.edges

-- the node whose keyset holds the place is not low, or fits with no right neighbour
pub record IsTidyAt (layout : Layout) (g : ℕ → NodeState) (frames : ℕ → Frame) (p : ℕ) : Type 0 where
  pub at : (n : ℕ) (r : Record) → InKeyset g n p → record_at g n ≡ Some r → IsLow layout (frames n).kind r → FitsNoRight layout g frames n
