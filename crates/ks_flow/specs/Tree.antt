-- The facts of trees.
use Rattle.ks_keysets.specs.declared.Frame.{Frame}
use Rattle.ks_keysets.specs.declared.Record.{Record}
use Rattle.std.specs.Prelude.{ℕ, ◌≡◌, ◌≤◌, ◌+◌, ◌==◌, if◌then◌else◌, false, List, [], ◌∷◌, Option, Some, None}
use Rattle.ks_keysets.specs.declared.NodeState.{NodeState}
use Rattle.ks_keysets.specs.declared.Span.{Span}
use Rattle.ks_keysets.specs.declared.Edge.{Edge}
use Rattle.ks_keysets.specs.Record.{LeadsTo, LeadsOn, first_value}
use Rattle.ks_keysets.specs.Keyset.{record_at, IsLive, InInset}
use Rattle.ks_flow.specs.Ways.{names}

-- how many of the edges lead to the node
abbrev pub edges_to : List Edge → ℕ → ℕ
edges_to [] m = 0
edges_to (e ∷ es) m = (if e.node == m then 1 else 0) + edges_to es m

abbrev pub edges_in : Option Record → ℕ → ℕ
edges_in None m = 0
edges_in (Some r) m = edges_to r.edges m

-- how many edges lead from node n, if it is live, to node m
abbrev pub edges_between : (ℕ → NodeState) → ℕ → ℕ → ℕ
edges_between g n m = edges_in (record_at g n) m

-- the inset of the node is the span from low to last
pub record IsInset (g : ℕ → NodeState) (n low last : ℕ) : Type 0 where
  pub filled : low ≤ last
  pub forth : (p : ℕ) → InInset g n p → (low ≤ p) × (p ≤ last)
  pub back : (p : ℕ) → low ≤ p → p ≤ last → InInset g n p

-- to each node leads one edge at most, and none to the root
pub record OneEdge (g : ℕ → NodeState) : Type 0 where
  pub one : (m n l : ℕ) → (n ≡ l → ⊥) → edges_between g n m + edges_between g l m ≤ 1
  pub none : (n : ℕ) → edges_between g n 0 ≡ 0

-- the facts of trees: at most one parent, none of the root, insets that are spans, and ranges that are insets
pub record Tree (g : ℕ → NodeState) (frames : ℕ → Frame) : Type 0 where
  pub edges : OneEdge g
  -- the inset of each live node is a span whose least place is the node's low
  pub spans : (n : ℕ) → IsLive g n → (last : ℕ) × IsInset g n (frames n).low last
  -- a range is the inset
  pub range : (n : ℕ) (s : Span) → IsLive g n → (frames n).range ≡ Some s → IsInset g n s.low s.last

-- the frames outside the region stay
pub record FramesKept (f : ℕ → Frame) (region : List ℕ) (h : ℕ → Frame) : Type 0 where
  pub same : (n : ℕ) → names region n ≡ false → h n ≡ f n

-- at the place the first record does what the second does
pub record ActsAs (s r : Record) (p : ℕ) : Type 0 where
  pub to : (m : ℕ) → LeadsTo r p m → LeadsTo s p m
  pub on : LeadsOn s p → LeadsOn r p
  pub value : first_value s.pairs p ≡ first_value r.pairs p

-- two graphs with the same live nodes and the same edges
pub record SameEdges (g k : ℕ → NodeState) : Type 0 where
  pub forth : (n : ℕ) (r : Record) → record_at g n ≡ Some r → (s : Record) × (record_at k n ≡ Some s) × (s.edges ≡ r.edges)
  pub back : (n : ℕ) (s : Record) → record_at k n ≡ Some s → (r : Record) × (record_at g n ≡ Some r) × (r.edges ≡ s.edges)
