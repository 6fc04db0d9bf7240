-- What carries a shape of a tree: a region that is entered at one node, its edges and its spans after the change.
use Rattle.std.proofs.Common.{ℕ, ◌≡◌, ◌<◌, ◌≤◌, ◌+◌, true, false, List, [], ◌∷◌, Some, None}
use Rattle.std.specs.Prelude.{All, AllPairs}
use Rattle.ks_keysets.specs.declared.Record.{Record}
use Rattle.ks_keysets.specs.declared.Frame.{Frame}
use Rattle.ks_keysets.specs.declared.NodeState.{NodeState}
use Rattle.ks_keysets.specs.declared.Span.{Span}
use Rattle.ks_keysets.specs.Record.{Carries}
use Rattle.ks_keysets.specs.Keyset.{record_at, IsLive, InInset}
use Rattle.ks_flow.specs.Ways.{names, Outcome, ends_at, Inside, AreAlike}
use Rattle.ks_flow.specs.Tree.{edges_between, IsInset}

-- a region that is entered only at one node, e: no other node of it is the root or is led to from outside.
-- The change keeps the outcomes of the places that reach e
pub record EntryRegion (g : ℕ → NodeState) (region : List ℕ) (k : ℕ → NodeState) (e : ℕ) : Type 0 where
  pub entry : names region e ≡ true
  pub root : names region 0 ≡ true → 0 ≡ e
  pub alone : (n m : ℕ) → names region n ≡ false → names region m ≡ true → 0 < edges_between g n m → m ≡ e
  pub alike : (p : ℕ) (o : Outcome) → InInset g e p → Inside g region p e o → (q : Outcome) × Inside k region p e q × AreAlike g k p o q
  pub live : IsLive k e
  pub apart : (n : ℕ) (r : Record) → names region n ≡ true → record_at k n ≡ Some r → AllPairs (λ e f. (p : ℕ) → Carries e p → Carries f p → ⊥) r.edges
  pub leads : (n : ℕ) (r : Record) → names region n ≡ true → record_at k n ≡ Some r → All (λ e. IsLive k e.node) r.edges
  pub stored : (n : ℕ) (r : Record) → names region n ≡ true → record_at k n ≡ Some r → All (λ x. InInset g e x.place × Inside k region x.place e (ends_at n)) r.pairs
  pub once : (n : ℕ) (r : Record) → names region n ≡ true → record_at k n ≡ Some r → AllPairs (λ x y. x.place ≡ y.place → ⊥) r.pairs

-- how many edges lead from the nodes of the region to node m
abbrev pub edges_into : (ℕ → NodeState) → List ℕ → ℕ → ℕ
edges_into g [] m = 0
edges_into g (n ∷ ns) m = edges_between g n m + edges_into g ns m

abbrev pub AreDistinct : List ℕ → Type 0
AreDistinct [] = Unit {0}
AreDistinct (n ∷ ns) = (names ns n ≡ false) × AreDistinct ns

-- the edges of the region after a change: some nodes are added, some are lost
pub record EdgesKept (g : ℕ → NodeState) (region : List ℕ) (k : ℕ → NodeState) (added lost : List ℕ) : Type 0 where
  pub distinct : AreDistinct region
  pub kept : (m : ℕ) → names added m ≡ false → names lost m ≡ false → edges_into k region m ≤ edges_into g region m
  pub live : (m : ℕ) → names region m ≡ true → names lost m ≡ false → IsLive k m
  pub new : (m : ℕ) → names added m ≡ true → (record_at g m ≡ None) × IsLive k m × edges_into k region m ≤ 1
  pub gone : (m : ℕ) → names lost m ≡ true → edges_into k region m ≡ 0

-- the spans of the region's nodes after a change
pub record RegionSpans (region : List ℕ) (k : ℕ → NodeState) (h : ℕ → Frame) : Type 0 where
  pub spans : (n : ℕ) → names region n ≡ true → IsLive k n → (last : ℕ) × IsInset k n (h n).low last
  pub range : (n : ℕ) (s : Span) → names region n ≡ true → IsLive k n → (h n).range ≡ Some s → IsInset k n s.low s.last
