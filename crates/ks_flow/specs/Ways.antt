-- Regions of a graph, and when a change of the nodes of a region keeps the ways of places.
use Rattle.ks_keysets.specs.declared.Record.{Record}
use Rattle.std.specs.Prelude.{ℕ, ◌≡◌, ◌==◌, ◌||◌, Bool, true, false, List, [], ◌∷◌, Some, All, AllPairs}
use Rattle.ks_keysets.specs.declared.NodeState.{NodeState}
use Rattle.ks_keysets.specs.Record.{IsPlace, Carries, LeadsTo, LeadsOn}
use Rattle.ks_keysets.specs.Keyset.{record_at, IsLive, value_at}
use Rattle.ks_flow.specs.Walk.{Path}

-- whether the node is in the region
abbrev pub names : List ℕ → ℕ → Bool
names [] n = false
names (m ∷ ms) n = m == n || names ms n

-- the walk of the place from a node meets the region first at node e
pub data Meets (g : ℕ → NodeState) (region : List ℕ) (p e : ℕ) : ℕ → Type 0 where
  now : names region e ≡ true → Meets g region p e e
  later : {a b : ℕ} (r : Record) → names region a ≡ false → record_at g a ≡ Some r → LeadsTo r p b → Meets g region p e b → Meets g region p e a

-- the walk of the place from the root enters the region at node e
abbrev pub Enters : (ℕ → NodeState) → List ℕ → ℕ → ℕ → Type 0
Enters g region p e = Meets g region p e 0

-- the outcome of a walk in a region: it leaves the region to an outside node, or ends at a node of it
pub data Outcome : Type 0 where
  leaves_to : ℕ → Outcome
  ends_at : ℕ → Outcome

-- the outcome of the walk of the place from a node of the region
pub data Inside (g : ℕ → NodeState) (region : List ℕ) (p : ℕ) : ℕ → Outcome → Type 0 where
  leaves : {a b : ℕ} (r : Record) → names region a ≡ true → record_at g a ≡ Some r → LeadsTo r p b → names region b ≡ false → Inside g region p a (leaves_to b)
  stays : {a b : ℕ} {o : Outcome} (r : Record) → names region a ≡ true → record_at g a ≡ Some r → LeadsTo r p b → Inside g region p b o → Inside g region p a o
  ends : {a : ℕ} (r : Record) → names region a ≡ true → record_at g a ≡ Some r → (LeadsOn r p → ⊥) → Inside g region p a (ends_at a)

-- two outcomes are alike: the same outside node, or two nodes of the region with the same value
abbrev pub AreAlike : (g k : ℕ → NodeState) → ℕ → Outcome → Outcome → Type 0
AreAlike g k p (leaves_to b) (leaves_to c) = b ≡ c
AreAlike g k p (leaves_to b) (ends_at n) = ⊥
AreAlike g k p (ends_at n) (leaves_to c) = ⊥
AreAlike g k p (ends_at n) (ends_at m) = value_at g n p ≡ value_at k m p

-- the two graphs differ only in nodes of the region
pub record DiffersIn (g : ℕ → NodeState) (region : List ℕ) (k : ℕ → NodeState) : Type 0 where
  pub same : (n : ℕ) → names region n ≡ false → record_at k n ≡ record_at g n

-- the change of the region from the one graph to the other keeps ways
pub record KeepsWays (g : ℕ → NodeState) (region : List ℕ) (k : ℕ → NodeState) : Type 0 where
  -- before, a walk that has left the region does not come back to it
  pub away : (p e b c : ℕ) → IsPlace p → Enters g region p e → Inside g region p e (leaves_to b) → Path g p c b → names region c ≡ true → ⊥
  -- before and after, it leaves the region to the same outside node, or ends in it with the same value
  pub alike : (p e : ℕ) (o : Outcome) → IsPlace p → Enters g region p e → Inside g region p e o → (q : Outcome) × Inside k region p e q × AreAlike g k p o q
  -- after it the root is live
  pub root : IsLive k 0
  -- the edges of the region's live nodes are disjoint
  pub apart : (n : ℕ) (r : Record) → names region n ≡ true → record_at k n ≡ Some r → AllPairs (λ e f. (p : ℕ) → Carries e p → Carries f p → ⊥) r.edges
  -- and lead to live nodes
  pub leads : (n : ℕ) (r : Record) → names region n ≡ true → record_at k n ≡ Some r → All (λ e. IsLive k e.node) r.edges
  -- no live node leads to a node that was made free
  pub frees : (n : ℕ) (r : Record) → names region n ≡ false → record_at k n ≡ Some r → All (λ e. names region e.node ≡ true → IsLive k e.node) r.edges
  -- each pair in the region is at a place whose walk enters the region and ends at the pair's node
  pub stored : (n : ℕ) (r : Record) → names region n ≡ true → record_at k n ≡ Some r → All (λ x. IsPlace x.place × (e : ℕ) × Enters k region x.place e × Inside k region x.place e (ends_at n)) r.pairs
  -- only one of the node's pairs has that place
  pub once : (n : ℕ) (r : Record) → names region n ≡ true → record_at k n ≡ Some r → AllPairs (λ x y. x.place ≡ y.place → ⊥) r.pairs
