-- Where the walk of a place ends.
use Rattle.ks_keysets.specs.declared.Record.{Record}
use Rattle.std.specs.Prelude.{ℕ, ◌≡◌, Some, All, AllPairs}
use Rattle.ks_keysets.specs.declared.NodeState.{NodeState}
use Rattle.ks_keysets.specs.Record.{IsPlace, LeadsTo, LeadsOn}
use Rattle.ks_keysets.specs.Keyset.{record_at, IsLive, AreApart}

-- the walk of the place from a node comes to node n
pub data Path (g : ℕ → NodeState) (p n : ℕ) : ℕ → Type 0 where
  arrives : Path g p n n
  passes : {a b : ℕ} (r : Record) → record_at g a ≡ Some r → LeadsTo r p b → Path g p n b → Path g p n a

-- the walk of the place from a node ends at node n
pub data Ends (g : ℕ → NodeState) (p n : ℕ) : ℕ → Type 0 where
  stops : (r : Record) → record_at g n ≡ Some r → (LeadsOn r p → ⊥) → Ends g p n n
  goes : {a b : ℕ} (r : Record) → record_at g a ≡ Some r → LeadsTo r p b → Ends g p n b → Ends g p n a

-- a graph in which each walk from the root ends, and each pair is at the node where the walk of its place ends
pub record IsWalked (g : ℕ → NodeState) : Type 0 where
  pub root : IsLive g 0
  pub apart : AreApart g
  pub leads : (n : ℕ) (r : Record) → record_at g n ≡ Some r → All (λ e. IsLive g e.node) r.edges
  pub ends : (p : ℕ) → IsPlace p → (n : ℕ) × Ends g p n 0
  pub stored : (n : ℕ) (r : Record) → record_at g n ≡ Some r → All (λ x. IsPlace x.place × Ends g x.place n 0) r.pairs
  pub once : (n : ℕ) (r : Record) → record_at g n ≡ Some r → AllPairs (λ x y. x.place ≡ y.place → ⊥) r.pairs
