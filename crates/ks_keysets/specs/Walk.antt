-- Walks of a place from the root, along the edges that carry it; and descents from the root along any edges.
use Rattle.std.specs.Prelude.{ℕ, suc, ◌≡◌, Some, None, Any}
use Rattle.ks_keysets.specs.declared.NodeState.{NodeState}
use Rattle.ks_keysets.specs.declared.Record.{Record}
use Rattle.ks_keysets.specs.Record.{LeadsTo, LeadsOn}
use Rattle.ks_keysets.specs.Keyset.{record_at}

-- the walk of the place from the root comes, after this number of steps, to a node
pub data Walks (g : ℕ → NodeState) (p : ℕ) : ℕ → ℕ → Type 0 where
  at_start : Walks g p 0 0
  one_more : {k a b : ℕ} (r : Record) → Walks g p k a → record_at g a ≡ Some r → LeadsTo r p b → Walks g p (suc k) b

-- the walk of the place ends at node n: it comes to it, the node is live, and no edge of it carries the place
pub record EndsAt (g : ℕ → NodeState) (p n : ℕ) : Type 0 where
  pub steps : ℕ
  pub comes : Walks g p steps n
  pub node : Record
  pub is : record_at g n ≡ Some node
  pub stops : ¬ LeadsOn node p

-- the walk of the place meets a node that is not live
pub record MeetsNotLive (g : ℕ → NodeState) (p : ℕ) : Type 0 where
  pub steps : ℕ
  pub node : ℕ
  pub comes : Walks g p steps node
  pub is : record_at g node ≡ None

-- the walk of the place never ends: it has any number of steps
pub record NeverEnds (g : ℕ → NodeState) (p : ℕ) : Type 0 where
  pub goes : (k : ℕ) → (n : ℕ) × Walks g p k n

-- a descent from the root along edges, whatever they carry, comes after this number of edges to a node
pub data Descends (g : ℕ → NodeState) : ℕ → ℕ → Type 0 where
  from_root : Descends g 0 0
  further : {k a b : ℕ} (r : Record) → Descends g k a → record_at g a ≡ Some r → Any (λ e. e.node ≡ b) r.edges → Descends g (suc k) b

-- edges of live nodes lead to a node from one node at most, and none leads to the root
pub record OneParent (g : ℕ → NodeState) : Type 0 where
  pub one : (n m b : ℕ) (r s : Record) → record_at g n ≡ Some r → record_at g m ≡ Some s → Any (λ e. e.node ≡ b) r.edges → Any (λ e. e.node ≡ b) s.edges → n ≡ m
  pub root : (n : ℕ) (r : Record) → record_at g n ≡ Some r → ¬ Any (λ e. e.node ≡ 0) r.edges
