-- How deep a node is below the root, if nodes have one parent at most and the root none.
use Rattle.std.proofs.Common.{ℕ, ◌≡◌, ◌<◌, ◌≤◌, ◌+◌, List, length, None}
use Rattle.std.specs.Prelude.{All, AllPairs}
use Rattle.ks_keysets.specs.declared.NodeState.{NodeState}
use Rattle.ks_keysets.specs.Keyset.{record_at}
use Rattle.ks_keysets.specs.Walk.{Descends}

-- node i is at least `steps` deep: a descent from the root to it has that many edges, or that many together with nodes that
-- are gone: numbers below n of nodes that are not live, each once
pub record Deep (g : ℕ → NodeState) (n : ℕ) (gone : List ℕ) (steps i : ℕ) : Type 0 where
  pub edges : ℕ
  pub way : Descends g edges i
  pub enough : steps ≤ edges + length gone
  pub once : AllPairs (λ x y. x ≡ y → ⊥) gone
  pub numbers : All (λ m. m < n) gone
  pub dead : All (λ m. record_at g m ≡ None) gone
