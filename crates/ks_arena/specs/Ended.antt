-- What is read of an arena that has ended: its nodes, and the entries that its graph holds.
use Rattle.std.specs.Prelude.{map, ℕ, zero, suc, ◌≡◌, ◌<◌, ◌↔◌, List, [], ◌++◌, Option, Some, None, AllPairs, Contains}
use denote.Bor.{Bor}
use Rattle.ks_keysets.specs.declared.Pair.{Pair}
use Rattle.ks_keysets.specs.declared.NodeState.{NodeState}
use Rattle.ks_keysets.specs.declared.NodeState.TheVariants.{Free, Claimed, Live}
use Rattle.ks_keysets.specs.Keyset.{IsFound}
use Rattle.ks_node.specs.Body.{Body}
use Rattle.ks_node.specs.Edges.{record_of}

-- the entries, of a place and its value, ascend by place and are what is found in the graph, and nothing else
pub record AreFound (g : ℕ → NodeState) (entries : List (ℕ × ℕ)) : Type 0 where
  pub exact : (p v : ℕ) → IsFound g p (Some v) ↔ Contains entries (p, v)
  pub ascend : AllPairs (λ x y. x.0 < y.0) entries

-- the entries of a node, and of the nodes below n, one node after another
abbrev pub entry_of : Pair → ℕ × ℕ
entry_of x = (x.place, x.value)

abbrev pub entries_at : NodeState → List (ℕ × ℕ)
entries_at Free = []
entries_at (Claimed c) = []
entries_at (Live r) = map entry_of r.pairs

abbrev pub entries_below : (ℕ → NodeState) → ℕ → List (ℕ × ℕ)
entries_below g zero = []
entries_below g (suc n) = entries_below g n ++ entries_at (g n)

-- a node with this state is free, or live with the record of this body
abbrev pub IsReadAs : {N : Type 0} → (N → Body) → NodeState → Option (Bor N) → Type 0
IsReadAs shows s None = s ≡ Free
IsReadAs shows s (Some b) = s ≡ Live (record_of (shows b.now))
