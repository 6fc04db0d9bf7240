-- Insets, outsets and keysets, good graphs, and what a graph holds at a place.
use Rattle.std.specs.Prelude.{ℕ, zero, suc, [], ◌≡◌, ◌<◌, ◌↔◌, Option, Some, None, All, AllPairs}
use Rattle.ks_keysets.specs.declared.NodeState.{NodeState}
use Rattle.ks_keysets.specs.declared.NodeState.TheVariants.{Free, Claimed, Live}
use Rattle.ks_keysets.specs.declared.Record.{Record}
use Rattle.ks_keysets.specs.Record.{IsPlace, Carries, LeadsTo, LeadsOn, first_value}

-- node 0, the root, is live with no edge and no pair, and the others are free
abbrev pub opening : ℕ → NodeState
opening zero = Live (record { edges = []; pairs = [] })
opening (suc n) = Free

-- the record of a live state
abbrev pub live_record : NodeState → Option Record
live_record Free = None
live_record (Claimed c) = None
live_record (Live r) = Some r

-- the record of node n, if it is live
abbrev pub record_at : (ℕ → NodeState) → ℕ → Option Record
record_at g n = live_record (g n)

-- node n is live
abbrev pub IsLive : (ℕ → NodeState) → ℕ → Type 0
IsLive g n = (r : Record) × (record_at g n ≡ Some r)

-- there is a path of the place from the root to the node, along live nodes, each of which has an edge that carries the place
-- to the next
pub data Reaches (g : ℕ → NodeState) (p : ℕ) : ℕ → Type 0 where
  at_root : IsLive g 0 → Reaches g p 0
  along : {n m : ℕ} (r : Record) → Reaches g p n → record_at g n ≡ Some r → LeadsTo r p m → IsLive g m → Reaches g p m

-- the place is in the inset of the node: it is a place, and such a path leads there
abbrev pub InInset : (ℕ → NodeState) → ℕ → ℕ → Type 0
InInset g n p = IsPlace p × Reaches g p n

-- an edge of the node carries the place
abbrev pub InOutset : (ℕ → NodeState) → ℕ → ℕ → Type 0
InOutset g n p = (r : Record) × (record_at g n ≡ Some r) × LeadsOn r p

-- the inset without the outset
abbrev pub InKeyset : (ℕ → NodeState) → ℕ → ℕ → Type 0
InKeyset g n p = InInset g n p × ¬ InOutset g n p

-- the edges of each live node are disjoint
abbrev pub AreApart : (ℕ → NodeState) → Type 0
AreApart g = (n : ℕ) (r : Record) → record_at g n ≡ Some r → AllPairs (λ e f. (p : ℕ) → Carries e p → Carries f p → ⊥) r.edges

-- a good graph
pub record Good (g : ℕ → NodeState) : Type 0 where
  pub root : IsLive g 0
  pub apart : AreApart g
  -- they lead to live nodes
  pub leads : (n : ℕ) (r : Record) → record_at g n ≡ Some r → All (λ e. IsLive g e.node) r.edges
  -- no place is in two keysets
  pub one : (n m p : ℕ) → InKeyset g n p → InKeyset g m p → n ≡ m
  -- every place is in the keyset of a live node
  pub some : (p : ℕ) → IsPlace p → (n : ℕ) × InKeyset g n p
  -- each stored place is in the keyset of its node
  pub stored : (n : ℕ) (r : Record) → record_at g n ≡ Some r → All (λ x. InKeyset g n x.place) r.pairs
  -- and only one of the node's pairs has it
  pub once : (n : ℕ) (r : Record) → record_at g n ≡ Some r → AllPairs (λ x y. x.place ≡ y.place → ⊥) r.pairs

-- the value at the place in the record, if there is one
abbrev pub value_in : Option Record → ℕ → Option ℕ
value_in None p = None
value_in (Some r) p = first_value r.pairs p

-- the value that node n has at the place, if it is live and has one
abbrev pub value_at : (ℕ → NodeState) → ℕ → ℕ → Option ℕ
value_at g n p = value_in (record_at g n) p

-- the graph holds v at the place: the first node whose keyset holds the place has v there; or there is no such node, and v
-- is nothing
pub data IsFound (g : ℕ → NodeState) (p : ℕ) (v : Option ℕ) : Type 0 where
  here : (n : ℕ) → InKeyset g n p → ((m : ℕ) → m < n → ¬ InKeyset g m p) → v ≡ value_at g n p → IsFound g p v
  nowhere : ((n : ℕ) → ¬ InKeyset g n p) → v ≡ None → IsFound g p v

-- what is found is the same in both graphs at every place
pub record SameFound (g k : ℕ → NodeState) : Type 0 where
  pub at : (p : ℕ) (v : Option ℕ) → IsPlace p → IsFound g p v ↔ IsFound k p v
