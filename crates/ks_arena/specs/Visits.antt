-- Nodes that a caller holds and whose bodies it leaves in their slots.
use Rattle.std.specs.Prelude.{ℕ, ◌≡◌, ◌≢◌, List, [], ◌∷◌, Option, Some, None, true}
use Rattle.ks_arena.specs.declared.held.Held.{Held as Hand}
use Rattle.ks_arena.specs.declared.held.Pass.{Pass}
use Rattle.ks_arena.specs.declared.held.Visited.{Visited}
use Rattle.ks_arena.specs.Plays.{slot_in}
use Rattle.ks_arena.specs.Clauses.{hand_of}

module _ {N : Type 0} where
  -- a visited node, as one whose body is held: it is live
  abbrev pub held_at : Visited N → Hand N
  held_at x = record { body = x.body.value; node = x.node; live = true }

  abbrev pub held_if : Option (Visited N) → Option (Hand N)
  held_if None = None
  held_if (Some x) = Some (held_at x)

module _ {N D : Type 0} where
  -- the body of the visited node lies in its slot
  abbrev pub LiesInSlot : Pass N D → Visited N → Type 0
  LiesInSlot p x = slot_in x.node p.seat.me.1 ≡ Some x.body.value

  -- the node is the one that the pass took last, of those that it holds
  abbrev pub IsLast : Pass N D → ℕ → Type 0
  IsLast p i = (others : List ℕ) × (hand_of p ≡ i ∷ others)

  -- the pass holds two nodes, and this is the one that it took before the last
  abbrev pub IsUnderLast : Pass N D → ℕ → Type 0
  IsUnderLast p i = (last : ℕ) × (hand_of p ≡ last ∷ i ∷ [])

  -- what lies in the slots of the other nodes that the pass holds stays
  abbrev pub SlotsStayBut : ℕ → Pass N D → Pass N D → Type 0
  SlotsStayBut i p q = (j : ℕ) → j ≢ i → slot_in j q.seat.me.1 ≡ slot_in j p.seat.me.1
