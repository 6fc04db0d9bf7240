-- The nodes of two places, both held by one caller.
use Rattle.std.specs.Prelude.{ℕ, ◌≡◌, ◌≢◌, ◌≤◌, ◌⊎◌, true, List, [], ◌∷◌, Option, Some, None}
use denote.Bor.{Bor}
use Rattle.ks_keysets.specs.Keyset.{InInset}
use Rattle.ks_history.specs.declared.Event.{Event}
use Rattle.ks_history.specs.declared.Op.{Op}
use Rattle.ks_history.specs.declared.Reply.{Reply}
use Rattle.ks_history.specs.Own.{hand}
use Rattle.ks_history.specs.Trace.{graph_after}
use Rattle.ks_node.specs.declared.start.Next.TheVariants.{Here}
use Rattle.ks_node.specs.Body.{Body, first_of, last_of, next_at}
use Rattle.ks_arena.specs.declared.held.Held.{Held as Hand}
use Rattle.ks_arena.specs.Sound.{Sort}
use Rattle.ks_arena.specs.Clauses.{Matches}
use Rattle.ks_arena.specs.AtTwo.{IsReadyPair}
use Rattle.ks_shape.specs.SearchEnd.{IsEnd}
use Rattle.ks_pair.specs.declared.pair.Pair.{Pair}
use Rattle.ks_pair.specs.declared.pair.Pair.TheVariants.{One, Two}

-- the search for the place ends at a node of this body: its range has the place, if it has one, and no edge of it leads on
abbrev pub EndsIn : Body → ℕ → Type 0
EndsIn b place = (first_of b.range ≤ place) × (place ≤ last_of b.range) × (next_at b place ≡ Here)

-- the nodes of the same places in the other order
abbrev pub turn : {N : Type 0} → Pair N → Pair N
turn (One x) = One x
turn (Two x y) = Two y x

-- after h, c holds these two nodes, which differ, and no other
abbrev pub HoldsTwo : ℕ → List Event → ℕ → ℕ → Type 0
HoldsTwo c h i j = (i ≢ j) × ((hand c h ≡ i ∷ j ∷ []) ⊎ (hand c h ≡ j ∷ i ∷ []))

module _ {N : Type 0} (sort : Sort) (shows : N → Body) where
  -- after h the search for the place ends at this live node: the place is in its inset, and in its range, if it has one; and
  -- no edge of it leads on
  pub record Admits (place : ℕ) (h : List Event) (x : Hand N) : Type 0 where
    pub live : x.live ≡ true
    pub matches : Matches sort shows h x
    pub inside : InInset (graph_after h) x.node place
    pub ends : EndsIn (shows x.body) place

  -- c holds one node, at which the searches for both places end; or two, at each of which that for its place does
  abbrev pub HoldsPair : ℕ → ℕ → ℕ → List Event → Pair N → Type 0
  HoldsPair c first second h (One x) = IsEnd sort shows c first h x × IsEnd sort shows c second h x
  HoldsPair c first second h (Two x y) = HoldsTwo c h x.node y.node × Admits first h x × Admits second h y

  -- the same, or c holds nothing
  abbrev pub Came : ℕ → ℕ → ℕ → List Event → Option (Pair N) → Type 0
  Came c first second h None = hand c h ≡ []
  Came c first second h (Some pair) = HoldsPair c first second h pair

  -- the operation may be decided with this reply at the nodes x and y, whose bodies it has changed
  abbrev pub IsReadyTwo : ℕ → ℕ → List Event → Hand N → Hand N → Op → Reply → Type 0
  IsReadyTwo nodes c h x y op reply = (b : Bor (Hand N)) → b.now ≡ y → IsReadyPair sort shows nodes c h x (Some b) op reply
