-- What a stretch of a call leaves: each node that it made live is led to from one level above, or waits for an edge.
use Rattle.std.specs.Prelude.{ℕ, ◌≡◌, ◌⊎◌, Bool, false, List, [], ◌∷◌, Option, Some, None, Result, Ok, Err, IsTrue}
use Rattle.ks_keysets.specs.Keyset.{IsLive}
use Rattle.ks_keysets.specs.Layout.{Layout}
use Rattle.ks_history.specs.declared.Event.{Event}
use Rattle.ks_history.specs.Trace.{graph_after}
use Rattle.ks_history.specs.Frames.{frame_after}
use Rattle.ks_flow.specs.Link.{IsLed}
use Rattle.ks_node.specs.Asks.{IsCut}
use Rattle.ks_node.specs.Body.{Body, Content, content_of, is_branch}
use Rattle.ks_node.specs.Room.{is_full}
use Rattle.ks_arena.specs.declared.held.Held.{Held as Hand}
use Rattle.ks_arena.specs.Sound.{Sort, blank_of}
use Rattle.ks_link.specs.declared.parts.Waiting.{Waiting}
use Rattle.ks_link.specs.declared.parts.Parted.{Parted}

-- node i is among those that wait
abbrev pub Waits : List Waiting → ℕ → Type 0
Waits [] i = ⊥
Waits (w ∷ ws) i = (w.node ≡ i) ⊎ Waits ws i

abbrev pub waits_if : Option Waiting → List Waiting
waits_if None = []
waits_if (Some w) = w ∷ []

-- an edge that begins at the cut can be added to the body
abbrev pub CanLead : (Content → ℕ → Bool) → Body → ℕ → Type 0
CanLead can b cut = IsTrue (is_branch b) × IsCut b cut × IsTrue (can (content_of b) cut)

-- or the node is not full
abbrev pub TakesEdge : Layout → (Content → ℕ → Bool) → Body → ℕ → Type 0
TakesEdge layout can b cut = CanLead can b cut ⊎ (is_full layout b ≡ false)

module _ (sort : Sort) where
  -- after h an edge of a live node one level above node i leads to it
  abbrev pub IsLedAfter : List Event → ℕ → Type 0
  IsLedAfter h i = IsLed (graph_after h) (frame_after (blank_of sort) h) i

  -- each node that is live after k was live after h, or is led to, or waits
  abbrev pub LedBut : List Waiting → List Event → List Event → Type 0
  LedBut ws h k = (i : ℕ) → IsLive (graph_after k) i → IsLive (graph_after h) i ⊎ IsLedAfter k i ⊎ Waits ws i

  module _ {N : Type 0} where
    -- so it is of the parts of a node: what was split off waits
    abbrev pub PartsLed : List Event → List Event → Result (Parted N) (Hand N) → Type 0
    PartsLed h k (Ok p) = LedBut (waits_if p.new) h k
    PartsLed h k (Err y) = LedBut [] h k

-- the half that is kept is not full
abbrev pub HalfHasRoom : {N : Type 0} → Layout → (N → Body) → Result (Parted N) (Hand N) → Type 0
HalfHasRoom layout shows (Ok p) = is_full layout (shows p.half.body) ≡ false
HalfHasRoom layout shows (Err y) = Unit {0}

-- the node that is returned is not full
abbrev pub LeavesRoom : {N : Type 0} → Layout → (N → Body) → Result (Hand N) (Hand N) → Type 0
LeavesRoom layout shows (Ok x) = is_full layout (shows x.body) ≡ false
LeavesRoom layout shows (Err x) = Unit {0}
