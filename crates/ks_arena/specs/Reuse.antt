-- Reuse of nodes: one that a Shape made free, and that was released, is claimed again, and a Shape makes another node of it.
-- A search that has its number may find that one.
use Rattle.std.specs.Prelude.{ℕ, ◌≡◌, List, [], ◌∷◌, Some, All, Any}
use Rattle.ks_keysets.specs.declared.Frame.{Frame}
use Rattle.ks_keysets.specs.declared.NodeState.{NodeState}
use Rattle.ks_keysets.specs.declared.Record.{Record}
use Rattle.ks_keysets.specs.Keyset.{record_at, IsLive, InKeyset}
use Rattle.ks_history.specs.declared.Event.{Event}
use Rattle.ks_history.specs.declared.Event.TheVariants.{Take, Give, Claim, Shape, Call, Twin}
use Rattle.ks_history.specs.Refusals.{Sometime}
use Rattle.ks_history.specs.Map.{Touches}
use Rattle.ks_history.specs.Lawful.{MovesBetween}
use Rattle.ks_history.specs.Trace.{free, held, graph_after, turn_after}

-- node i was used again between h and k: it was live at some moment, not live at a later one, and live again at one after that
abbrev pub UsedAgain : List Event → List Event → ℕ → Type 0
UsedAgain h k i = Sometime h k (λ a. IsLive (graph_after a) i × Sometime a k (λ b. (¬ IsLive (graph_after b) i) × Sometime b k (λ d. IsLive (graph_after d) i)))

-- no edge of a live node leads to node i
abbrev pub NoEdgeTo : (ℕ → NodeState) → ℕ → Type 0
NoEdgeTo g i = (n : ℕ) (r : Record) → record_at g n ≡ Some r → ¬ Any (λ e. e.node ≡ i) r.edges

-- an event after h that does no harm: it takes a node that is live; claims one that nobody holds, and to which no edge of a
-- live node leads; releases or shapes what its caller holds; or is a call at a node whose keyset then has the places of the
-- operation, or at two nodes, one for each place, whatever the nodes were before
abbrev pub StepsSafely : List Event → Event → Type 0
StepsSafely h (Take c i) = IsLive (graph_after h) i
StepsSafely h (Claim c i) = (turn_after h i ≡ free) × NoEdgeTo (graph_after h) i
StepsSafely h (Give c i) = turn_after h i ≡ held c
StepsSafely h (Shape c changes) = All (λ x. turn_after h x.node ≡ held c) changes
StepsSafely h (Call c i op reply) = (p : ℕ) → Touches op p → InKeyset (graph_after h) i p
StepsSafely h (Twin c i j op reply) = MovesBetween (graph_after h) i j op reply

abbrev pub AreSafe : List Event → Type 0
AreSafe [] = Unit {0}
AreSafe (e ∷ h) = AreSafe h × StepsSafely h e

-- what lasts under a discipline keeps each live node live, as it does under links
abbrev pub KeepsLive : ((ℕ → NodeState) → (ℕ → Frame) → (ℕ → NodeState) → (ℕ → Frame) → Type 0) → Type 0
KeepsLive lasts = (g k : ℕ → NodeState) (f j : ℕ → Frame) → lasts g f k j → (i : ℕ) → IsLive g i → IsLive k i

-- from h to k the reuse of nodes does no harm: each event is safe; to a node that was used again no edge of a live node led
-- for a moment; and if live nodes last, none was used again
pub record ReusesSafely (lasts : (ℕ → NodeState) → (ℕ → Frame) → (ℕ → NodeState) → (ℕ → Frame) → Type 0) (h k : List Event) : Type 0 where
  pub steps : AreSafe k
  pub apart : (i : ℕ) → UsedAgain h k i → Sometime h k (λ m. NoEdgeTo (graph_after m) i)
  pub none : KeepsLive lasts → (i : ℕ) → ¬ UsedAgain h k i
