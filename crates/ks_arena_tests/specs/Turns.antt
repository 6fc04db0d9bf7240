-- The events of taking, claiming and releasing single nodes, and what a refusal means.
use Rattle.std.specs.Prelude.{ℕ, ◌≡◌, ◌<◌, List, [], ◌∷◌}
use Rattle.ks_history.specs.declared.Event.{Event}
use Rattle.ks_history.specs.declared.Event.TheVariants.{Take, Give, Claim}
use Rattle.ks_history.specs.Trace.{turn_after}
use Rattle.ks_history.specs.Trace as turns
use Rattle.ks_arena.specs.Clauses.{WasTaken}
use Rattle.ks_arena_tests.specs.declared.Met.{Met}
use Rattle.ks_arena_tests.specs.declared.Met.TheVariants.{Ready, Busy, Gone}
use Rattle.ks_arena_tests.specs.declared.Claimed.{Claimed}
use Rattle.ks_arena_tests.specs.declared.Claimed.TheVariants.{Two, One, Nil}

-- the events of a try of c to take the node, which it releases at once, the newest first
abbrev pub met_events : ℕ → ℕ → Met → List Event
met_events c node Ready = Give c node ∷ Take c node ∷ []
met_events c node (Busy holder) = []
met_events c node Gone = []

-- a refusal is due: the turn of the node was what the try met
abbrev pub IsMetDue : ℕ → List Event → Met → Type 0
IsMetDue node k Ready = Unit {0}
IsMetDue node k (Busy holder) = turn_after k node ≡ turns.held holder
IsMetDue node k Gone = turn_after k node ≡ turns.free

-- the events of a try of c to claim two nodes, which it releases at once
abbrev pub claim_events : ℕ → Claimed → List Event
claim_events c (Two first second) = Give c second ∷ Give c first ∷ Claim c second ∷ Claim c first ∷ []
claim_events c (One first) = Give c first ∷ Claim c first ∷ []
claim_events c Nil = []

-- if fewer than two were claimed, each node was at some moment not free
abbrev pub IsClaimDue : ℕ → List Event → List Event → Claimed → Type 0
IsClaimDue nodes h k (Two first second) = Unit {0}
IsClaimDue nodes h k (One first) = (j : ℕ) → j < nodes → WasTaken h k j
IsClaimDue nodes h k Nil = (j : ℕ) → j < nodes → WasTaken h k j
