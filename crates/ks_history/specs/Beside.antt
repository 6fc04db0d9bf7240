-- Laws of traces: a node that no Shape names keeps the places of its inset, so one that has lost a place was shaped, and
-- if not by the caller itself then by another.
use Rattle.std.proofs.Common.{◌≡◌, ◌≢◌, ℕ, List, [], ◌∷◌}
use Rattle.std.specs.Prelude.{All, Any}
use Rattle.ks_keysets.specs.declared.NodeState.{NodeState}
use Rattle.ks_history.specs.declared.Event.{Event}
use Rattle.ks_history.specs.declared.Event.TheVariants.{Take, Give, Claim, Shape, Call, Twin}
use Rattle.ks_history.specs.Trace.{caller_of, graph_after}

-- the event is a Shape that names node i
abbrev pub Shapes : ℕ → Event → Type 0
Shapes i (Take d j) = ⊥
Shapes i (Give d j) = ⊥
Shapes i (Claim d j) = ⊥
Shapes i (Shape d changes) = Any (λ x. x.node ≡ i) changes
Shapes i (Call d j op reply) = ⊥
Shapes i (Twin d j k op reply) = ⊥

-- none of the events is a Shape that names node i
abbrev pub NoneShapes : ℕ → List Event → Type 0
NoneShapes i [] = Unit {0}
NoneShapes i (e ∷ es) = (¬ Shapes i e) × NoneShapes i es

-- no Shape of c among the events names it
abbrev pub OwnSpare : ℕ → ℕ → List Event → Type 0
OwnSpare c i [] = Unit {0}
OwnSpare c i (e ∷ es) = (caller_of e ≡ c → ¬ Shapes i e) × OwnSpare c i es

-- if the event that follows h is a Shape, each node that it does not name keeps the places for which `Inside` holds
abbrev pub StepsBeside : ((ℕ → NodeState) → ℕ → ℕ → Type 0) → List Event → Event → Type 0
StepsBeside Inside h (Take c j) = Unit {0}
StepsBeside Inside h (Give c j) = Unit {0}
StepsBeside Inside h (Claim c j) = Unit {0}
StepsBeside Inside h (Shape c changes) = (i p : ℕ) → All (λ x. x.node ≢ i) changes → Inside (graph_after h) i p → Inside (graph_after (Shape c changes ∷ h)) i p
StepsBeside Inside h (Call c j op reply) = Unit {0}
StepsBeside Inside h (Twin c j k op reply) = Unit {0}

-- so does each event of the trace
abbrev pub AreBeside : ((ℕ → NodeState) → ℕ → ℕ → Type 0) → List Event → Type 0
AreBeside Inside [] = Unit {0}
AreBeside Inside (e ∷ h) = AreBeside Inside h × StepsBeside Inside h e
