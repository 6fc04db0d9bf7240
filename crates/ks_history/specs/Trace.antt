-- Traces of events, and the graph, the turns, the frames and the calls after a trace.
-- A trace is a list of events, the newest first: e ∷ h is the trace h and then the event e.
use Rattle.std.specs.Prelude.{ℕ, ◌≡◌, ◌==◌, ◌%◌, ◌^◌, List, [], ◌∷◌, ◌++◌, length, Option, Some, None, if◌then◌else◌}
use Rattle.ks_keysets.specs.declared.NodeState.{NodeState}
use Rattle.ks_keysets.specs.declared.NodeState.TheVariants.{Free, Claimed, Live}
use Rattle.ks_keysets.specs.Keyset.{opening}
use Rattle.ks_keysets.specs.Change.{shaped}
use Rattle.ks_history.specs.declared.Op.{Op}
use Rattle.ks_history.specs.declared.Reply.{Reply}
use Rattle.ks_history.specs.declared.Answered.{Answered}
use Rattle.ks_history.specs.declared.Event.{Event}
use Rattle.ks_history.specs.declared.Event.TheVariants.{Take, Give, Claim, Shape, Call, Twin}
use Rattle.ks_history.specs.Write.{Write, written, taken_out, put_in, pairs_with}

infix 20 ◌⊑◌
-- the first trace is a beginning of the second: what came after it is `rest`
pub record ◌⊑◌ (seen h : List Event) : Type 0 where
  pub rest : List Event
  pub is : h ≡ rest ++ seen

-- whose event it is
abbrev pub caller_of : Event → ℕ
caller_of (Take c i) = c
caller_of (Give c i) = c
caller_of (Claim c i) = c
caller_of (Shape c changes) = c
caller_of (Call c i op reply) = c
caller_of (Twin c i j op reply) = c

-- the state of a node that a Give names: a claimed node becomes free
abbrev pub given : NodeState → NodeState
given Free = Free
given (Claimed c) = Free
given (Live r) = Live r

-- a live node after a write to its pairs
abbrev pub state_with : Write → NodeState → NodeState
state_with w Free = Free
state_with w (Claimed c) = Claimed c
state_with w (Live r) = Live (record { edges = r.edges; pairs = pairs_with r.pairs w })

-- the graph with a write at node j
abbrev pub written_at : Write → ℕ → (ℕ → NodeState) → ℕ → NodeState
written_at w j g i = if i == j then state_with w (g j) else g i

-- the graph after one more event
abbrev pub graph_then : Event → (ℕ → NodeState) → ℕ → NodeState
graph_then (Take c j) g i = g i
graph_then (Give c j) g i = if i == j then given (g j) else g i
graph_then (Claim c j) g i = if i == j then Claimed c else g i
graph_then (Shape c changes) g i = shaped changes i (g i)
graph_then (Call c j op reply) g i = written_at (written op reply) j g i
graph_then (Twin c j k op reply) g i = written_at (put_in (written op reply)) k (written_at (taken_out (written op reply)) j g) i

-- the graph after the trace: the opening graph, changed by each event in order
abbrev pub graph_after : List Event → ℕ → NodeState
graph_after [] = opening
graph_after (e ∷ h) = graph_then e (graph_after h)

-- who may use a node: nobody yet, anybody, or the caller that holds it
pub data Turn : Type 0 where
  free : Turn
  idle : Turn
  held : (caller : ℕ) → Turn

-- the turn of a node that a Give names: a live node becomes idle, any other free
abbrev pub turn_given : NodeState → Turn
turn_given Free = free
turn_given (Claimed c) = free
turn_given (Live r) = idle

-- whose turn it is at node i after the trace
abbrev pub turn_after : List Event → ℕ → Turn
turn_after [] i = if i == 0 then idle else free
turn_after (Take c j ∷ h) i = if i == j then held c else turn_after h i
turn_after (Give c j ∷ h) i = if i == j then turn_given (graph_after h j) else turn_after h i
turn_after (Claim c j ∷ h) i = if i == j then held c else turn_after h i
turn_after (Shape c changes ∷ h) i = turn_after h i
turn_after (Call c j op reply ∷ h) i = turn_after h i
turn_after (Twin c j k op reply ∷ h) i = turn_after h i

-- a call as its event has it: its caller, its operation and its reply
pub record Called : Type 0 where
  pub caller : ℕ
  pub op : Op
  pub reply : Reply

-- a call without its caller
abbrev pub answered : Called → Answered
answered call = record { op = call.op; reply = call.reply }

-- the call that the event makes, if it is one
abbrev pub call_in : Event → Option Called
call_in (Take c i) = None
call_in (Give c i) = None
call_in (Claim c i) = None
call_in (Shape c changes) = None
call_in (Call c i op reply) = Some (record { caller = c; op = op; reply = reply })
call_in (Twin c i j op reply) = Some (record { caller = c; op = op; reply = reply })

-- the calls of the trace, oldest first
abbrev pub calls_of : List Event → List Answered
calls_of [] = []
calls_of (e ∷ h) = elim (call_in e) [ None ↦ calls_of h | Some call ↦ calls_of h ++ answered call ∷ [] ]

-- the number of a call whose event follows h: how many calls are before it
abbrev pub number_after : List Event → ℕ
number_after h = length (calls_of h) % 2 ^ 64

-- a call with its number
pub record NumberedCall : Type 0 where
  pub number : ℕ
  pub call : Answered

-- the calls of caller c with their numbers, oldest first
abbrev pub calls_by : ℕ → List Event → List NumberedCall
calls_by c [] = []
calls_by c (e ∷ h) =
    elim (call_in e) [
      | None ↦ calls_by c h
      | Some call ↦ if c == call.caller then calls_by c h ++ record { number = number_after h; call = answered call } ∷ [] else calls_by c h
    ]
