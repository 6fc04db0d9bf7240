-- Which traces are lawful, and what holds at every beginning of one.
use Rattle.std.specs.Prelude.{ℕ, ◌≡◌, ◌⊎◌, List, [], ◌∷◌, All, AllPairs}
use Rattle.ks_keysets.specs.declared.NodeState.{NodeState}
use Rattle.ks_keysets.specs.Keyset.{InKeyset, Good, SameFound, value_at}
use Rattle.ks_history.specs.declared.Op.{Op}
use Rattle.ks_history.specs.declared.Op.TheVariants.{Get, Put, Del, Add, Swap, Part, Move}
use Rattle.ks_history.specs.declared.Reply.{Reply}
use Rattle.ks_history.specs.declared.Reply.TheVariants.{Full}
use Rattle.ks_history.specs.declared.Event.{Event}
use Rattle.ks_history.specs.declared.Event.TheVariants.{Take, Give, Claim, Shape, Call, Twin}
use Rattle.ks_history.specs.Write.{Map}
use Rattle.ks_history.specs.Map.{IsAnswer, Touches, moved}
use Rattle.ks_history.specs.Trace.{free, idle, held, graph_after, turn_after}

-- the reply is what one node has at the places of the operation; a move is never decided so, even within one node
abbrev pub AnswersAtOne : Map → Op → Reply → Type 0
AnswersAtOne m (Get p) reply = IsAnswer m (Get p) reply
AnswersAtOne m (Put p v) reply = IsAnswer m (Put p v) reply
AnswersAtOne m (Del p) reply = IsAnswer m (Del p) reply
AnswersAtOne m (Add p v) reply = IsAnswer m (Add p v) reply
AnswersAtOne m (Swap p old new) reply = IsAnswer m (Swap p old new) reply
AnswersAtOne m (Part low last) reply = IsAnswer m (Part low last) reply
AnswersAtOne m (Move from to) reply = ⊥

-- the operation is a move from a place of node i to one of node j, and the reply is what the two have there, or Full
abbrev pub MovesBetween : (ℕ → NodeState) → ℕ → ℕ → Op → Reply → Type 0
MovesBetween g i j (Get p) reply = ⊥
MovesBetween g i j (Put p v) reply = ⊥
MovesBetween g i j (Del p) reply = ⊥
MovesBetween g i j (Add p v) reply = ⊥
MovesBetween g i j (Swap p old new) reply = ⊥
MovesBetween g i j (Part low last) reply = ⊥
MovesBetween g i j (Move from to) reply =
    InKeyset g i from
    × InKeyset g j to
    × ((reply ≡ moved (value_at g i from) (value_at g j to)) ⊎ (reply ≡ Full))

-- the condition of an event in the state after the trace h
abbrev pub Meets : List Event → Event → Type 0
Meets h (Take c i) = turn_after h i ≡ idle
Meets h (Claim c i) = turn_after h i ≡ free
Meets h (Give c i) = turn_after h i ≡ held c
Meets h (Shape c changes) =
    All (λ x. turn_after h x.node ≡ held c) changes
    × AllPairs (λ x y. x.node ≡ y.node → ⊥) changes
    × SameFound (graph_after h) (graph_after (Shape c changes ∷ h))
Meets h (Call c i op reply) =
    (turn_after h i ≡ held c)
    × ((p : ℕ) → Touches op p → InKeyset (graph_after h) i p)
    × AnswersAtOne (value_at (graph_after h) i) op reply
Meets h (Twin c i j op reply) =
    (turn_after h i ≡ held c)
    × (turn_after h j ≡ held c)
    × MovesBetween (graph_after h) i j op reply

-- each event meets its condition in the state before it
abbrev pub Lawful : List Event → Type 0
Lawful [] = Unit {0}
Lawful (e ∷ h) = Lawful h × Meets h e

-- the graph is good at every beginning of the trace, the empty one and the whole among them
pub data GoodThroughout : List Event → Type 0 where
  at_opening : Good (graph_after []) → GoodThroughout []
  and_then : {h : List Event} {e : Event} → GoodThroughout h → Good (graph_after (e ∷ h)) → GoodThroughout (e ∷ h)
