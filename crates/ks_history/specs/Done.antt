-- What a call leaves in the trace, how many nodes it holds meanwhile, and tight traces.
use Rattle.std.specs.Prelude.{ℕ, ◌≡◌, ◌≤◌, List, [], ◌∷◌, ◌++◌, length, Some, Any}
use Rattle.ks_keysets.specs.declared.Record.{Record}
use Rattle.ks_keysets.specs.declared.Frame.{Frame}
use Rattle.ks_keysets.specs.Keyset.{record_at}
use Rattle.ks_keysets.specs.Layout.{Layout}
use Rattle.ks_keysets.specs.Tight.{IsTight, IsTidyAt}
use Rattle.ks_history.specs.declared.Op.{Op}
use Rattle.ks_history.specs.declared.Op.TheVariants.{Get, Put, Del, Add, Swap, Part, Move}
use Rattle.ks_history.specs.declared.Reply.{Reply}
use Rattle.ks_history.specs.declared.Reply.TheVariants.{Full}
use Rattle.ks_history.specs.declared.Event.{Event}
use Rattle.ks_history.specs.declared.Event.TheVariants.{Take, Give, Claim, Shape, Call, Twin}
use Rattle.ks_history.specs.Trace.{held, call_in, graph_after, turn_after, number_after}
use Rattle.ks_history.specs.Own.{called, decided_at, hand}
use Rattle.ks_history.specs.Frames.{frame_after}
use Rattle.ks_history.specs.Passes.{NoCallBy}
use Rattle.ks_history.specs.Due.{FullDue}

-- how callers go from node to node: by holding one until they have taken the next, by releasing it first and restarting at
-- the root, or by moving along links
pub data Template : Type 0 where
  coupling : Template
  give_up : Template
  link_move : Template

-- c holds a live node with an edge to node i
pub record HoldsAbove (h : List Event) (c i : ℕ) : Type 0 where
  pub above : ℕ
  pub node : Record
  pub holds : turn_after h above ≡ held c
  pub is : record_at (graph_after h) above ≡ Some node
  pub leads : Any (λ e. e.node ≡ i) node.edges

-- where a caller that holds nothing may begin: by coupling at the root, else at any node
abbrev pub MayBegin : Template → ℕ → Type 0
MayBegin coupling i = i ≡ 0
MayBegin give_up i = Unit {0}
MayBegin link_move i = Unit {0}

-- whether a caller that holds a node may take any other one for the operation: by giving up, for a move
abbrev pub MayJoin : Template → Op → Type 0
MayJoin coupling op = ⊥
MayJoin link_move op = ⊥
MayJoin give_up (Get p) = ⊥
MayJoin give_up (Put p v) = ⊥
MayJoin give_up (Del p) = ⊥
MayJoin give_up (Add p v) = ⊥
MayJoin give_up (Swap p old new) = ⊥
MayJoin give_up (Part low last) = ⊥
MayJoin give_up (Move from to) = Unit {0}

-- how c may come to take node i for its operation: it begins there, comes from a node that it holds, or joins it to the
-- only node that it holds
pub data MayTake (template : Template) (op : Op) (h : List Event) (c i : ℕ) : Type 0 where
  first_taken : hand c h ≡ [] → MayBegin template i → MayTake template op h c i
  from_above : HoldsAbove h c i → MayTake template op h c i
  joined : MayJoin template op → (one : ℕ) → hand c h ≡ one ∷ [] → MayTake template op h c i

-- if the event that follows h is a Take of c, c may take that node
abbrev pub TakesWell : Template → ℕ → Op → List Event → Event → Type 0
TakesWell template c op h (Take d i) = d ≡ c → MayTake template op h c i
TakesWell template c op h (Give d i) = Unit {0}
TakesWell template c op h (Claim d i) = Unit {0}
TakesWell template c op h (Shape d changes) = Unit {0}
TakesWell template c op h (Call d i op' reply) = Unit {0}
TakesWell template c op h (Twin d i j op' reply) = Unit {0}

-- how many nodes a call that only searches holds at most
abbrev pub most_searched : Template → ℕ
most_searched coupling = 2
most_searched give_up = 1
most_searched link_move = 1

-- how many nodes a call holds at most
abbrev pub most_held : Template → Op → ℕ
most_held template (Get p) = most_searched template
most_held template (Put p v) = 3
most_held template (Del p) = 3
most_held template (Add p v) = 3
most_held template (Swap p old new) = most_searched template
most_held template (Part low last) = most_searched template
most_held template (Move from to) = 3

-- from s0 on caller c takes nodes as it may, and never holds more than its operation needs
pub data Hands (template : Template) (c : ℕ) (op : Op) (s0 : List Event) : List Event → Type 0 where
  at_first : length (hand c s0) ≤ most_held template op → Hands template c op s0 s0
  and_on : {h : List Event} {e : Event} → Hands template c op s0 h → TakesWell template c op h e → length (hand c (e ∷ h)) ≤ most_held template op → Hands template c op s0 (e ∷ h)

-- the call of c between s0 and s1 made one event that is a call, of this operation, with this reply and number, and
-- released all its nodes
pub record Done (layout : Layout) (template : Template) (n c : ℕ) (op : Op) (s0 s1 : List Event) (reply : Reply) (number : ℕ) : Type 0 where
  pub before : List Event
  pub event : Event
  pub after : List Event
  pub is : s1 ≡ after ++ event ∷ (before ++ s0)
  pub call : call_in event ≡ Some (called c op reply)
  pub none_before : NoCallBy c before
  pub none_after : NoCallBy c after
  pub numbered : number ≡ number_after (before ++ s0)
  pub gave_all : hand c s1 ≡ []
  pub hands : Hands template c op s0 s1
  pub full : reply ≡ Full → FullDue layout n s0 (before ++ s0) event

-- the same, and the event was only at this node, which then had this frame; blank is the frame of a blank body
pub record DoneAt (layout : Layout) (template : Template) (n c : ℕ) (op : Op) (s0 s1 : List Event) (reply : Reply) (number node : ℕ) (blank frame : Frame) : Type 0 where
  pub done : Done layout template n c op s0 s1 reply number
  pub at : decided_at done.event ≡ node ∷ []
  pub framed : frame_after blank (done.before ++ s0) node ≡ frame

-- the call of c between s0 and s1 made no such event, and released all its nodes
pub record Left (template : Template) (c : ℕ) (op : Op) (s0 s1 : List Event) : Type 0 where
  pub rest : List Event
  pub is : s1 ≡ rest ++ s0
  pub none : NoCallBy c rest
  pub gave_all : hand c s1 ≡ []
  pub hands : Hands template c op s0 s1

-- after the trace no live node fits with its right neighbour, and the root is no branch with all edges to one child;
-- blank is the frame of a blank body
abbrev pub Tight : Layout → Frame → List Event → Type 0
Tight layout blank h = IsTight layout (graph_after h) (frame_after blank h)

-- after it the node whose keyset holds the place is not low, or fits with no right neighbour
abbrev pub TidyAt : Layout → Frame → List Event → ℕ → Type 0
TidyAt layout blank h p = IsTidyAt layout (graph_after h) (frame_after blank h) p
