-- When a caller may be refused: no node was free, a node was busy, a node moved, or the search took as many nodes as there are.
use Rattle.std.specs.Prelude.{ℕ, ◌≡◌, ◌≢◌, ◌<◌, ◌==◌, ◌⊎◌, IsTrue, List, [], ◌∷◌, length, Some, None, is_some, if◌then◌else◌}
use Rattle.ks_keysets.specs.declared.NodeState.{NodeState}
use Rattle.ks_keysets.specs.declared.NodeState.TheVariants.{Claimed}
use Rattle.ks_keysets.specs.declared.Record.{Record}
use Rattle.ks_keysets.specs.Record.{first_value}
use Rattle.ks_keysets.specs.Keyset.{record_at, IsLive, InKeyset, value_at}
use Rattle.ks_keysets.specs.Layout.{Layout, list_layout, bplus_layout, hash_layout, bst_layout, wide_layout, room, fan}
use Rattle.ks_history.specs.declared.Op.{Op}
use Rattle.ks_history.specs.declared.Op.TheVariants.{Get, Put, Del, Add, Swap, Part, Move}
use Rattle.ks_history.specs.declared.Reply.TheVariants.{Full}
use Rattle.ks_history.specs.declared.Event.{Event}
use Rattle.ks_history.specs.declared.Event.TheVariants.{Take, Give, Claim, Shape, Call, Twin}
use Rattle.ks_history.specs.Trace.{◌⊑◌, free, held, caller_of, call_in, graph_after, turn_after}
use Rattle.ks_history.specs.Callers.{NoneBy}

-- node i is live, with pairs that fill it and none at the place p
pub record IsFullFor (layout : Layout) (g : ℕ → NodeState) (i p : ℕ) : Type 0 where
  pub node : Record
  pub is : record_at g i ≡ Some node
  pub filled : length node.pairs ≡ room layout
  pub absent : first_value node.pairs p ≡ None

-- the operation at node i is a Put or an Add of the place, for which the node is full
abbrev pub HasNoRoom : Layout → (ℕ → NodeState) → ℕ → Op → ℕ → Type 0
HasNoRoom layout g i (Put p v) place = (p ≡ place) × IsFullFor layout g i p
HasNoRoom layout g i (Add p v) place = (p ≡ place) × IsFullFor layout g i p
HasNoRoom layout g i (Get p) place = ⊥
HasNoRoom layout g i (Del p) place = ⊥
HasNoRoom layout g i (Swap p old new) place = ⊥
HasNoRoom layout g i (Part low last) place = ⊥
HasNoRoom layout g i (Move from to) place = ⊥

-- the operation at nodes i and j is a Move of a value that node i has, to the place, for which the other node is full
abbrev pub HasNoRoomFor : Layout → (ℕ → NodeState) → ℕ → ℕ → Op → ℕ → Type 0
HasNoRoomFor layout g i j (Get p) place = ⊥
HasNoRoomFor layout g i j (Put p v) place = ⊥
HasNoRoomFor layout g i j (Del p) place = ⊥
HasNoRoomFor layout g i j (Add p v) place = ⊥
HasNoRoomFor layout g i j (Swap p old new) place = ⊥
HasNoRoomFor layout g i j (Part low last) place = ⊥
HasNoRoomFor layout g i j (Move from to) place = (to ≡ place) × (i ≢ j) × IsFullFor layout g j to × IsTrue (is_some (value_at g i from))

-- the event is a call with the reply Full, whose node, of two the second, has no room for the place
abbrev pub FindsNoRoom : Layout → (ℕ → NodeState) → Event → ℕ → Type 0
FindsNoRoom layout g (Take c i) place = ⊥
FindsNoRoom layout g (Give c i) place = ⊥
FindsNoRoom layout g (Claim c i) place = ⊥
FindsNoRoom layout g (Shape c changes) place = ⊥
FindsNoRoom layout g (Call c i op reply) place = HasNoRoom layout g i op place × (reply ≡ Full)
FindsNoRoom layout g (Twin c i j op reply) place = HasNoRoomFor layout g i j op place × (reply ≡ Full)

-- the node is the root, and full: as a leaf, or as an inner node
abbrev pub IsFullRoot : Layout → (ℕ → NodeState) → ℕ → Type 0
IsFullRoot layout g node = (node ≡ 0) × (r : Record) × (record_at g node ≡ Some r) × ((length r.pairs ≡ room layout) ⊎ (fan layout ≡ Some (length r.edges)))

-- the node may grow for the place, by two nodes that are claimed one after the other: in a binary search tree the full leaf
-- whose keyset has the place, in a sorted list none, in the other layouts the full root
abbrev pub MayGrow : Layout → (ℕ → NodeState) → ℕ → ℕ → Type 0
MayGrow list_layout g node place = ⊥
MayGrow bplus_layout g node place = IsFullRoot bplus_layout g node
MayGrow hash_layout g node place = IsFullRoot hash_layout g node
MayGrow bst_layout g node place = InKeyset g node place × (r : Record) × (record_at g node ≡ Some r) × (length r.pairs ≡ room bst_layout)
MayGrow (wide_layout pairs children) g node place = IsFullRoot (wide_layout pairs children) g node

-- each node that c holds after h is live
abbrev pub HoldsLive : List Event → ℕ → Type 0
HoldsLive h c = (j : ℕ) → turn_after h j ≡ held c → IsLive (graph_after h) j

-- each is live except one, which c has claimed and holds beside a node that may grow for the place
pub record HoldsLiveBut (layout : Layout) (place : ℕ) (h : List Event) (c : ℕ) : Type 0 where
  pub one : ℕ
  pub claimed : graph_after h one ≡ Claimed c
  pub node : ℕ
  pub holds : turn_after h node ≡ held c
  pub grows : MayGrow layout (graph_after h) node place
  pub others : (j : ℕ) → j ≢ one → turn_after h j ≡ held c → IsLive (graph_after h) j

-- after the beginning s of h there were two moments between which c waited, holding no more than a growth for the place
-- needs, and each of the n nodes was at some moment not free
pub record NoneFree (layout : Layout) (n c place : ℕ) (s h : List Event) : Type 0 where
  pub from : List Event
  pub to : List Event
  pub since : s ⊑ from
  pub ordered : from ⊑ to
  pub before : to ⊑ h
  -- from the one moment to the other the caller does nothing
  pub waits : NoneBy c ordered.rest
  -- what it holds meanwhile is live, except a node that it has claimed for one that grows
  pub holds : (k : List Event) → from ⊑ k → k ⊑ to → HoldsLive k c ⊎ HoldsLiveBut layout place k c
  -- and every node is at some moment not free
  pub taken : (j : ℕ) → j < n → (k : List Event) × from ⊑ k × k ⊑ to × (turn_after k j ≢ free)

-- the reply Full of the event e, which follows the trace h, is due by what happened after its beginning s, over n nodes:
-- the node has no room for a place, and no node was free
pub record FullDue (layout : Layout) (n : ℕ) (s h : List Event) (e : Event) : Type 0 where
  pub place : ℕ
  pub no_room : FindsNoRoom layout (graph_after h) e place
  pub none_free : NoneFree layout n (caller_of e) place s h

-- the trace up to the last call of c and with it; the empty trace if c made none
abbrev pub last_call : ℕ → List Event → List Event
last_call c [] = []
last_call c (e ∷ h) = elim (call_in e) [ None ↦ last_call c h | Some call ↦ if call.caller == c then e ∷ h else last_call c h ]

-- if the event that follows h is a call with the reply Full, it is due since the last call of its caller
abbrev pub IsDue : Layout → ℕ → List Event → Event → Type 0
IsDue layout n h e = elim (call_in e) [ None ↦ Unit {0} | Some call ↦ call.reply ≡ Full → FullDue layout n (last_call call.caller h) h e ]

-- each Full of the trace was due
abbrev pub FullsDue : Layout → ℕ → List Event → Type 0
FullsDue layout n [] = Unit {0}
FullsDue layout n (e ∷ h) = FullsDue layout n h × IsDue layout n h e
