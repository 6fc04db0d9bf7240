-- When a call that does not wait may be refused: a node was busy, a node moved, or the way was too long.
use Rattle.std.specs.Prelude.{ℕ, ◌≡◌, ◌≢◌, ◌≤◌, ◌==◌, ◌⊎◌, List, [], ◌∷◌, length, count_by, Some, Any, if◌then◌else◌}
use Rattle.ks_keysets.specs.declared.NodeState.{NodeState}
use Rattle.ks_keysets.specs.declared.Record.{Record}
use Rattle.ks_keysets.specs.Record.{LeadsTo}
use Rattle.ks_keysets.specs.Keyset.{record_at, InInset}
use Rattle.ks_history.specs.declared.Op.{Op}
use Rattle.ks_history.specs.declared.Event.{Event}
use Rattle.ks_history.specs.declared.Event.TheVariants.{Take, Give, Claim, Shape, Call, Twin}
use Rattle.ks_history.specs.Map.{Touches}
use Rattle.ks_history.specs.Trace.{◌⊑◌, held, graph_after, turn_after}

-- P holds after some trace from s0 to s1
pub record Sometime (s0 s1 : List Event) (P : List Event → Type 0) : Type 0 where
  pub moment : List Event
  pub since : s0 ⊑ moment
  pub until : moment ⊑ s1
  pub so : P moment

-- node i is on the search path of the place: it is the root, or an edge of a live node carries the place to it
abbrev pub IsOnWay : (ℕ → NodeState) → ℕ → ℕ → Type 0
IsOnWay g p i = (i ≡ 0) ⊎ ((j : ℕ) × (r : Record) × (record_at g j ≡ Some r) × LeadsTo r p i)

-- what is due when caller c, between s0 and s1, reports that the holder has the node: the node is on the search path of
-- the operation's place, and another caller holds it
pub record BusyDue (c : ℕ) (op : Op) (s0 s1 : List Event) (node holder : ℕ) : Type 0 where
  pub another : holder ≢ c
  pub place : ℕ
  pub touched : Touches op place
  pub on_way : Sometime s0 s1 (λ h. IsOnWay (graph_after h) place node)
  pub is_held : Sometime s0 s1 (λ h. turn_after h node ≡ held holder)

-- the event is a Shape of another caller than c that names the node
abbrev pub ShapesFor : ℕ → ℕ → Event → Type 0
ShapesFor c node (Take d i) = ⊥
ShapesFor c node (Give d i) = ⊥
ShapesFor c node (Claim d i) = ⊥
ShapesFor c node (Shape d changes) = (d ≢ c) × Any (λ x. x.node ≡ node) changes
ShapesFor c node (Call d i op reply) = ⊥
ShapesFor c node (Twin d i j op reply) = ⊥

-- the event is a Shape of another caller than c
abbrev pub ShapesBesides : ℕ → Event → Type 0
ShapesBesides c (Take d i) = ⊥
ShapesBesides c (Give d i) = ⊥
ShapesBesides c (Claim d i) = ⊥
ShapesBesides c (Shape d changes) = d ≢ c
ShapesBesides c (Call d i op reply) = ⊥
ShapesBesides c (Twin d i j op reply) = ⊥

-- what is due when caller c, between s0 and s1, reports that the node moved: it is on the search path of the operation's
-- place, later its inset lacks the place or it is not live, and a Shape of another caller has named it
pub record MovedDue (c : ℕ) (op : Op) (s0 s1 : List Event) (node : ℕ) : Type 0 where
  pub place : ℕ
  pub touched : Touches op place
  pub before : List Event
  pub next : Event
  pub after : List Event
  pub since : s0 ⊑ before
  pub later : next ∷ before ⊑ after
  pub until : after ⊑ s1
  pub on_way : IsOnWay (graph_after before) place node
  pub gone : ¬ InInset (graph_after after) node place
  pub grows : s0 ⊑ s1
  pub shaped : Any (ShapesFor c node) grows.rest

-- the nodes that c takes
abbrev pub takes_by : ℕ → List Event → List ℕ
takes_by c [] = []
takes_by c (Take d i ∷ h) = if d == c then i ∷ takes_by c h else takes_by c h
takes_by c (Give d i ∷ h) = takes_by c h
takes_by c (Claim d i ∷ h) = takes_by c h
takes_by c (Shape d changes ∷ h) = takes_by c h
takes_by c (Call d i op reply ∷ h) = takes_by c h
takes_by c (Twin d i j op reply ∷ h) = takes_by c h

-- what is due when caller c, between s0 and s1, reports that it took as many nodes as there are, n: the root twice at
-- most, and a Shape of another caller is between
pub record FarDue (n c : ℕ) (s0 s1 : List Event) : Type 0 where
  pub grows : s0 ⊑ s1
  pub many : n ≤ length (takes_by c grows.rest)
  pub root : count_by (λ i. i == 0) (takes_by c grows.rest) ≤ 2
  pub shaped : Any (ShapesBesides c) grows.rest
