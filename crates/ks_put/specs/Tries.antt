-- The results of a non-blocking search for room.
use Rattle.std.specs.Prelude.{ℕ, ◌≡◌, ◌<◌, ◌⊎◌, suc, Bool, false, IsTrue, List, [], Some, Result, Ok, Err}
use Rattle.ks_keysets.specs.Layout.{Layout}
use Rattle.ks_node.specs.declared.node.Node.{Ghosts as NodeGhosts}
use Rattle.ks_node.below.ks_places.specs.declared.Placing.{Ghosts as PlacingGhosts}
use Rattle.ks_flow.specs.declared.discipline.Discipline.{Ghosts as DisciplineGhosts}
use Rattle.ks_history.specs.declared.Event.{Event}
use Rattle.ks_history.specs.declared.Op.{Op}
use Rattle.ks_history.specs.Descent.{TookSince}
use Rattle.ks_history.specs.Done.{Template, coupling}
use Rattle.ks_history.specs.Own.{hand}
use Rattle.ks_history.specs.Underway.{Underway}
use Rattle.ks_node.specs.Body.{Body}
use Rattle.ks_arena.specs.declared.arena.Arena.{Arena}
use Rattle.ks_arena.specs.declared.held.Pass.{Pass}
use Rattle.ks_arena.specs.declared.held.Held.{Held as Hand}
use Rattle.ks_arena.specs.Sound.{Sort, sort_of}
use Rattle.ks_arena.specs.Clauses.{seen_of}
use Rattle.ks_shape.specs.declared.answers.Later.{Later}
use Rattle.ks_shape.specs.declared.answers.Numbered.{Numbered}
use Rattle.ks_shape.specs.declared.answers.PutLater.{PutLater}
use Rattle.ks_shape.specs.Fills.{FoundRoom}
use Rattle.ks_shape.specs.Tries.{FindsFar, TriedPut}
use Rattle.ks_shape.specs.Descents.{IsCauseAt}
use Rattle.ks_shape.specs.declared.path.Path.{Path}
use Rattle.ks_put.specs.declared.try_room.Step.{Step}
use Rattle.ks_put.specs.Deeper.{IsDownPath}
use Rattle.ks_put.specs.Narrows.{cuts_left}
use Rattle.ks_shape.specs.OnPath.{IsOnPath}
use Rattle.ks_put.specs.Parts.{IsEased}

module _ {N : Type 0} (sort : Sort) (shows : N → Body) where
  -- c, which searches for the place, is on the path of the step; or it holds nothing
  abbrev pub StepOrNone : ℕ → ℕ → List Event → Result (Step N) Later → Type 0
  StepOrNone c place h (Ok step) = IsOnPath sort shows c place h step.path
  StepOrNone c place h (Err later) = hand c h ≡ []

module _ {N : Type 0} (n c place : ℕ) (s0 h : List Event) where
  -- since s0 c took the step's depth + 1 nodes, the root twice at most, and its path is so deep; or its cause is due
  abbrev pub StepOrCause : Result (Step N) Later → Type 0
  StepOrCause (Ok step) = IsDownPath n c s0 h (suc step.depth) 2 step.depth step.path
  StepOrCause (Err later) = IsCauseAt coupling n c place s0 h later

-- c came to the node where its search ends, as the result says; or it holds nothing
abbrev pub RoomOrNone : {N : Type 0} → Sort → (N → Body) → ℕ → ℕ → ℕ → List Event → List Event → Result (Result (Hand N) (Hand N)) Later → Type 0
RoomOrNone sort shows n c place h k (Ok found) = FoundRoom sort shows n c place h k found
RoomOrNone sort shows n c place h k (Err later) = hand c k ≡ []

-- or the cause that put it off is due
abbrev pub RoomOrCause : {N : Type 0} → ℕ → ℕ → ℕ → List Event → List Event → Result (Result (Hand N) (Hand N)) Later → Type 0
RoomOrCause n c place s0 h (Ok found) = Unit {0}
RoomOrCause n c place s0 h (Err later) = IsCauseAt coupling n c place s0 h later

-- the step went down from the node x, at this depth, and says whether a claim was refused; or the search was put off
abbrev pub WentDown : {N : Type 0} → Hand N → ℕ → Bool → Result (Step N) Later → Type 0
WentDown x depth refused (Ok step) = (step.path.parent ≡ Some x) × (step.depth ≡ suc depth) × (step.refused ≡ refused)
WentDown x depth refused (Err later) = Unit {0}

-- the depth of the step is less than the number of nodes
abbrev pub IsNear : {N : Type 0} → ℕ → Result (Step N) Later → Type 0
IsNear n (Ok step) = step.depth < n
IsNear n (Err later) = Unit {0}

-- if a claim was refused in the step, no node was free
abbrev pub WasRefused : {N : Type 0} → Type 0 → Result (Step N) Later → Type 0
WasRefused None_free (Ok step) = IsTrue step.refused → None_free
WasRefused None_free (Err later) = Unit {0}

module _ {N : Type 0} (layout : Layout) (shows : N → Body) where
  -- unless a claim was refused, the parent of the path's node has room, if all nodes grow and the node is full
  abbrev pub IsEasedBut : Type 0 → Bool → Path N → Type 0
  IsEasedBut Grow refused path = refused ≡ false → Grow → IsEased layout shows path

  abbrev pub IsEasedStep : Type 0 → Result (Step N) Later → Type 0
  IsEasedStep Grow (Ok step) = IsEasedBut Grow step.refused step.path
  IsEasedStep Grow (Err later) = Unit {0}

  -- the step goes down; or it splits the node, and so narrows the search
  abbrev pub IsNearer : ℕ → ℕ → Path N → Result (Step N) Later → Type 0
  IsNearer place depth path (Ok step) = (step.depth ≡ suc depth) ⊎ ((step.depth ≡ depth) × (cuts_left layout shows place step.path < cuts_left layout shows place path))
  IsNearer place depth path (Err later) = Unit {0}

module _ {N D P : Type 0} {n : NodeGhosts N P} {q : PlacingGhosts P} {d : DisciplineGhosts D} where
  abbrev pub StepsOrNone : Arena N D P n q d → ℕ → ℕ → Pass N D → Result (Step N) Later → Type 0
  StepsOrNone a c place p result = StepOrNone (sort_of n.layout n.ranged) n.body c place (seen_of p) result

  -- a search that is on the path at p, at this depth, is where its step says at p'; or the cause that put it off is due
  abbrev pub OnOrCause : Arena N D P n q d → ℕ → Pass N D → Pass N D → ℕ → Path N → Result (Step N) Later → Type 0
  OnOrCause a place p p' depth path result = (start : List Event) → IsDownPath a.nodes p.caller start (seen_of p) (suc depth) 2 depth path → StepOrCause a.nodes p.caller place start (seen_of p') result

  -- the result of a non-blocking search for room between p and p'; what put it off, since whatever moment
  abbrev pub TriesRoom : Arena N D P n q d → ℕ → Pass N D → Pass N D → Result (Result (Hand N) (Hand N)) Later → Type 0
  TriesRoom a place p p' result = RoomOrNone (sort_of n.layout n.ranged) n.body a.nodes p.caller place (seen_of p) (seen_of p') result

  abbrev pub TriesRoomSince : Arena N D P n q d → ℕ → Pass N D → Pass N D → Result (Result (Hand N) (Hand N)) Later → Type 0
  TriesRoomSince a place p p' result = (start : List Event) → TookSince p.caller start (seen_of p) 0 1 → RoomOrCause a.nodes p.caller place start (seen_of p') result

  -- a put or an add that is under way at p, by coupling or by giving up, and took the root once at most, is done at p', or put off
  abbrev pub FinishesTry : Arena N D P n q d → Op → Pass N D → Pass N D → Result Numbered PutLater → Type 0
  FinishesTry a op p p' answer = (template : Template) (start : List Event) → FindsFar template → TookSince p.caller start (seen_of p) 0 1 → Underway template p.caller op start (seen_of p) →
      TriedPut n.layout template a.nodes p.caller op start (seen_of p') answer
