-- Puts and adds as one operation, and their results at the end of a search for room.
use Rattle.std.specs.Prelude.{ℕ, List, Result, Ok, Err, IfOk}
use Rattle.ks_node.specs.declared.node.Node.{Ghosts as NodeGhosts}
use Rattle.ks_node.below.ks_places.specs.declared.Placing.{Ghosts as PlacingGhosts}
use Rattle.ks_flow.specs.declared.discipline.Discipline.{Ghosts as DisciplineGhosts}
use Rattle.ks_keysets.specs.Layout.{Layout}
use Rattle.ks_history.specs.declared.Event.{Event}
use Rattle.ks_history.specs.declared.Op.{Op}
use Rattle.ks_history.specs.declared.Op.TheVariants as ops
use Rattle.ks_history.specs.Done.{Template, Done}
use Rattle.ks_history.specs.Due.{NoneFree}
use Rattle.ks_history.specs.Map.{told}
use Rattle.ks_history.specs.Passes.{NoCallBy}
use Rattle.ks_history.specs.Trace.{◌⊑◌}
use Rattle.ks_history.specs.Underway.{Underway}
use Rattle.ks_node.specs.Body.{Body}
use Rattle.ks_arena.specs.declared.arena.Arena.{Arena}
use Rattle.ks_arena.specs.declared.held.Pass.{Pass}
use Rattle.ks_arena.specs.declared.held.Held.{Held as Hand}
use Rattle.ks_arena.specs.Sound.{Sort, sort_of}
use Rattle.ks_arena.specs.Clauses.{seen_of}
use Rattle.ks_shape.specs.declared.answers.Full.{Full}
use Rattle.ks_shape.specs.declared.answers.Numbered.{Numbered}
use Rattle.ks_shape.specs.declared.answers.PutLater.{PutLater}
use Rattle.ks_shape.specs.declared.answers.PutLater.TheVariants as later
use Rattle.ks_shape.specs.declared.fills.Fill.{Fill}
use Rattle.ks_shape.specs.declared.fills.Fill.TheVariants.{Put, Add}
use Rattle.ks_shape.specs.Answers.{number_in, reply_in}
use Rattle.ks_shape.specs.Of.{FinishesAt}
use Rattle.ks_shape.specs.SearchEnd.{HasRoom, IsCrowded}

-- the operation that sets this at the place
abbrev pub filling : ℕ → Fill → Op
filling place (Put value) = ops.Put place value
filling place (Add value) = ops.Add place value

-- the result of a put or an add that was not put off, in the type of one that might have been
abbrev pub not_later : Result Numbered Full → Result Numbered PutLater
not_later (Ok answer) = Ok answer
not_later (Err full) = Err (later.Full full.number)

module _ {N : Type 0} where
  module _ (sort : Sort) (shows : N → Body) where
    -- a search for room has ended at a node that has the place, or room for it; or at a full one without it, and no node was
    -- free for the place since h
    abbrev pub FoundRoom : ℕ → ℕ → ℕ → List Event → List Event → Result (Hand N) (Hand N) → Type 0
    FoundRoom n c place h k (Ok x) = HasRoom sort shows c place k x
    FoundRoom n c place h k (Err x) = IsCrowded sort shows c place k x × NoneFree sort.layout n c place h k

    -- the same since some moment, and the caller made no call from it on
    abbrev pub EndsForRoom : ℕ → ℕ → ℕ → List Event → Result (Hand N) (Hand N) → Type 0
    EndsForRoom n c place k found = (h : List Event) × (since : h ⊑ k) × NoCallBy c since.rest × FoundRoom n c place h k found

  -- the node at which it ended, with room or full
  abbrev pub ended_at : Result (Hand N) (Hand N) → Hand N
  ended_at (Ok x) = x
  ended_at (Err x) = x

  -- if it ended at a full node, no node was free for the place since h
  abbrev pub FullIsDue : Layout → ℕ → ℕ → ℕ → List Event → List Event → Result (Hand N) (Hand N) → Type 0
  FullIsDue layout n c place h k (Ok x) = Unit {0}
  FullIsDue layout n c place h k (Err x) = NoneFree layout n c place h k

module _ {N D P : Type 0} {n : NodeGhosts N P} {q : PlacingGhosts P} {d : DisciplineGhosts D} where
  -- the search of the pass for room has ended
  abbrev pub EndsForRoomOf : Arena N D P n q d → ℕ → Pass N D → Result (Hand N) (Hand N) → Type 0
  EndsForRoomOf a place p found = EndsForRoom (sort_of n.layout n.ranged) n.body a.nodes p.caller place (seen_of p) found

  -- a put or an add that is under way at p, of any technique and begun at any moment, is done at p', if a Full is due
  abbrev pub FinishesFill : Arena N D P n q d → Op → ℕ → Result (Hand N) (Hand N) → Pass N D → Pass N D → Result Numbered Full → Type 0
  FinishesFill a op place found p p' answer = (template : Template) (start : List Event) → Underway template p.caller op start (seen_of p) → FullIsDue n.layout a.nodes p.caller place start (seen_of p) found → Done n.layout template a.nodes p.caller op start (seen_of p') (reply_in answer) (number_in answer)

  -- the same, and unless it is full, it was decided at the node where the search ended
  abbrev pub FinishesFillAt : Arena N D P n q d → Op → Result (Hand N) (Hand N) → Pass N D → Pass N D → Result Numbered Full → Type 0
  FinishesFillAt a op found p p' answer = IfOk answer (λ numbered. FinishesAt a (ended_at found) op p p' (told numbered.found) numbered.number)
