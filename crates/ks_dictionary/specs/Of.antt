-- What calls require of a pass of a dictionary, and ensure of it before and after. The dictionary's type knows the type of
-- its nodes and what its technique keeps, so these words serve in any clause that sees a dictionary, that of a closure too.
use Rattle.std.specs.Prelude.{ℕ, List, Result}
use Rattle.ks_node.specs.declared.node.Node.{Ghosts as NodeGhosts}
use Rattle.ks_places.specs.declared.Placing.{Ghosts as PlacingGhosts}
use Rattle.ks_flow.specs.declared.discipline.Discipline.{Ghosts as DisciplineGhosts}
use Rattle.ks_history.specs.Done.{Template}
use Rattle.ks_history.specs.declared.Op.{Op}
use Rattle.ks_history.specs.declared.Reply.{Reply}
use Rattle.ks_arena.specs.declared.arena.Arena.{Arena}
use Rattle.ks_arena.specs.declared.held.Note.{Note}
use Rattle.ks_arena.specs.declared.held.Pass.{Pass}
use Rattle.ks_arena.specs.Sound.{sort_of}
use Rattle.ks_shape.specs.Idle.{IsDone, IsIdle, Site}
use Rattle.ks_shape.specs.Tries.{HasTried, HasTriedPut}
use Rattle.ks_shape.specs.declared.answers.Later.{Later}
use Rattle.ks_shape.specs.declared.answers.Numbered.{Numbered}
use Rattle.ks_shape.specs.declared.answers.PutLater.{PutLater}
use Rattle.ks_dictionary.specs.Crew.{AreAll, AreInOrder, AreNew, IsNoteOf}
use Rattle.ks_dictionary.specs.declared.dictionary.Dictionary.{Dictionary}

module _ {N T P D : Type 0} {n : NodeGhosts N P} {q : PlacingGhosts P} {d : DisciplineGhosts D} where
  -- the arena of the dictionary, as contracts see it
  abbrev pub site_of : Dictionary N T P D n q d → Site
  site_of m = record {
    sort = sort_of n.layout n.ranged;
    begins = d.begins;
    step = d.step;
    table = m.arena.table.shared.table_id;
    callers = m.arena.callers;
    nodes = m.arena.nodes;
  }

  -- the arena itself, on which a call by the technique may be made
  abbrev pub arena_of : Dictionary N T P D n q d → Arena N D P n q d
  arena_of m = m.arena

  -- how many nodes the dictionary has, and how many callers
  abbrev pub nodes_of : Dictionary N T P D n q d → ℕ
  nodes_of m = m.arena.nodes

  abbrev pub callers_of : Dictionary N T P D n q d → ℕ
  callers_of m = m.arena.callers

  -- the place that the dictionary's nodes have for a key
  abbrev pub place_in : Dictionary N T P D n q d → ℕ → ℕ
  place_in m key = q.place_of key

  -- a pass of the dictionary, as it is between two calls: it holds no node
  abbrev pub IsIdlePassOf : Dictionary N T P D n q d → Pass N D → Type 0
  IsIdlePassOf m p = IsIdle (site_of m) p

  -- the passes that a start returns
  abbrev pub AreNewPassesOf : Dictionary N T P D n q d → List (Pass N D) → Type 0
  AreNewPassesOf m ps = AreNew (site_of m) ps

  -- the passes of all callers in their order, and in any order, none of which holds a node
  abbrev pub AreOrderedPassesOf : Dictionary N T P D n q d → List (Pass N D) → Type 0
  AreOrderedPassesOf m ps = AreInOrder (site_of m) ps

  abbrev pub AreAllPassesOf : Dictionary N T P D n q d → List (Pass N D) → Type 0
  AreAllPassesOf m ps = AreAll (site_of m) ps

  -- a note of a pass of the dictionary
  abbrev pub IsNoteFrom : Dictionary N T P D n q d → Note N D → Type 0
  IsNoteFrom m x = IsNoteOf (site_of m) x

  -- between two passes the caller made one call of this operation, by the technique, with this reply and number, and
  -- released all nodes
  abbrev pub HasCalledIn : Dictionary N T P D n q d → Template → Op → Pass N D → Pass N D → Reply → ℕ → Type 0
  HasCalledIn m technique op p p' reply number = IsDone n.layout technique (site_of m) op p p' reply number

  -- it made the call, or was put off, and the cause that it reports is due
  abbrev pub HasTriedIn : Dictionary N T P D n q d → Template → Op → Pass N D → Pass N D → Result Numbered Later → Type 0
  HasTriedIn m technique op p p' answer = HasTried n.layout technique (site_of m) op p p' answer

  -- so it is of a put or an add, which may also be full
  abbrev pub HasTriedPutIn : Dictionary N T P D n q d → Template → Op → Pass N D → Pass N D → Result Numbered PutLater → Type 0
  HasTriedPutIn m technique op p p' answer = HasTriedPut n.layout technique (site_of m) op p p' answer
