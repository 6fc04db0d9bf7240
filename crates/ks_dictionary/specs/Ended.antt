-- A dictionary that has ended.
use Rattle.std.specs.Prelude.{ℕ, List}
use Rattle.ks_history.specs.declared.Event.{Event}
use Rattle.ks_node.specs.Body.{Body}
use Rattle.ks_arena.specs.Sound.{Sort}
use Rattle.ks_arena.specs.Clauses.{IsRun, trace_of}
use Rattle.ks_dictionary.specs.declared.closed.Closed.{Closed}

-- its trace, the newest event first
abbrev pub history : {N : Type 0} → Closed N → List Event
history d = trace_of d.run

module _ {N : Type 0} (sort : Sort) (shows : N → Body) where
  -- it had this many nodes, its history is lawful, with a good graph throughout, each Full was due, and its nodes are those
  -- of the graph after the history
  abbrev pub HasEndedWith : ℕ → Closed N → Type 0
  HasEndedWith nodes d = IsRun sort shows nodes d.run

  abbrev pub HasEnded : Closed N → Type 0
  HasEnded d = (nodes : ℕ) × HasEndedWith nodes d
