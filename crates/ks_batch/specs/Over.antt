-- The nodes over which a run was served.
use Rattle.std.specs.Prelude.{ℕ, List, Option, IfSome}
use Rattle.ks_history.specs.declared.Event.{Event}
use Rattle.ks_history.specs.Due.{FullsDue}
use Rattle.ks_arena.specs.Named.{AllNamedBelow}
use Rattle.ks_words.specs.declared.pairing.Pairing.{Pairing}
use Rattle.ks_words.specs.Pairings.{structure_row}
use Rattle.ks_words.specs.Words.{AskToServe}

-- each Full of the run was due over as many nodes as the words ask for
abbrev pub DueOver : List (List ℕ) → Option (List Event) → Type 0
DueOver words run = (pairing : Pairing) (nodes : ℕ) → AskToServe words pairing nodes → IfSome run (FullsDue (structure_row pairing.structure).layout nodes)

-- the run names only nodes below the number that the words ask for
abbrev pub NamedOver : List (List ℕ) → Option (List Event) → Type 0
NamedOver words run = (pairing : Pairing) (nodes : ℕ) → AskToServe words pairing nodes → IfSome run (AllNamedBelow nodes)
