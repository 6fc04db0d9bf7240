-- Words that name a pairing.
use Rattle.std.specs.Prelude.{ℕ, ◌≡◌, ◌≤◌, List}
use Rattle.std.specs.Fmt.{decimal}
use Rattle.ks_words.specs.declared.pairing.Pairing.{Pairing}
use Rattle.ks_words.specs.Pairings.{structure_row, technique_row}

-- these words are those of the pairing
pub record Names (nodes template : List ℕ) (pairing : Pairing) : Type 0 where
  pub nodes_are : nodes ≡ (structure_row pairing.structure).word
  pub template_is : template ≡ (technique_row pairing.technique).word

-- these words are those of the pairing and of a number of nodes within its limits
pub record NamesArena (nodes template arena : List ℕ) (pairing : Pairing) (count : ℕ) : Type 0 where
  pub pairing_is : Names nodes template pairing
  pub arena_is : arena ≡ decimal count
  pub least : 4 ≤ count
  pub most : count ≤ 1048576
