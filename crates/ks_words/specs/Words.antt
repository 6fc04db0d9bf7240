-- The words of the program.
use Rattle.std.specs.Prelude.{ℕ, ◌≡◌, ◌≤◌, ◌⊎◌, IsTrue, List, [], ◌∷◌, ◌++◌, map, codes, String, string_bytes}
use Rattle.std.specs.Fmt.{decimal}
use Rattle.ks_lines.specs.declared.setting.Aiding.{Aiding}
use Rattle.ks_lines.specs.declared.setting.Aiding.TheVariants.{Guides, Hints}
use Rattle.ks_lines.specs.declared.setting.Setting.{Setting}
use Rattle.ks_words.specs.declared.pairing.Pairing.{Pairing}
use Rattle.ks_words.specs.declared.words.Draft.{Draft}
use Rattle.ks_words.specs.declared.words.Asked.{Asked}
use Rattle.ks_words.specs.declared.words.Asked.TheVariants.{Run, Make, Check}
use Rattle.ks_words.specs.declared.words.Text.{Text}
use Rattle.ks_words.specs.declared.words.Text.TheVariants.{Script, Checked}
use Rattle.ks_words.specs.Pairings.{structure_row, technique_row}

-- the bytes of each word
abbrev pub bytes_of : {Z : Type 0} → List (String Z) → List (List ℕ)
bytes_of words = map string_bytes words

-- the words of a pairing and of a number of nodes
abbrev pub arena_words : Pairing → ℕ → List (List ℕ)
arena_words pairing nodes = (structure_row pairing.structure).word ∷ (technique_row pairing.technique).word ∷ decimal nodes ∷ []

-- the words are those that ask to serve a script; the last one is the number of workers, and only if they are 64 and there are
-- no hints it may be missing
abbrev pub AreRunWords : List (List ℕ) → Pairing → ℕ → ℕ → Aiding → Type 0
AreRunWords words pairing nodes workers Guides =
    (words ≡ codes "run" ∷ arena_words pairing nodes ++ decimal workers ∷ []) ⊎ ((words ≡ codes "run" ∷ arena_words pairing nodes) × (workers ≡ 64))
AreRunWords words pairing nodes workers Hints = words ≡ codes "hinted" ∷ arena_words pairing nodes ++ decimal workers ∷ []

-- the words are those that ask to make a script and to serve it, without hints and with 64 workers
pub record AreMakeWords (words : List (List ℕ)) (pairing : Pairing) (setting : Setting) (draft : Draft) : Type 0 where
  pub words_are : words ≡ codes "make" ∷ arena_words pairing setting.nodes ++ decimal draft.callers ∷ decimal draft.calls ∷ decimal draft.first ∷ []
  pub workers_are : setting.workers ≡ 64
  pub aiding_is : setting.aiding ≡ Guides

-- the words are those of the command
abbrev pub AreWords : List (List ℕ) → Asked → Type 0
AreWords words (Run pairing setting) = AreRunWords words pairing setting.nodes setting.workers setting.aiding
AreWords words (Make pairing setting draft) = AreMakeWords words pairing setting draft
AreWords words Check = words ≡ codes "check" ∷ []

-- the calls of the pairing can be aided so
abbrev pub CanAid : Pairing → Aiding → Type 0
CanAid pairing Guides = Unit {0}
CanAid pairing Hints = IsTrue (technique_row pairing.technique).hints

-- only calls that can begin at hints are to begin there, and the numbers of a draft are within their limits; those of a setting
-- are, by its type
abbrev pub InLimits : Asked → Type 0
InLimits (Run pairing setting) = CanAid pairing setting.aiding
InLimits (Make pairing setting draft) = (1 ≤ draft.callers) × (draft.callers ≤ 64) × (draft.calls ≤ 16384) × (draft.first ≤ 18446744073709551615)
InLimits Check = Unit {0}

-- the words are those of the command, within its limits
pub record Spells (words : List (List ℕ)) (asked : Asked) : Type 0 where
  pub is : AreWords words asked
  pub limits : InLimits asked

-- the words ask to serve a script by the pairing, over an arena of this number of nodes, with any number of workers, with
-- hints or without
abbrev pub AsksToRun : List (List ℕ) → Pairing → ℕ → Type 0
AsksToRun words pairing arena = (setting : Setting) × (setting.nodes ≡ arena) × Spells words (Run pairing setting)

-- the words ask to make a script by this draft, and to serve it so
abbrev pub AsksToMake : List (List ℕ) → Pairing → ℕ → Draft → Type 0
AsksToMake words pairing arena draft = (setting : Setting) × (setting.nodes ≡ arena) × Spells words (Make pairing setting draft)

-- the words are a command
abbrev pub IsCommand : List (List ℕ) → Type 0
IsCommand words = (asked : Asked) × Spells words asked

-- the words ask that a text of this kind be read
abbrev pub Asks : List (List ℕ) → Text → Type 0
Asks words Script = (pairing : Pairing) × (arena : ℕ) × AsksToRun words pairing arena
Asks words Checked = Spells words Check

-- the words are a command to make a script and serve it
abbrev pub IsMake : List (List ℕ) → Type 0
IsMake words = (pairing : Pairing) × (arena : ℕ) × (draft : Draft) × AsksToMake words pairing arena draft

-- the words are a command to serve callers by the pairing, over an arena of this number of nodes
abbrev pub AskToServe : List (List ℕ) → Pairing → ℕ → Type 0
AskToServe words pairing arena = AsksToRun words pairing arena ⊎ ((draft : Draft) × AsksToMake words pairing arena draft)
