-- The text of a printed run.
use Rattle.std.specs.Prelude.{ℕ, ◌+◌, List, [], ◌∷◌, ◌++◌, map, codes}
use Rattle.std.specs.Fmt.{decimal}
use Rattle.std.specs.List.{flat_map}
use Rattle.ks_keysets.specs.declared.Pair.{Pair}
use Rattle.ks_history.specs.declared.Reply.{Reply}
use Rattle.ks_history.specs.declared.Reply.TheVariants.{Nothing, Value, Full, Listed, Kept}
use Rattle.ks_lines.specs.declared.parts.Part.{Part}
use Rattle.ks_lines.specs.declared.Said.{Said}
use Rattle.ks_lines.specs.declared.Said.TheVariants.{Call, Scan}
use Rattle.ks_lines.specs.declared.Scanned.{Scanned}
use Rattle.ks_lines.specs.declared.Scanned.TheVariants.{Whole, Until}
use Rattle.ks_script.specs.Lines.{text_of}

-- a printed run: for each caller what is said of each of its lines, and the keys and values of the map
pub record Run : Type 0 where
  pub callers : List (List Said)
  pub pairs : List (ℕ × ℕ)

-- the word of a reply, if it is plain
abbrev pub reply_word : Reply → List ℕ
reply_word Nothing = codes "none"
reply_word (Value v) = decimal v
reply_word Full = codes "full"
reply_word (Listed pairs) = []
reply_word Kept = codes "kept"

-- the line of a call: its number and its reply
abbrev pub reply_line : ℕ × Reply → List ℕ
reply_line x = decimal x.0 ++ codes " " ++ reply_word x.1

-- the line of a pair: its key and its value
abbrev pub pair_line : ℕ × ℕ → List ℕ
pair_line x = decimal x.0 ++ codes " " ++ decimal x.1

-- the pairs of a part, each behind a space
abbrev pub pair_words : List Pair → List ℕ
pair_words [] = []
pair_words (pair ∷ pairs) = codes " " ++ (pair_line (pair.place, pair.value) ++ pair_words pairs)

-- the line of a part: its number, its last key, and its pairs
abbrev pub part_line : Part → List ℕ
part_line part = pair_line (part.number, part.last) ++ pair_words part.pairs

-- the line that says where a scan stopped
abbrev pub stop_line : Scanned → List ℕ
stop_line Whole = codes "whole"
stop_line (Until next) = codes "until " ++ decimal next

-- the lines of what is said: that of a call; those of the parts of a scan, and where it stopped
abbrev pub said_lines : Said → List (List ℕ)
said_lines (Call n reply) = reply_line (n, reply) ∷ []
said_lines (Scan parts stop) = map part_line parts ++ stop_line stop ∷ []

-- the lines of callers that are numbered from n: each `caller` with its number, and then what is said to it
abbrev pub callers_from : ℕ → List (List Said) → List (List ℕ)
callers_from n [] = []
callers_from n (c ∷ cs) = (codes "caller " ++ decimal n) ∷ flat_map said_lines c ++ callers_from (n + 1) cs

-- the lines of the map: `map`, its pairs, and `end`
abbrev pub map_lines : List (ℕ × ℕ) → List (List ℕ)
map_lines pairs = codes "map" ∷ map pair_line pairs ++ codes "end" ∷ []

-- the lines of a printed run
abbrev pub run_lines : Run → List (List ℕ)
run_lines run = callers_from 0 run.callers ++ map_lines run.pairs

-- the text of a printed run
abbrev pub run_text : Run → List ℕ
run_text run = text_of (run_lines run)
