-- The grammar of scripts.
use Rattle.std.specs.Prelude.{ℕ, ◌≡◌, ◌≢◌, ◌+◌, ◌^◌, ◌<◌, ◌≤◌, List, [], ◌∷◌, ◌++◌, length, map, codes}
use Rattle.std.specs.List.{flat_map, sum_by, AllByRecursion}
use Rattle.std.specs.Fmt.{decimal}
use Rattle.ks_history.specs.declared.Op.TheVariants.{Get, Put, Del, Add, Swap, Part, Move}
use Rattle.ks_lines.specs.declared.Line.{Line}
use Rattle.ks_lines.specs.declared.Line.TheVariants.{Call, Scan}
use Rattle.ks_script.specs.declared.version.Version.{Version}
use Rattle.ks_script.specs.Lines.{lines_of}
use Rattle.ks_script.specs.Version.{version_line, callers_limit, value_limit, AddsAndSwaps, Scans, Moves}

-- the text of a line: its words, with one space between them; a part of a scan has no line
abbrev pub line_text : Line → List ℕ
line_text (Call (Get k)) = codes "get " ++ decimal k
line_text (Call (Put k v)) = codes "put " ++ decimal k ++ codes " " ++ decimal v
line_text (Call (Del k)) = codes "del " ++ decimal k
line_text (Call (Add k v)) = codes "add " ++ decimal k ++ codes " " ++ decimal v
line_text (Call (Swap k old new)) = codes "swap " ++ decimal k ++ codes " " ++ decimal old ++ codes " " ++ decimal new
line_text (Call (Part low last)) = []
line_text (Call (Move from to)) = codes "move " ++ decimal from ++ codes " " ++ decimal to
line_text (Scan low last most) = codes "scan " ++ decimal low ++ codes " " ++ decimal last ++ codes " " ++ decimal most

-- the line may be in a script of the version: its keys have 64 bits, its values are those that the version has, and the
-- version has lines of its kind; a move is to another key, and a scan goes up, in 1 to 64 parts
abbrev pub IsLineOf : Version → Line → Type 0
IsLineOf version (Call (Get k)) = k < 2 ^ 64
IsLineOf version (Call (Put k v)) = (k < 2 ^ 64) × (v < value_limit version)
IsLineOf version (Call (Del k)) = k < 2 ^ 64
IsLineOf version (Call (Add k v)) = AddsAndSwaps version × (k < 2 ^ 64) × (v < value_limit version)
IsLineOf version (Call (Swap k old new)) = AddsAndSwaps version × (k < 2 ^ 64) × (old < value_limit version) × (new < value_limit version)
IsLineOf version (Call (Part low last)) = ⊥
IsLineOf version (Call (Move from to)) = Moves version × (from < 2 ^ 64) × (to < 2 ^ 64) × (from ≢ to)
IsLineOf version (Scan low last most) = Scans version × (low ≤ last) × (last < 2 ^ 64) × (1 ≤ most) × (most ≤ 64)

-- the lines of a caller: `caller`, and its own
abbrev pub caller_lines : List Line → List (List ℕ)
caller_lines ls = codes "caller" ∷ map line_text ls

-- the lines of a script, which is a list of lines for each caller
abbrev pub script_lines : List (List Line) → List (List ℕ)
script_lines script = flat_map caller_lines script

-- how many calls the callers have together; a scan counts as one
abbrev pub calls_in : {X : Type 0} → List (List X) → ℕ
calls_in [] = 0
calls_in (calls ∷ script) = length calls + calls_in script

-- how many parts the answer to a line may have: that to a call none
abbrev pub parts_of : Line → ℕ
parts_of (Call op) = 0
parts_of (Scan low last most) = most

-- and all lines of the callers together
abbrev pub parts_in : List (List Line) → ℕ
parts_in [] = 0
parts_in (ls ∷ script) = sum_by parts_of ls + parts_in script

-- a script has as many callers as its version admits, 1048576 calls, and 65536 parts, at most; all of these may be in one
pub record IsScript (version : Version) (script : List (List Line)) : Type 0 where
  pub callers : length script ≤ callers_limit version
  pub calls : calls_in script ≤ 1048576
  pub parts : parts_in script ≤ 65536
  pub each : AllByRecursion (AllByRecursion (IsLineOf version)) script

-- the lines are those of the script: the one that says its version, and those of its callers
pub record SpellsScript (version : Version) (script : List (List Line)) (lines : List (List ℕ)) : Type 0 where
  pub is : IsScript version script
  pub lines_are : lines ≡ version_line version ++ script_lines script

-- the lines are those of some script of some version
abbrev pub AreScript : List (List ℕ) → Type 0
AreScript lines = (version : Version) × (script : List (List Line)) × SpellsScript version script lines

-- the bytes are the text of the script
abbrev pub ScriptOf : List ℕ → List (List Line) → Type 0
ScriptOf bytes script = (version : Version) × SpellsScript version script (lines_of bytes)
