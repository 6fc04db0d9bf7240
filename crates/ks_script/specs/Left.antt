-- What of a script may follow the lines that were read.
use Rattle.std.specs.Prelude.{ℕ, ◌≡◌, ◌-◌, ◌^◌, ◌<◌, ◌≤◌, List, length, codes}
use Rattle.ks_history.specs.declared.Op.TheVariants.{Get, Put, Del, Add, Swap, Part, Move}
use Rattle.ks_lines.specs.declared.Line.{Line}
use Rattle.ks_lines.specs.declared.Line.TheVariants.{Call, Scan}
use Rattle.ks_script.specs.declared.version.Version.{Version}
use Rattle.ks_script.specs.declared.version.Version.TheVariants.{First, Second, Third, Fourth}
use Rattle.ks_script.specs.Version.{callers_limit}
use Rattle.ks_script.specs.Script.{IsLineOf, line_text, calls_in, parts_of, parts_in}
use Rattle.ks_script.specs.Reads.{Lines, NotFirst, NoneFirst}

-- the first of the lines says no version
abbrev pub NoVersion : Lines → Type 0
NoVersion lines = NotFirst (codes "script 2") lines × NotFirst (codes "script 3") lines × NotFirst (codes "script 4") lines

-- the lines are those after the one that says the version; of the first version, which has none, they begin with none
abbrev pub HasBegun : Version → Lines → Type 0
HasBegun First lines = NoVersion lines
HasBegun Second lines = Unit {0}
HasBegun Third lines = Unit {0}
HasBegun Fourth lines = Unit {0}

-- a line is read with numbers of these bits; a part of a scan has no line
abbrev pub HasLine : Line → Type 0
HasLine (Call (Get k)) = k < 2 ^ 64
HasLine (Call (Put k v)) = (k < 2 ^ 64) × (v < 2 ^ 128)
HasLine (Call (Del k)) = k < 2 ^ 64
HasLine (Call (Add k v)) = (k < 2 ^ 64) × (v < 2 ^ 128)
HasLine (Call (Swap k old new)) = (k < 2 ^ 64) × (old < 2 ^ 128) × (new < 2 ^ 128)
HasLine (Call (Part low last)) = ⊥
HasLine (Call (Move from to)) = (from < 2 ^ 64) × (to < 2 ^ 64)
HasLine (Scan low last most) = (low < 2 ^ 64) × (last < 2 ^ 64) × (most < 2 ^ 32)

-- the line may be in a script of the version, and asks for no more parts than these
abbrev pub IsLineWithin : Version → ℕ → Line → Type 0
IsLineWithin version parts line = IsLineOf version line × (parts_of line ≤ parts)

-- the lines go on with nothing that a script with these callers may have
pub record Stops (version : Version) (all : List (List Line)) (ls : Lines) : Type 0 where
  pub begun : length all ≡ 0 → HasBegun version ls
  pub caller : length all < callers_limit version → NotFirst (codes "caller") ls
  pub line : 0 < length all → calls_in all < 1048576 → NoneFirst (IsLineWithin version (65536 - parts_in all)) line_text ls
