-- Scripts whose keys can have places, and placings that keep the spans of scans.
use Rattle.std.specs.Prelude.{ℕ, ◌≡◌, List}
use Rattle.std.specs.List.{AllByRecursion}
use Rattle.ks_keysets.specs.Record.{IsPlace}
use Rattle.ks_history.specs.Map.{Touches}
use Rattle.ks_lines.specs.declared.Line.{Line}
use Rattle.ks_lines.specs.declared.Line.TheVariants.{Call, Scan}
use Rattle.ks_lines.specs.Asked.{IsOwnLine}

-- each key of the line can have a place, and a call may be asked for by itself
abbrev pub HasKeys : Line → Type 0
HasKeys (Call op) = IsOwnLine op × ((k : ℕ) → Touches op k → IsPlace k)
HasKeys (Scan low last most) = IsPlace last

-- and so it is with all lines of the script
abbrev pub AreKeys : List (List Line) → Type 0
AreKeys script = AllByRecursion (AllByRecursion HasKeys) script

-- if the line is a scan, each key is its own place: else a span of keys is no span of places
abbrev pub KeepsSpan : (ℕ → ℕ) → Line → Type 0
KeepsSpan place (Call op) = Unit {0}
KeepsSpan place (Scan low last most) = (k : ℕ) → IsPlace k → place k ≡ k

-- and so it is with all lines of the script
abbrev pub KeepsSpans : (ℕ → ℕ) → List (List Line) → Type 0
KeepsSpans place script = AllByRecursion (AllByRecursion (KeepsSpan place)) script
