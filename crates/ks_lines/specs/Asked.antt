-- Which lines a script may have, and which scripts a pairing serves: what calls that serve scripts require.
use Rattle.std.specs.Prelude.{ℕ, ◌≢◌, ◌≤◌, List, Bool, All}
use Rattle.ks_history.specs.declared.Op.{Op}
use Rattle.ks_history.specs.declared.Op.TheVariants.{Get, Put, Del, Add, Swap, Move, Part as lists}
use Rattle.ks_lines.specs.declared.Line.{Line}
use Rattle.ks_lines.specs.declared.Line.TheVariants.{Call, Scan}
use Rattle.ks_lines.specs.Lines.{IsServedLine}

-- a line may ask for the operation: it is no part of a scan, and a move is to another key
abbrev pub IsOwnLine : Op → Type 0
IsOwnLine (Get k) = Unit {0}
IsOwnLine (Put k v) = Unit {0}
IsOwnLine (Del k) = Unit {0}
IsOwnLine (Add k v) = Unit {0}
IsOwnLine (Swap k old new) = Unit {0}
IsOwnLine (lists low last) = ⊥
IsOwnLine (Move from to) = from ≢ to

-- the line may be in a script: a scan goes up, and has a part
abbrev pub IsLine : Line → Type 0
IsLine (Call op) = IsOwnLine op
IsLine (Scan low last most) = (low ≤ last) × (1 ≤ most)

-- each line of each script may be there, and such a pairing serves it
abbrev pub AreServedLines : Bool → Bool → List (List Line) → Type 0
AreServedLines scans moves script = All (λ ls. All (λ l. IsLine l × IsServedLine scans moves l) ls) script
