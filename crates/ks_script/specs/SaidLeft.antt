-- What may be said of a line of a script, and lines that go on with nothing of it.
use Rattle.std.specs.Prelude.{ℕ, suc, ◌^◌, ◌<◌, ◌≤◌, List, [], ◌∷◌}
use Rattle.ks_history.specs.declared.Op.{Op}
use Rattle.ks_history.specs.declared.Reply.{Reply}
use Rattle.ks_lines.specs.declared.parts.Part.{Part}
use Rattle.ks_lines.specs.declared.Line.{Line}
use Rattle.ks_lines.specs.declared.Line.TheVariants.{Call, Scan}
use Rattle.ks_lines.specs.declared.Said.{Said}
use Rattle.ks_lines.specs.Lines.{IsReplyTo, MayAnswer}
use Rattle.ks_script.specs.Run.{said_lines}
use Rattle.ks_script.specs.Checked.{IsAnswered, IsPart, IsSaid}
use Rattle.ks_script.specs.Reads.{Lines, BeginsWith}

-- something may be said of the line: a scan goes up to a key of 64 bits, and has a part
abbrev pub CanBeSaidOf : Line → Type 0
CanBeSaidOf (Call op) = Unit {0}
CanBeSaidOf (Scan low last most) = (low ≤ last) × (last < 2 ^ 64) × (1 ≤ most)

-- this may be printed of the line
abbrev pub IsSaidOf : Line → Said → Type 0
IsSaidOf line said = MayAnswer line said × IsSaid said

-- the number and the reply may be those of the operation
abbrev pub IsReplyOf : Op → ℕ × Reply → Type 0
IsReplyOf op x = IsAnswered x × IsReplyTo op x.1

-- the least key at which the part behind these may end, where n is the first
abbrev pub next_end : ℕ → List Part → ℕ
next_end n [] = n
next_end n (part ∷ parts) = next_end (suc part.last) parts

-- the part ends from one key to the other
abbrev pub IsPartFrom : ℕ → ℕ → Part → Type 0
IsPartFrom next last part = (next ≤ part.last) × (part.last ≤ last) × IsPart part

-- the lines begin with what may be said of the line
abbrev pub BeginsSaid : Line → Lines → Type 0
BeginsSaid line = BeginsWith (IsSaidOf line) said_lines
