-- The grammar of what is checked: a script and a printed run of it.
use Rattle.std.specs.Prelude.{ℕ, ◌≡◌, ◌+◌, ◌^◌, ◌<◌, ◌≤◌, List, [], ◌∷◌, ◌++◌, length, codes}
use Rattle.std.specs.List.{AllByRecursion}
use Rattle.ks_keysets.specs.declared.Pair.{Pair}
use Rattle.ks_history.specs.declared.Reply.{Reply}
use Rattle.ks_history.specs.declared.Reply.TheVariants.{Nothing, Value, Full, Listed, Kept}
use Rattle.ks_lines.specs.declared.parts.Part.{Part}
use Rattle.ks_lines.specs.declared.Line.{Line}
use Rattle.ks_lines.specs.declared.Said.{Said}
use Rattle.ks_lines.specs.declared.Said.TheVariants.{Call, Scan}
use Rattle.ks_lines.specs.declared.Scanned.{Scanned}
use Rattle.ks_lines.specs.declared.Scanned.TheVariants.{Whole, Until}
use Rattle.ks_lines.specs.Lines.{AreAnswered}
use Rattle.ks_script.specs.declared.version.Version.{Version}
use Rattle.ks_script.specs.Lines.{lines_of}
use Rattle.ks_script.specs.Version.{version_line}
use Rattle.ks_script.specs.Script.{IsScript, script_lines}
use Rattle.ks_script.specs.Run.{Run, run_lines}

-- the reply is plain, and its value, if it has one, has 128 bits
abbrev pub IsReply : Reply → Type 0
IsReply Nothing = Unit {0}
IsReply (Value v) = v < 2 ^ 128
IsReply Full = Unit {0}
IsReply (Listed pairs) = ⊥
IsReply Kept = Unit {0}

-- the number of a call has 64 bits, and a value that it returns has 128
abbrev pub IsAnswered : ℕ × Reply → Type 0
IsAnswered x = (x.0 < 2 ^ 64) × IsReply x.1

-- a key has 64 bits, and a value 128
abbrev pub IsPair : Pair → Type 0
IsPair pair = (pair.place < 2 ^ 64) × (pair.value < 2 ^ 128)

-- the number of a part and its last key have 64 bits, and it has 16 pairs at most
abbrev pub IsPart : Part → Type 0
IsPart part = (part.number < 2 ^ 64) × (part.last < 2 ^ 64) × (length part.pairs ≤ 16) × AllByRecursion IsPair part.pairs

-- the key at which a scan goes on has 64 bits
abbrev pub IsStop : Scanned → Type 0
IsStop Whole = Unit {0}
IsStop (Until next) = next < 2 ^ 64

-- what is said of a line keeps to these limits
abbrev pub IsSaid : Said → Type 0
IsSaid (Call n reply) = IsAnswered (n, reply)
IsSaid (Scan parts stop) = AllByRecursion IsPart parts × IsStop stop

-- the keys are n at least, each is greater than the one before; keys have 64 bits, and values 128
abbrev pub AscendFrom : ℕ → List (ℕ × ℕ) → Type 0
AscendFrom n [] = Unit {0}
AscendFrom n (x ∷ xs) = (n ≤ x.0) × (x.0 < 2 ^ 64) × (x.1 < 2 ^ 128) × AscendFrom (x.0 + 1) xs

-- the run may be the printed run of the script: it says of each line what may be said of it
pub record IsRunOf (script : List (List Line)) (run : Run) : Type 0 where
  pub answered : AreAnswered script run.callers
  pub each : AllByRecursion (AllByRecursion IsSaid) run.callers
  pub ascend : AscendFrom 0 run.pairs

-- the lines are those of the script in this version, then `run`, then those of the run
pub record SpellsChecked (version : Version) (script : List (List Line)) (run : Run) (lines : List (List ℕ)) : Type 0 where
  pub is_script : IsScript version script
  pub is_run : IsRunOf script run
  pub lines_are : lines ≡ version_line version ++ (script_lines script ++ codes "run" ∷ run_lines run)

-- the lines are those of some script and a run of it
abbrev pub AreChecked : List (List ℕ) → Type 0
AreChecked lines = (version : Version) × (script : List (List Line)) × (run : Run) × SpellsChecked version script run lines

-- the bytes are the text of the script and the run
abbrev pub CheckedOf : List ℕ → List (List Line) → Run → Type 0
CheckedOf bytes script run = (version : Version) × SpellsChecked version script run (lines_of bytes)
