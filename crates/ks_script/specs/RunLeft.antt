-- The lines of a run, and the first line with which no run goes on.
use Rattle.std.specs.Prelude.{ℕ, ◌≡◌, ◌+◌, ◌^◌, ◌<◌, ◌≤◌, List, [], ◌∷◌}
use Rattle.std.specs.List.{flat_map}
use Rattle.ks_lines.specs.declared.Line.{Line}
use Rattle.ks_lines.specs.declared.Said.{Said}
use Rattle.ks_lines.specs.Lines.{AllBoth}
use Rattle.ks_script.specs.Run.{Run, said_lines, run_lines}
use Rattle.ks_script.specs.Checked.{IsRunOf}
use Rattle.ks_script.specs.Reads.{Lines, BeginsWith}
use Rattle.ks_script.specs.SaidLeft.{IsSaidOf}

-- what a printed run says of the lines of one caller
abbrev pub Replies : Type 0
Replies = List Said

-- the least key that may follow the pairs, where n may be the first
abbrev pub next_key : ℕ → List (ℕ × ℕ) → ℕ
next_key n [] = n
next_key n (x ∷ xs) = next_key (x.0 + 1) xs

-- the key is n at least, and the key has 64 bits and the value 128
abbrev pub IsPairFrom : ℕ → ℕ × ℕ → Type 0
IsPairFrom n x = (n ≤ x.0) × (x.0 < 2 ^ 64) × (x.1 < 2 ^ 128)

-- the lines are those of this run of the script
pub record SpellsRun (script : List (List Line)) (run : Run) (ls : Lines) : Type 0 where
  pub is : IsRunOf script run
  pub lines_are : ls ≡ run_lines run

-- the lines are those of some run of the script
abbrev pub AreRun : List (List Line) → Lines → Type 0
AreRun script ls = (run : Run) × SpellsRun script run ls

-- the lines begin with replies to these
abbrev pub BeginsReplies : List Line → Lines → Type 0
BeginsReplies lines = BeginsWith (AllBoth IsSaidOf lines) (flat_map said_lines)
