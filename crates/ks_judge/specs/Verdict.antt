-- What a judgment of a printed run says.
use Rattle.std.specs.Prelude.{ℕ, ◌≡◌, List}
use Rattle.ks_history.specs.declared.Op.{Op}
use Rattle.ks_lines.specs.declared.Line.{Line}
use Rattle.ks_lines.specs.Lines.{ops_in, replies_in}
use Rattle.ks_script.specs.Script.{calls_in}
use Rattle.ks_script.specs.Run.{Run}
use Rattle.ks_judge.specs.declared.judging.Judged.{Judged}
use Rattle.ks_judge.specs.declared.judging.Judged.TheVariants as judged
use Rattle.ks_judge.specs.Judgment.{Lines, IsLegalRun, IsLeastWrong}

-- legal, with the number of all calls, where all is right; else the least number that is wrong
abbrev pub IsJudged : List (List Op) → Lines → List (ℕ × ℕ) → Judged → Type 0
IsJudged script lines pairs (judged.Legal calls) = (calls ≡ calls_in script) × IsLegalRun script lines pairs
IsJudged script lines pairs (judged.Wrong number) = IsLeastWrong script lines pairs number

-- and so of the calls of the lines of a script, of which each part of a scan is one
abbrev pub IsJudgedRun : List (List Line) → Run → Judged → Type 0
IsJudgedRun script run j = IsJudged (ops_in script run.callers) (replies_in script run.callers) run.pairs j
