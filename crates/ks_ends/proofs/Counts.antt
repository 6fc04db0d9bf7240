-- What is checked can be judged: it says of each line what may be said of it, and has no more calls than can be judged.
use Rattle.std.proofs.Common.{ℕ, ◌≤◌, List, Result, Ok, Err}
use Rattle.std.specs.Prelude.{IfOk}
use Rattle.ks_lines.specs.declared.Line.{Line}
use Rattle.ks_lines.specs.Lines.{AreAnswered, ops_in}
use Rattle.ks_script.specs.Script.{calls_in}
use Rattle.ks_script.specs.Run.{Run}
use Rattle.ks_script.specs.Checked.{CheckedOf}
use Rattle.ks_judge.specs.Laws.Counts.{script_few}
use Rattle.ks_ends.specs.declared.input.Stop.{Stop}

pub few_checked : (bytes : List ℕ) (r : Result (List (List Line) × Run) Stop) → IfOk r (λ x. CheckedOf bytes x.0 x.1) → IfOk r (λ x. calls_in (ops_in x.0 x.1.callers) ≤ 1114112)
few_checked bytes (Ok x) is = script_few is.0 x.0 x.1.callers is.1.is_script is.1.is_run.answered
few_checked bytes (Err stop) is = tt

pub answered_checked : (bytes : List ℕ) (r : Result (List (List Line) × Run) Stop) → IfOk r (λ x. CheckedOf bytes x.0 x.1) → IfOk r (λ x. AreAnswered x.0 x.1.callers)
answered_checked bytes (Ok x) is = is.1.is_run.answered
answered_checked bytes (Err stop) is = tt
