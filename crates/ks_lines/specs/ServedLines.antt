-- What it means that a trace served scripts of lines, and that a printed run reports it.
use Rattle.std.specs.Prelude.{ℕ, List}
use Rattle.ks_history.specs.declared.Event.{Event}
use Rattle.ks_history.specs.Served.{Served}
use Rattle.ks_lines.specs.declared.Line.{Line}
use Rattle.ks_lines.specs.declared.Said.{Said}
use Rattle.ks_lines.specs.Lines.{AreAnswered, ops_in, replies_in}

-- what is said may be said of the scripts, one for each caller; and the trace h served the calls that they represent. So the
-- parts of each scan are calls of its caller, one after another, adjacent from its first key on
pub record ServedLines (place : ℕ → ℕ) (script : List (List Line)) (said : List (List Said)) (entries : List (ℕ × ℕ)) (h : List Event) : Type 0 where
  pub answered : AreAnswered script said
  pub calls : Served place (ops_in script said) (replies_in script said) entries h
