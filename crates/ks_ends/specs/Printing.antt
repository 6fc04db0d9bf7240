-- What is printed of a run.
use Rattle.std.specs.Prelude.{ℕ, List, length}
use Rattle.ks_history.specs.declared.Event.{Event}
use Rattle.ks_history.specs.Callers.{CallersBelow}
use Rattle.ks_lines.specs.declared.Line.{Line}
use Rattle.ks_lines.specs.ServedLines.{ServedLines}
use Rattle.ks_script.specs.Run.{Run, run_text}
use Rattle.ks_generator.specs.Size.{IsSize}
use Rattle.ks_generator.specs.Summary.{summary_text}
use Rattle.ks_ends.specs.declared.printing.Printing.{Printing}
use Rattle.ks_ends.specs.declared.printing.Printing.TheVariants.{Run as Whole, Summary}

-- the text of a run of the script
abbrev pub printed_text : Printing → List (List Line) → Run → List ℕ
printed_text Whole script run = run_text run
printed_text (Summary size) script run = summary_text script run

-- a summary is of a script of this size
abbrev pub IsPrintingOf : Printing → List (List Line) → Type 0
IsPrintingOf Whole script = Unit {0}
IsPrintingOf (Summary size) script = IsSize size script

-- a summary is printed, of a script of this size
abbrev pub IsSummaryOf : Printing → List (List Line) → Type 0
IsSummaryOf Whole script = ⊥
IsSummaryOf (Summary size) script = IsSize size script

-- the trace h served the script, with these places for keys, and Took holds of the text that is printed; each event of h is of a
-- caller of the script
pub record Reports (place : ℕ → ℕ) (printing : Printing) (script : List (List Line)) (h : List Event) (Took : List ℕ → Type 0) : Type 0 where
  pub run : Run
  pub served : ServedLines place script run.callers run.pairs h
  pub callers : CallersBelow (length script) h
  pub took : Took (printed_text printing script run)
