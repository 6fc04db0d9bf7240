-- What the program does with what it reads.
use Rattle.std.specs.Prelude.{ℕ, zero, suc, ◌≡◌, ◌≢◌, ◌<◌, ◌≤◌, List, ◌++◌, length, Option, Some, None, IfSome, codes}
use Rattle.std.specs.Fmt.{decimal}
use Rattle.ks_history.specs.declared.Event.{Event}
use Rattle.ks_history.specs.Callers.{CallersBelow}
use Rattle.ks_lines.specs.declared.Line.{Line}
use Rattle.ks_lines.specs.ServedLines.{ServedLines}
use Rattle.ks_script.specs.Lines.{lines_of, FirstBad}
use Rattle.ks_script.specs.Script.{AreScript, ScriptOf}
use Rattle.ks_script.specs.Reasons.{IsReason, IsCheckedReason}
use Rattle.ks_script.specs.declared.reasons.Reason.{Reason}
use Rattle.ks_script.specs.Unfit.{IsUnfitAt}
use Rattle.ks_script.specs.Checked.{AreChecked, CheckedOf}
use Rattle.ks_script.specs.Run.{Run, run_text}
use Rattle.ks_script.specs.Outside.{Grew, GrewByFront}
use Rattle.ks_judge.specs.declared.judging.Judged.{Judged}
use Rattle.ks_judge.specs.declared.judging.Judged.TheVariants.{Legal, Wrong}
use Rattle.ks_judge.specs.Verdict.{IsJudgedRun}
use Rattle.ks_words.specs.declared.pairing.Pairing.{Pairing}
use Rattle.ks_words.specs.Pairings.{technique_row, does_scan}
use Rattle.ks_words.specs.declared.words.Text.{Text}
use Rattle.ks_words.specs.declared.words.Text.TheVariants.{Script, Checked}
use Rattle.ks_words.specs.declared.status.TheConstants.{DONE, REFUSED, SOURCE_FAILED, OUTPUT_FAILED, NO_MEMORY, WRONG}

-- how many bytes a text may have
abbrev pub limit_of : Text → ℕ
limit_of Script = 16777216
limit_of Checked = 134217728

-- line n is the one for which the bytes are no such text
abbrev pub FirstBadOf : Text → List ℕ → ℕ → Type 0
FirstBadOf Script bytes n = FirstBad AreScript (lines_of bytes) n
FirstBadOf Checked bytes n = FirstBad AreChecked (lines_of bytes) n

-- the input is refused at this line, or, at line 0, for its length
abbrev pub RefusedAt : Text → List ℕ → ℕ → Type 0
RefusedAt text bytes zero = limit_of text < length bytes
RefusedAt text bytes (suc n) = (length bytes ≤ limit_of text) × FirstBadOf text bytes (suc n)

-- why line n of the text is refused; line 0, for the length of the text, has no reason
abbrev pub IsReasonAt : Text → List ℕ → ℕ → Option Reason → Type 0
IsReasonAt text bytes n None = n ≡ 0
IsReasonAt Script bytes n (Some why) = IsReason (lines_of bytes) n why
IsReasonAt Checked bytes n (Some why) = IsCheckedReason (lines_of bytes) n why

-- whether there is a reason
abbrev pub HasReason : ℕ → Option Reason → Type 0
HasReason n None = n ≡ 0
HasReason n (Some why) = n ≢ 0

-- the reason is that of line n of the bytes, if they are known
abbrev pub SaysWhy : Text → Option (List ℕ) → ℕ → Option Reason → Type 0
SaysWhy text left n why = HasReason n why × IfSome left (λ bytes. IsReasonAt text bytes n why)

-- the status and the line say that the source did not fail, that memory did not run out, and that the text is not too long
abbrev pub IsReadWith : ℕ → ℕ → Type 0
IsReadWith status line = (status ≢ SOURCE_FAILED) × (status ≢ NO_MEMORY) × (status ≡ REFUSED → line ≢ 0)

-- the bytes are the text of this script, and not too many
pub record Accepts (bytes : List ℕ) (script : List (List Line)) : Type 0 where
  pub within : length bytes ≤ limit_of Script
  pub reads : ScriptOf bytes script

-- the bytes are the text of a script; line n of it is the first that the pairing does not serve, a scan or a move
pub record UnfitAt (pairing : Pairing) (bytes : List ℕ) (n : ℕ) : Type 0 where
  pub script : List (List Line)
  pub accepts : Accepts bytes script
  pub unfit : IsUnfitAt (does_scan pairing.structure pairing.technique) (technique_row pairing.technique).moves bytes n

-- the trace h served the script that the bytes spell, with these places for keys, with this run as its result; each event
-- of h is of a caller of the script
pub record Tells (place : ℕ → ℕ) (bytes : List ℕ) (h : List Event) (run : Run) : Type 0 where
  pub script : List (List Line)
  pub accepts : Accepts bytes script
  pub served : ServedLines place script run.callers run.pairs h
  pub callers : CallersBelow (length script) h

-- the trace h served the script that the bytes spell, and Took holds of the text of its run
pub record Prints (place : ℕ → ℕ) (bytes : List ℕ) (h : List Event) (Took : List ℕ → Type 0) : Type 0 where
  pub run : Run
  pub tells : Tells place bytes h run
  pub took : Took (run_text run)

-- the trace of the run, if there is one, served the script that the source had left, if that is known, and Took holds of
-- the text of the run
abbrev pub PrintsRun : (ℕ → ℕ) → Option (List ℕ) → Option (List Event) → (List ℕ → Type 0) → Type 0
PrintsRun place left run Took = IfSome left (λ bytes. IfSome run (λ h. Prints place bytes h Took))

-- the bytes are the text of this script and this run, and not too many
pub record AcceptsChecked (bytes : List ℕ) (script : List (List Line)) (run : Run) : Type 0 where
  pub within : length bytes ≤ limit_of Checked
  pub reads : CheckedOf bytes script run

-- the bytes are the text of a script and a run that is judged so
pub record Judges (bytes : List ℕ) (judged : Judged) : Type 0 where
  pub script : List (List Line)
  pub run : Run
  pub accepts : AcceptsChecked bytes script run
  pub is : IsJudgedRun script run judged

-- the line that states a judgment
abbrev pub judged_line : Judged → List ℕ
judged_line (Legal calls) = codes "legal " ++ decimal calls ++ codes "\n"
judged_line (Wrong number) = codes "wrong " ++ decimal number ++ codes "\n"

-- what a check leaves: with status 0 or 6 its line on the output, and with status 4 first bytes of it
pub record IsCheck (left old new : Option (List ℕ)) (status number : ℕ) : Type 0 where
  pub legal : status ≡ DONE → IfSome left (λ bytes. (calls : ℕ) × Judges bytes (Legal calls) × Grew old new (judged_line (Legal calls)))
  pub wrong : status ≡ WRONG → IfSome left (λ bytes. Judges bytes (Wrong number) × Grew old new (judged_line (Wrong number)))
  pub cut : status ≡ OUTPUT_FAILED → IfSome left (λ bytes. (judged : Judged) × Judges bytes judged × GrewByFront old new (judged_line judged))
