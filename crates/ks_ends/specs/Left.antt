-- What the program leaves, except what it says on the error output and what is known of the trace by itself.
use Rattle.std.specs.Prelude.{ℕ, ◌≡◌, ◌≢◌, ◌≤◌, ◌↔◌, List, Option, IsNone}
use Rattle.ks_history.specs.declared.Event.{Event}
use Rattle.ks_script.specs.Outside.{Grew, GrewByFront}
use Rattle.ks_words.specs.declared.words.Text.TheVariants.{Checked}
use Rattle.ks_words.specs.declared.status.TheConstants.{DONE, NO_COMMAND, REFUSED, SOURCE_FAILED, OUTPUT_FAILED, WRONG, UNFIT}
use Rattle.ks_words.specs.Words.{IsCommand, IsMake, Asks}
use Rattle.ks_ends.specs.Serve.{IsCheck}
use Rattle.ks_ends.specs.Make.{MakesOutcome}
use Rattle.ks_ends.specs.Parts.{UntouchedWith, RanWith, PrintedAt, ReadWith, UnreadWith, RefusedWith, RefusalDue, UnfitWith, UnfitDue, DoneDue, JudgedDue}

-- what the program leaves of a source and an output, the bytes of each before and after, if they are known, and whether it
-- failed; and the status, the line, the number and the trace with which it ends
pub record Left (words : List (List ℕ)) (left after : Option (List ℕ)) (failed : Type 0) (out out_after : Option (List ℕ)) (out_failed : Type 0) (status line number : ℕ) (run : Option (List Event)) : Type 0 where
  pub ran : RanWith words status run
  pub not_ran : Asks words Checked → IsNone run
  pub none : status ≡ NO_COMMAND → IsNone run
  pub done : PrintedAt words DONE status left run (λ t. Grew out out_after t)
  pub cut : PrintedAt words OUTPUT_FAILED status left run (λ t. GrewByFront out out_after t)
  pub checked : Asks words Checked → IsCheck left out out_after status number
  pub made : IsMake words → MakesOutcome words out out_after status run
  pub untouched : UntouchedWith status out out_after
  pub end : ReadWith words status line left after
  pub unread : UnreadWith words status left after
  pub known : status ≤ UNFIT
  pub usage : (status ≡ NO_COMMAND) ↔ ¬ IsCommand words
  pub refused : RefusedWith words status line left
  pub refusal_due : RefusalDue words status line left failed
  pub unfit : UnfitWith words status line left
  pub unfit_due : UnfitDue words status line left failed
  pub source : status ≡ SOURCE_FAILED → failed
  pub output : status ≡ OUTPUT_FAILED → out_failed
  pub judgment : status ≡ WRONG → Asks words Checked
  pub done_due : DoneDue words status left failed out_failed
  pub judged_due : JudgedDue words status left failed out_failed
  pub line_is : status ≢ REFUSED → status ≢ UNFIT → line ≡ 0
  pub number_is : status ≢ WRONG → number ≡ 0
