-- What the program leaves, part by part: the contract of the call that serves and that of the program around it are made
-- of these.
use Rattle.std.specs.Prelude.{ℕ, ◌≡◌, ◌≢◌, ◌⊎◌, ◌↔◌, List, [], Option, Some, IfSome, IsSome}
use Rattle.ks_history.specs.declared.Event.{Event}
use Rattle.ks_lines.specs.declared.Line.{Line}
use Rattle.ks_script.specs.Run.{Run}
use Rattle.ks_script.specs.declared.reasons.Reason.{Reason}
use Rattle.ks_words.specs.declared.words.Text.{Text}
use Rattle.ks_words.specs.declared.words.Text.TheVariants.{Script, Checked}
use Rattle.ks_words.specs.declared.pairing.Pairing.{Pairing}
use Rattle.ks_words.specs.Pairings.{structure_row}
use Rattle.ks_words.specs.Words.{AsksToRun, IsMake, Asks}
use Rattle.ks_ends.specs.Serve.{RefusedAt, SaysWhy, UnfitAt, Accepts, AcceptsChecked, IsReadWith, PrintsRun}
use Rattle.ks_words.specs.declared.status.TheConstants.{DONE, NO_COMMAND, REFUSED, OUTPUT_FAILED, NO_MEMORY, WRONG, UNFIT}

-- the output got nothing, unless all is done, the output failed or the run is wrong
abbrev pub UntouchedWith : ℕ → Option (List ℕ) → Option (List ℕ) → Type 0
UntouchedWith status old new = status ≢ DONE → status ≢ OUTPUT_FAILED → status ≢ WRONG → new ≡ old

module _ (words : List (List ℕ)) where
  -- if a script is to be served, there was a run if and only if all is done or the output failed
  abbrev pub RanWith : ℕ → Option (List Event) → Type 0
  RanWith status run = Asks words Script → (IsSome run ↔ ((status ≡ DONE) ⊎ (status ≡ OUTPUT_FAILED)))

  -- if a script is to be served and the status is this one, Took holds of the text of the run
  abbrev pub PrintedAt : ℕ → ℕ → Option (List ℕ) → Option (List Event) → (List ℕ → Type 0) → Type 0
  PrintedAt this status left run Took = (pairing : Pairing) (nodes : ℕ) → AsksToRun words pairing nodes → status ≡ this → PrintsRun (structure_row pairing.structure).place left run Took

  -- if a text is to be read, it was read to its end, unless the source failed, memory ran out or it is too long
  abbrev pub ReadWith : ℕ → ℕ → Option (List ℕ) → Option (List ℕ) → Type 0
  ReadWith status line left after = (text : Text) → Asks words text → IsReadWith status line → IfSome left (λ _. after ≡ Some [])

  -- if the words are no command or ask for a made script, nothing was read
  abbrev pub UnreadWith : ℕ → Option (List ℕ) → Option (List ℕ) → Type 0
  UnreadWith status left after = (status ≡ NO_COMMAND) ⊎ IsMake words → after ≡ left

  -- a text was refused only at its first bad line, or, at line 0, for its length
  abbrev pub RefusedWith : ℕ → ℕ → Option (List ℕ) → Type 0
  RefusedWith status line left = (text : Text) → Asks words text → status ≡ REFUSED → IfSome left (λ bytes. RefusedAt text bytes line)

  -- and it says why
  abbrev pub ReasonWith : ℕ → ℕ → Option Reason → Option (List ℕ) → Type 0
  ReasonWith status line why left = (text : Text) → Asks words text → status ≡ REFUSED → SaysWhy text left line why

  -- if the source did not fail, a text that is to be refused was refused, or memory ran out
  abbrev pub RefusalDue : ℕ → ℕ → Option (List ℕ) → Type 0 → Type 0
  RefusalDue status line left failed = (text : Text) → Asks words text → ¬ failed →
      IfSome left (λ bytes. (n : ℕ) → RefusedAt text bytes n → ((status ≡ REFUSED) × (line ≡ n)) ⊎ (status ≡ NO_MEMORY))

  -- with this status a script was to be served, and the line is the first that its pairing does not serve
  abbrev pub UnfitWith : ℕ → ℕ → Option (List ℕ) → Type 0
  UnfitWith status line left = status ≡ UNFIT → (pairing : Pairing) × (nodes : ℕ) × AsksToRun words pairing nodes × IfSome left (λ bytes. UnfitAt pairing bytes line)

  -- if the source did not fail, a script with such a line ended with this status, or memory ran out
  abbrev pub UnfitDue : ℕ → ℕ → Option (List ℕ) → Type 0 → Type 0
  UnfitDue status line left failed = (pairing : Pairing) (nodes : ℕ) → AsksToRun words pairing nodes → ¬ failed →
      IfSome left (λ bytes. (n : ℕ) → UnfitAt pairing bytes n → ((status ≡ UNFIT) × (line ≡ n)) ⊎ (status ≡ NO_MEMORY))

  -- if neither the source nor the output failed, a script that the pairing serves was served, or memory ran out
  abbrev pub DoneDue : ℕ → Option (List ℕ) → Type 0 → Type 0 → Type 0
  DoneDue status left failed out_failed = (pairing : Pairing) (nodes : ℕ) → AsksToRun words pairing nodes → ¬ failed → ¬ out_failed →
      IfSome left (λ bytes. (script : List (List Line)) → Accepts bytes script → ((n : ℕ) → ¬ UnfitAt pairing bytes n) → (status ≡ DONE) ⊎ (status ≡ NO_MEMORY))

  -- and so a script and its run were judged
  abbrev pub JudgedDue : ℕ → Option (List ℕ) → Type 0 → Type 0 → Type 0
  JudgedDue status left failed out_failed = Asks words Checked → ¬ failed → ¬ out_failed →
      IfSome left (λ bytes. (script : List (List Line)) (run : Run) → AcceptsChecked bytes script run →
      (status ≡ DONE) ⊎ ((status ≡ WRONG) ⊎ (status ≡ NO_MEMORY)))
