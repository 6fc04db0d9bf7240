-- What the command to make a script leaves.
use Rattle.std.specs.Prelude.{ℕ, ◌≡◌, ◌⊎◌, ◌↔◌, List, Option, IfSome, IsSome}
use Rattle.ks_history.specs.declared.Event.{Event}
use Rattle.ks_history.specs.Callers.{CallersBelow}
use Rattle.ks_lines.specs.ServedLines.{ServedLines}
use Rattle.ks_script.specs.Run.{Run}
use Rattle.ks_script.specs.Outside.{Grew, GrewByFront}
use Rattle.ks_generator.specs.Made.{made}
use Rattle.ks_generator.specs.Summary.{summary_text}
use Rattle.ks_words.specs.declared.pairing.Pairing.{Pairing}
use Rattle.ks_words.specs.declared.words.Draft.{Draft}
use Rattle.ks_words.specs.Pairings.{structure_row}
use Rattle.ks_words.specs.Words.{AsksToMake}
use Rattle.ks_words.specs.declared.status.TheConstants.{DONE, OUTPUT_FAILED, NO_MEMORY}

-- the trace h served the script that is made, with these places for keys, and Took holds of the summary of the run; each
-- event of h is of a caller of that script
pub record Sums (place : ℕ → ℕ) (draft : Draft) (h : List Event) (Took : List ℕ → Type 0) : Type 0 where
  pub run : Run
  pub served : ServedLines place (made draft.callers draft.calls draft.first) run.callers run.pairs h
  pub callers : CallersBelow draft.callers h
  pub took : Took (summary_text (made draft.callers draft.calls draft.first) run)

-- what the command leaves: it is done, or the output failed, or memory ran out
pub record MakesOutcome (words : List (List ℕ)) (old new : Option (List ℕ)) (status : ℕ) (run : Option (List Event)) : Type 0 where
  pub pairing : Pairing
  pub arena : ℕ
  pub draft : Draft
  pub asks : AsksToMake words pairing arena draft
  pub known : (status ≡ DONE) ⊎ ((status ≡ OUTPUT_FAILED) ⊎ (status ≡ NO_MEMORY))
  pub ran : IsSome run ↔ ((status ≡ DONE) ⊎ (status ≡ OUTPUT_FAILED))
  pub done : status ≡ DONE → IfSome run (λ h. Sums (structure_row pairing.structure).place draft h (λ t. Grew old new t))
  pub cut : status ≡ OUTPUT_FAILED → IfSome run (λ h. Sums (structure_row pairing.structure).place draft h (λ t. GrewByFront old new t))
