-- What the words and the source ask to be served.
use Rattle.std.specs.Prelude.{ℕ, ◌≡◌, ◌≤◌, ◌⊎◌, List, [], length, Option, Some, IfSome}
use Rattle.ks_lines.specs.Asked.{AreServedLines}
use Rattle.ks_generator.specs.Made.{made}
use Rattle.ks_words.specs.declared.words.Draft.{Draft}
use Rattle.ks_words.specs.declared.words.Asked.TheVariants.{Run, Make}
use Rattle.ks_words.specs.Pairings.{technique_row, does_scan}
use Rattle.ks_words.specs.Words.{Spells}
use Rattle.ks_ends.specs.declared.printing.Printing.TheVariants.{Run as Whole}
use Rattle.ks_ends.specs.declared.request.Request.{Request}
use Rattle.ks_ends.specs.Printing.{IsSummaryOf}
use Rattle.ks_ends.specs.Serve.{Accepts, UnfitAt}

-- the pairing of the request serves its script, which has not too many callers
pub record CanBeServed (request : Request) : Type 0 where
  pub callers : length request.script ≤ 1024
  pub lines : AreServedLines (does_scan request.pairing.structure request.pairing.technique) (technique_row request.pairing.technique).moves request.script

-- the words ask to serve the script that the source had left, which the pairing serves, and to print its run
pub record IsToRun (words : List (List ℕ)) (left after : Option (List ℕ)) (request : Request) : Type 0 where
  pub spells : Spells words (Run request.pairing request.setting)
  pub printing : request.printing ≡ Whole
  pub accepts : IfSome left (λ bytes. Accepts bytes request.script)
  pub fit : IfSome left (λ bytes. (n : ℕ) → ¬ UnfitAt request.pairing bytes n)
  pub end : IfSome left (λ _. after ≡ Some [])

-- the words ask to serve a script that is made, and to print the summary of its run; nothing was read
pub record IsToMake (words : List (List ℕ)) (left after : Option (List ℕ)) (request : Request) : Type 0 where
  pub draft : Draft
  pub spells : Spells words (Make request.pairing request.setting draft)
  pub script : request.script ≡ made draft.callers draft.calls draft.first
  pub printing : IsSummaryOf request.printing request.script
  pub unread : after ≡ left

-- the words ask for the request, with what the source had left and has left now, and it can be served
pub record IsAskedFor (words : List (List ℕ)) (left after : Option (List ℕ)) (request : Request) : Type 0 where
  pub can : CanBeServed request
  pub asked : IsToRun words left after request ⊎ IsToMake words left after request
