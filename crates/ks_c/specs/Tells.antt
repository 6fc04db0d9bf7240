-- How C gets the result of a call: as a code, and in its `Answer`.
use Rattle.std.specs.Prelude.{ℕ, ◌≡◌, ◌+◌, ◌*◌, ◌^◌, Option, Some, None, Result, Ok, Err}
use Rattle.ks_shape.specs.declared.answers.Numbered.{Numbered}
use Rattle.ks_shape.specs.declared.answers.Later.{Later}
use Rattle.ks_shape.specs.declared.answers.Later.TheVariants.{Busy, Moved, Far}
use Rattle.ks_shape.specs.declared.answers.PutLater.{PutLater}
use Rattle.ks_shape.specs.declared.answers.PutLater.TheVariants.{Full, Later as Otherwise}
use Rattle.ks_c.specs.declared.answers.Answer.{Answer}

-- a value in two halves
abbrev pub whole : (low high : ℕ) → ℕ
whole low high = high * 2 ^ 64 + low

-- the call is done: the code is 1 and the answer has the value that was there, or the code is 0
abbrev pub TellsFound : Option ℕ → ℕ → Answer → Type 0
TellsFound None code out = code ≡ 0
TellsFound (Some v) code out = (code ≡ 1) × (whole out.low out.high ≡ v)

-- it was put off: the code is 3, and the answer has the node and its holder; it is 4, and the answer has the node; or it is 5
abbrev pub TellsLater : Later → ℕ → Answer → Type 0
TellsLater (Busy node holder) code out = (code ≡ 3) × (out.node ≡ node) × (out.holder ≡ holder)
TellsLater (Moved node) code out = (code ≡ 4) × (out.node ≡ node)
TellsLater Far code out = code ≡ 5

abbrev pub Tells : Result Numbered Later → ℕ → Answer → Type 0
Tells (Ok answer) code out = (out.number ≡ answer.number) × TellsFound answer.found code out
Tells (Err later) code out = TellsLater later code out

-- a put or an add may be done and find no room: the code is 2
abbrev pub TellsPut : Result Numbered PutLater → ℕ → Answer → Type 0
TellsPut (Ok answer) code out = (out.number ≡ answer.number) × TellsFound answer.found code out
TellsPut (Err (Full number)) code out = (code ≡ 2) × (out.number ≡ number)
TellsPut (Err (Otherwise later)) code out = TellsLater later code out
