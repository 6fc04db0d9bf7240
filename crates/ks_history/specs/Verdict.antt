-- What a verdict on a history of calls says.
use Rattle.std.specs.Prelude.{ℕ, ◌≡◌, List, take, slice_get, Some}
use Rattle.ks_history.specs.declared.Answered.{Answered}
use Rattle.ks_history.specs.declared.replay.Verdict.{Verdict}
use Rattle.ks_history.specs.declared.replay.Verdict.TheVariants as verdict
use Rattle.ks_history.specs.Map.{IsAnswer, map_after, Legal}

-- the call at position n is the first whose reply is not the answer of the map after the calls before it
pub record IsFirstWrong (calls : List Answered) (n : ℕ) : Type 0 where
  pub call : Answered
  pub stands : slice_get calls n ≡ Some call
  pub legal_before : Legal (take n calls)
  pub wrong : ¬ IsAnswer (map_after (take n calls)) call.op call.reply

-- Legal if all calls are, else the position of the first wrong reply
abbrev pub IsVerdict : List Answered → Verdict → Type 0
IsVerdict calls verdict.Legal = Legal calls
IsVerdict calls (verdict.Wrong n) = IsFirstWrong calls n
