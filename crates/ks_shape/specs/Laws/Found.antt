-- The reply for what was found at a place is no Full.
use Rattle.std.specs.Prelude.{ℕ, ◌≢◌, Option, None, Some}
use Rattle.ks_history.specs.declared.Reply.TheVariants.{Full}
use Rattle.ks_history.specs.Map.{told}

pub never_full : (found : Option ℕ) → told found ≢ Full
never_full None full = cc
never_full (Some value) full = cc
