-- Whose events a trace has.
use Rattle.std.specs.Prelude.{ℕ, ◌≢◌, ◌<◌, List, [], ◌∷◌}
use Rattle.ks_history.specs.declared.Event.{Event}
use Rattle.ks_history.specs.Trace.{caller_of}

-- no event of caller c
abbrev pub NoneBy : ℕ → List Event → Type 0
NoneBy c [] = Unit {0}
NoneBy c (e ∷ es) = (caller_of e ≢ c) × NoneBy c es

-- the caller of each event is below n
abbrev pub CallersBelow : ℕ → List Event → Type 0
CallersBelow n [] = Unit {0}
CallersBelow n (e ∷ es) = (caller_of e < n) × CallersBelow n es
