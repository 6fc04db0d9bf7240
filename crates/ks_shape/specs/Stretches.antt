-- Stretches of a call that are such by every technique: what a search under trees does, which begins at the root.
use Rattle.std.proofs.Common.{ℕ, List}
use Rattle.ks_history.specs.declared.Event.{Event}
use Rattle.ks_history.specs.Done.{Template}
use Rattle.ks_history.specs.Stretch.{Stretch}

-- between two moments the caller did what a call may do by every technique
abbrev pub Stretches : ℕ → List Event → List Event → Type 0
Stretches c h k = (template : Template) → Stretch template c h k
