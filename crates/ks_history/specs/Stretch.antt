-- Stretches of a call: what its caller does from one moment to a later one, if it makes no call.
use Rattle.std.proofs.Common.{ℕ, ◌≤◌, List}
use Rattle.ks_history.specs.declared.Op.{Op}
use Rattle.ks_history.specs.declared.Event.{Event}
use Rattle.ks_history.specs.Done.{Template, most_held}
use Rattle.ks_history.specs.Underway.{Underway}

-- from h to k the caller c makes no call, takes nodes as it may, and holds three at most
abbrev pub Stretch : Template → ℕ → List Event → List Event → Type 0
Stretch template c h k = (op : Op) → 3 ≤ most_held template op → Underway template c op h k
