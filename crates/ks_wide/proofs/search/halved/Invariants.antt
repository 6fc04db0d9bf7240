use Rattle.std.proofs.Common.{◌≤◌, length}
use Rattle.ks_wide.proofs.search.halved.Given as goal

abbrev pub invariant-loop-step : goal.invariant-loop-step
invariant-loop-step l = l.at ≤ length l.numbers
