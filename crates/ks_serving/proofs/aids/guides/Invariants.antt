use Rattle.std.proofs.Common.{◌≡◌, ◌≤◌, length}
use Rattle.ks_serving.proofs.aids.guides.Given as goal

abbrev pub invariant-loop : goal.invariant-loop
invariant-loop l = (length l.guides.items ≡ l.counter) × (l.counter ≤ l.workers)
