use Rattle.std.proofs.Common.{◌≡◌, ◌≤◌, length}
use Rattle.std.specs.Prelude.{vec_capacity}
use Rattle.ks_hints.proofs.starting.blanks.Given as goal

abbrev pub invariant-loop : goal.invariant-loop
invariant-loop l = (length l.blanks.items ≡ l.counter) × (l.counter ≤ l.count) × (l.count ≤ vec_capacity l.blanks)
