use Rattle.std.proofs.Common.{◌≤◌, ℕ, ◌<◌}
use Rattle.std.specs.Prelude.{get_or}
use Rattle.ks_keysets.specs.declared.Pair.{Pair}
use Rattle.ks_asked.proofs.lie_in.Given as goal

abbrev pub invariant-loop-n : goal.invariant-loop-n
invariant-loop-n g l = (k : ℕ) (d : Pair) → k < l.n → (l.span.low ≤ (get_or (g.N.Node.body l.node).pairs k d).place) × ((get_or (g.N.Node.body l.node).pairs k d).place ≤ l.span.last)
