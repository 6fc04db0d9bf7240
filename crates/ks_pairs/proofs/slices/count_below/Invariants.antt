use Rattle.std.proofs.Common.{ℕ, ◌<◌, get_or}
use Rattle.ks_pairs.proofs.slices.count_below.Given as goal

abbrev pub invariant-loop-i : goal.invariant-loop-i
invariant-loop-i l = (k : ℕ) (d : ℕ) → k < l.i → get_or l.numbers k d < l.limit
