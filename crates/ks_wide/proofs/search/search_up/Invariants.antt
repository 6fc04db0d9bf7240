use Rattle.std.proofs.Common.{ℕ, ◌<◌, get_or}
use Rattle.ks_wide.proofs.search.search_up.Given as goal

abbrev pub invariant-loop-at : goal.invariant-loop-at
invariant-loop-at l = (k : ℕ) (d : ℕ) → k < l.at → get_or l.numbers k d < l.limit
