use Rattle.std.proofs.Common.{◌≡◌, ℕ, ◌≤◌, get_or}
use Rattle.ks_hash.proofs.slices.run_begin.Given as goal

abbrev pub invariant-loop-begin : goal.invariant-loop-begin
invariant-loop-begin l = record {
  within : l.begin ≤ l.at;
  child : l.child ≡ get_or l.slices l.at 0;
  same : (k : ℕ) → l.begin ≤ k → k ≤ l.at → get_or l.slices k 0 ≡ get_or l.slices l.at 0;
}

abbrev pub decreases-loop-begin : goal.decreases-loop-begin
decreases-loop-begin l = l.begin
