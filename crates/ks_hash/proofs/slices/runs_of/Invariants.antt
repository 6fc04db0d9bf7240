use Rattle.std.proofs.Common.{◌≡◌, ◌≤◌, ◌*◌, ◌++◌, drop, length, None}
use Rattle.ks_hash.specs.Slices.{slice_starts}
use Rattle.ks_hash.specs.Laws.Joined.{joined_after}
use Rattle.ks_hash.proofs.slices.runs_of.Given as goal

abbrev pub invariant-loop-i : goal.invariant-loop-i
invariant-loop-i l = record {
  starts : l.starts.items ++ joined_after l.before (slice_starts l.width (l.i * l.width) (drop l.i l.slices)) ≡ joined_after None (slice_starts l.width 0 l.slices);
  few : length l.starts.items ≤ l.i;
}
