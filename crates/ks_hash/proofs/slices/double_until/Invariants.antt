use Rattle.std.proofs.Common.{◌≡◌, ◌-◌, IsTrue, length}
use Rattle.ks_hash.specs.Slices.{is_size, starts_of}
use Rattle.ks_hash.proofs.slices.double_until.Given as goal

abbrev pub invariant-loop-slices : goal.invariant-loop-slices
invariant-loop-slices l = record {
  size : IsTrue (is_size (length l.slices.items));
  starts : starts_of l.slices.items ≡ starts_of l.initial.slices.items;
}

abbrev pub decreases-loop-slices : goal.decreases-loop-slices
decreases-loop-slices l = 64 - length l.slices.items
