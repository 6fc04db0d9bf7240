use Rattle.std.proofs.Common.{◌≡◌, ◌+◌, take, length}
use Rattle.ks_hash.specs.Slices.{doubled}
use Rattle.ks_hash.proofs.slices.double.Given as goal

abbrev pub invariant-loop-child : goal.invariant-loop-child
invariant-loop-child l = record {
  items : l.halves.items ≡ doubled (take l.child-index l.child-items);
  count : length l.halves.items ≡ l.child-index + l.child-index;
}
