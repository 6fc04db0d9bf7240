use Rattle.std.proofs.Common.{◌≡◌, ◌%◌, ◌^◌, take}
use Rattle.ks_generator.specs.Summary.{sum_of}
use Rattle.ks_generator.proofs.summing.sum.Given as goal

abbrev pub invariant-loop-pair : goal.invariant-loop-pair
invariant-loop-pair l = l.sum ≡ sum_of (take l.pair-index l.pairs) % 2 ^ 64
