use Rattle.std.proofs.Common.{ℕ, ◌<◌}
use Rattle.std.specs.Prelude.{get_or}
use Rattle.ks_keysets.specs.declared.Pair.{Pair}
use Rattle.ks_hash.specs.Parts.{pairs_of}
use Rattle.ks_hash.proofs.node.tests.all_below.Given as goal

abbrev pub invariant-loop-n : goal.invariant-loop-n
invariant-loop-n l = (k : ℕ) (d : Pair) → k < l.n → (get_or (pairs_of l.node.parts) k d).place < l.cut
