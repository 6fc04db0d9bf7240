use Rattle.std.proofs.Common.{ℕ, ◌<◌, get_or}
use Rattle.ks_keysets.specs.declared.Pair.{Pair}
use Rattle.ks_list.specs.Listed.{pairs_of}
use Rattle.ks_list.proofs.pairs.rank.Given as goal

abbrev pub invariant-loop-i : goal.invariant-loop-i
invariant-loop-i l = (k : ℕ) (d : Pair) → k < l.i → (get_or (pairs_of l.pairs.pairs) k d).place < l.place
