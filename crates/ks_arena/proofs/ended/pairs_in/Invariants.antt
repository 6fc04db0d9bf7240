use Rattle.std.proofs.Common.{◌≡◌, take}
use Rattle.ks_arena.proofs.ended.pairs_in.Given as goal

abbrev pub invariant-loop-n : goal.invariant-loop-n
invariant-loop-n g l = l.pairs.items ≡ take l.n (g.N.Node.body l.body).pairs
