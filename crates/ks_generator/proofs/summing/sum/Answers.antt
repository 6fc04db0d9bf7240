use Rattle.std.proofs.Common.{refl}
use Rattle.ks_generator.proofs.Counting.{sum_more}
use Rattle.ks_generator.proofs.summing.sum.Goals as goal

pub loop-pair-preserved : goal.loop-pair-preserved
loop-pair-preserved c = sum_more c.args.pairs.now c.loop-pair.pair-index c.loop-pair.sum _ c.loop-pair-test.true refl c.loop-pair.invariant
