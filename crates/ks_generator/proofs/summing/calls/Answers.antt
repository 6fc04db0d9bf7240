use Rattle.std.proofs.Common.{arith}
use Rattle.ks_generator.proofs.Counting.{calls_more}
use Rattle.ks_generator.proofs.summing.calls.Goals as goal

pub loop-lines-preserved : goal.loop-lines-preserved
loop-lines-preserved c = record {
  total = calls_more c.args.callers.now c.loop-lines.lines-index c.loop-lines.total c.len.result c.lines-item.result c.loop-lines-test.true c.lines-item.is (omega arith) c.loop-lines.invariant.total;
  bound = omega arith;
}
