use Rattle.std.proofs.Common.{arith}
use Rattle.ks_hash.proofs.Steps.{double_more}
use Rattle.ks_hash.proofs.slices.double.Goals as goal

pub loop-child-preserved : goal.loop-child-preserved
loop-child-preserved c = record {
  items =
      rw (c.push-in-loop-child.ensures.items, c.push.ensures.items)
      (double_more c.loop-child.halves.items c.as_slice-child-items.result.now c.loop-child.child-index c.loop-child.invariant.items c.loop-child-test.true);
  count = omega (arith, c.push-in-loop-child.ensures.len, c.push.ensures.len, c.loop-child.invariant.count);
}
