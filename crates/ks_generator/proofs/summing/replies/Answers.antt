use Rattle.std.proofs.Common.{arith}
use Rattle.ks_generator.specs.declared.summing.Kind.TheVariants.{Found, Missing, NoRoom}
use Rattle.ks_generator.proofs.Counting.{replies_more}
use Rattle.ks_generator.proofs.summing.replies.Goals as goal

pub loop-said-preserved : goal.loop-said-preserved
loop-said-preserved c = let i = c.loop-said.invariant in let e = c.replies_in-more.ensures in record {
  found = replies_more Found c.args.callers.now c.loop-said.said-index c.loop-said.found c.replies_in-more.result.found c.said-item.result c.loop-said-test.true c.said-item.is e.found i.found;
  none = replies_more Missing c.args.callers.now c.loop-said.said-index c.loop-said.none c.replies_in-more.result.none c.said-item.result c.loop-said-test.true c.said-item.is e.none i.none;
  full = replies_more NoRoom c.args.callers.now c.loop-said.said-index c.loop-said.full c.replies_in-more.result.full c.said-item.result c.loop-said-test.true c.said-item.is e.full i.full;
  few_found = omega arith;
  few_none = omega arith;
  few_full = omega arith;
}
