use Rattle.std.proofs.Common.{arith, refl}
use Rattle.ks_node.specs.Laws.Within.{framed_left, framed_right}
use Rattle.ks_node.proofs.with_range.WithRangeUnlinked.split_to.Goals as goal

pub invariant_of-self-clause-framed : goal.invariant_of-self-clause-framed
invariant_of-self-clause-framed g c =
    let low_is = c.args.self.now.framed.low_is in
    rw c.split_to.ensures.left (rw c.deref_mut-left.ensures.value (framed_left c.args.self.now.framed c.args.cut (omega arith) (c.requires.cut.0.1 _ refl)))

pub invariant_of-right-clause-framed : goal.invariant_of-right-clause-framed
invariant_of-right-clause-framed g c =
    let low_is = c.args.self.now.framed.low_is in
    rw c.split_to.ensures.right (rw c.deref_mut-left.ensures.value (framed_right c.args.self.now.framed c.args.cut (g.met.N.Node.sound c.args.self.now.inner.value.node).starts_ascend (omega arith) (c.requires.cut.0.1 _ refl)))
