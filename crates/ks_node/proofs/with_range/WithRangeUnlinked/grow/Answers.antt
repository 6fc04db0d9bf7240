use Rattle.std.proofs.Common.{arith, refl}
use Rattle.ks_node.specs.Laws.Within.{framed_left, framed_right, framed_grown}
use Rattle.ks_node.proofs.with_range.WithRangeUnlinked.grow.Goals as goal

pub invariant_of-self-clause-framed : goal.invariant_of-self-clause-framed
invariant_of-self-clause-framed g c =
    let low_is = c.args.self.now.framed.low_is in
    rw c.grow.ensures.branch (rw c.deref_mut-parent.ensures.value (framed_grown c.args.self.now.framed g.N.Node.branch_kind c.args.cut c.args.left_id c.args.right_id (omega arith) (c.requires.cut.0.1 _ refl)))

pub invariant_of-left-clause-framed : goal.invariant_of-left-clause-framed
invariant_of-left-clause-framed g c =
    let low_is = c.args.self.now.framed.low_is in
    rw c.grow.ensures.left (rw c.deref_mut-parent.ensures.value (framed_left c.args.self.now.framed c.args.cut (omega arith) (c.requires.cut.0.1 _ refl)))

pub invariant_of-right-clause-framed : goal.invariant_of-right-clause-framed
invariant_of-right-clause-framed g c =
    let low_is = c.args.self.now.framed.low_is in
    rw c.grow.ensures.right (rw c.deref_mut-parent.ensures.value (framed_right c.args.self.now.framed c.args.cut (g.met.N.Node.sound c.args.self.now.inner.value.node).starts_ascend (omega arith) (c.requires.cut.0.1 _ refl)))
