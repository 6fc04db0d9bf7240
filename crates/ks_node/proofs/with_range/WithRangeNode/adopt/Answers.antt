use Rattle.std.proofs.Common.{arith, refl}
use Rattle.ks_node.specs.Laws.Within.{framed_adopted}
use Rattle.ks_node.proofs.with_range.WithRangeNode.adopt.Goals as goal

pub invariant_of-self-clause-framed : goal.invariant_of-self-clause-framed
invariant_of-self-clause-framed g c =
    let low_is = c.args.self.now.framed.low_is in
    rw c.adopt.ensures (rw c.deref_mut.ensures.value (framed_adopted c.args.self.now.framed c.args.cut c.args.id (g.met.N.Node.sound c.args.self.now.inner.value.node).branch_covers (omega arith) (c.requires.cut.1 _ refl)))
