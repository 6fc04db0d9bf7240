use Rattle.std.proofs.Common.{◌≡◌, arith, refl, suc}
use Rattle.ks_node.specs.Laws.Within.{framed_reached}
use Rattle.ks_node.proofs.with_range.WithRangeUnlinked.reach.Goals as goal

pub invariant_of-self-clause-framed : goal.invariant_of-self-clause-framed
invariant_of-self-clause-framed g c =
    let next : suc c.args.self.now.inner.value.range.last ≡ c.args.right.now.inner.value.range.low = c.requires _ refl _ refl in
    let ordered = c.args.right.now.framed.ordered in
    rw c.reach.ensures (rw c.deref_mut-left.ensures.value (rw c.deref-right.ensures (framed_reached c.args.self.now.framed (g.N.Node.body c.args.right.now.inner.value.node) c.args.right.now.inner.value.range.last (omega arith) c.args.right.now.framed.ends)))
