use Rattle.ks_node.specs.Laws.Room.{same_kinds}
use Rattle.ks_node.specs.Laws.Within.{framed_absorbed}
use Rattle.ks_node.proofs.with_range.WithRangeUnlinked.absorb.Goals as goal

pub invariant_of-self-clause-framed : goal.invariant_of-self-clause-framed
invariant_of-self-clause-framed g c =
    let me = c.args.self.now in
    let other = c.args.right.now in
    rw c.absorb.ensures.left (rw c.deref_mut-left.ensures.value (rw c.deref_mut-right.ensures.value (framed_absorbed me.framed other.framed (same_kinds g.N.Node.layout (g.N.Node.body me.inner.value.node) (g.N.Node.body other.inner.value.node) c.requires.fits) (g.met.N.Node.sound me.inner.value.node).branch_covers c.requires.meets.lows c.requires.meets.above_edges c.requires.meets.ends)))
