use Rattle.std.proofs.Common.{arith, refl}
use Rattle.ks_node.specs.Laws.Within.{framed_adopted}
use Rattle.ks_linked.proofs.with_link.WithLinkNode.adopt.Goals as goal

pub invariant_of-self : goal.invariant_of-self
invariant_of-self g c =
    let me = c.args.self.now in
    let low_is = me.framed.low_is in
    record {
      framed = rw c.adopt.ensures (rw c.deref_mut.ensures.value (framed_adopted me.framed c.args.cut c.args.id (g.met.N.Node.sound me.inner.value.node).branch_covers (omega (arith, c.requires.cut.0)) (c.requires.cut.1 _ refl)));
      same_range = rw c.adopt.ensures (rw c.deref_mut.ensures.value me.same_range);
      link_where = rw c.deref_mut.ensures.value me.link_where;
    }
