use Rattle.std.proofs.Common.{arith, refl, sym}
use Rattle.std.proofs.lemmas.Bool.{lt-ltb}
use Rattle.ks_node.specs.Laws.Within.{framed_left, framed_right}
use Rattle.ks_linked.specs.Laws.Link.{same_ends, same_begins}
use Rattle.ks_linked.proofs.with_link.WithLinkLinked.split_link.Goals as goal

pub invariant_of-right : goal.invariant_of-right
invariant_of-right g c =
    let me = c.args.self.now in
    let low_is = me.framed.low_is in
    let above = c.requires.cut.0.0 in
    record {
      framed = rw c.split_to.ensures.right (rw c.deref_mut-left.ensures.value (framed_right me.framed c.args.cut (g.met.N.Node.sound me.inner.value.node).starts_ascend (omega arith) (c.requires.cut.0.1 _ refl)));
      same_range = rw c.split_to.ensures.right (rw c.deref_mut-left.ensures.value (same_begins _ me.inner.value.range c.args.cut me.same_range));
      link_where = rw c.deref_mut-left.ensures.value me.link_where;
    }

pub invariant_of-self : goal.invariant_of-self
invariant_of-self g c =
    let me = c.args.self.now in
    let low_is = me.framed.low_is in
    let above = c.requires.cut.0.0 in
    let within = c.requires.cut.0.1 me.inner.value.range refl in
    let ends = me.framed.ends in
    record {
      framed = rw c.split_to.ensures.left (rw c.deref_mut-left.ensures.value (framed_left me.framed c.args.cut (omega arith) within));
      same_range = rw c.split_to.ensures.left (rw c.deref_mut-left.ensures.value (same_ends _ me.inner.value.range _ me.same_range));
      link_where = sym (lt-ltb _ _ (omega arith));
    }
