use Rattle.std.proofs.Common.{◌∙◌}
use Rattle.ks_node.specs.Laws.Spans.{same_count}
use Rattle.ks_node.proofs.with_range.WithRangeNode.edges_held.Goals as goal

pub returns : goal.returns
returns g c =
    let me = c.args.self.now in
    (rw c.deref.ensures at c.edges_held.ensures) ∙ same_count (g.N.Node.body me.inner.value.node) me.inner.value.range (g.met.N.Node.sound me.inner.value.node) (g.met.N.Node.framed me.inner.value.node) me.framed (g.met.N.Unlinked.no_link me.inner.value.node)
