use Rattle.ks_node.specs.Laws.Wrapped.{suits_inside, good_outside}
use Rattle.ks_node.proofs.with_range.WithRangeNode.cut.Goals as goal

pub returns-clause-good : goal.returns-clause-good
returns-clause-good g c =
    let me = c.args.self.now in
    let b = g.N.Node.body me.inner.value.node in
    λ whole suits is. good_outside b me.inner.value.range me.same_range c.cut.result suits ((rw c.deref.ensures at c.cut.ensures.good) whole (suits_inside b me.inner.value.range me.same_range suits) is)
