use Rattle.ks_linked.specs.Laws.Link.{suits_plain, own_range, good_linked, all_inside}
use Rattle.ks_linked.proofs.with_link.WithLinkNode.cut.Goals as goal

pub returns-clause-good : goal.returns-clause-good
returns-clause-good g c =
    let me = c.args.self.now in
    let b = g.N.Node.body me.inner.value.node in
    λ whole suits is. good_linked b me.inner.value.range me.inner.value.level me.inner.value.link c.cut.result me.same_range suits ((rw c.deref-inside.ensures at c.cut.ensures.good) whole (suits_plain b me.inner.value.range me.inner.value.level me.inner.value.link me.same_range suits) (own_range b me.inner.value.range me.inner.value.level me.inner.value.link suits))

pub returns-clause-grows : goal.returns-clause-grows
returns-clause-grows g c =
    let me = c.args.self.now in
    let b = g.N.Node.body me.inner.value.node in
    λ whole suits is grows place. (rw c.deref-inside.ensures at c.cut.ensures.grows) whole (suits_plain b me.inner.value.range me.inner.value.level me.inner.value.link me.same_range suits) (own_range b me.inner.value.range me.inner.value.level me.inner.value.link suits) grows (λ e. all_inside b me.inner.value.range me.inner.value.level me.inner.value.link suits c.args.span is (place e))
