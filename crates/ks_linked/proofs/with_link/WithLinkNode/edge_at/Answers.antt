use Rattle.std.proofs.Common.{arith, ◌∙◌, ap, ◌+◌, ◌≡◌, nat_eq, refl}
use Rattle.ks_node.specs.Spans.{cut_one}
use Rattle.ks_linked.specs.Laws.Link.{link_count, count_linked, own_linked, last_linked}
use Rattle.ks_linked.proofs.with_link.WithLinkNode.edge_at.Goals as goal

pub returns-then-n-own : goal.returns-then-n-own
returns-then-n-own g c =
    let me = c.args.self.now in
    let own = rw c.deref-inside.ensures at c.edges_held-own.ensures in
    own_linked (g.N.Node.body me.inner.value.node) me.inner.value.range me.inner.value.level (g.met.N.Node.sound me.inner.value.node) (g.met.N.Node.framed me.inner.value.node) me.framed (g.met.N.Unlinked.no_link me.inner.value.node) me.inner.value.link me.same_range
    c.args.n c.edge_at.result c.cut_edge.result (omega arith) (rw c.deref-inside.ensures at c.edge_at.ensures)
    ((rw c.deref-inside.ensures at c.cut_edge.ensures) ∙ ap (λ n. cut_one me.inner.value.range (nat_eq (c.args.n + 1) n) c.edge_at.result) (rw c.deref-inside.ensures at c.edges_held-own.ensures))

pub unreachable-requires : goal.unreachable-requires
unreachable-requires g c =
    let me = c.args.self.now in
    let count = count_linked (g.N.Node.body me.inner.value.node) me.inner.value.range me.inner.value.level (g.met.N.Node.sound me.inner.value.node) (g.met.N.Node.framed me.inner.value.node) me.framed (g.met.N.Unlinked.no_link me.inner.value.node) me.inner.value.link in
    let none : link_count me.inner.value.link ≡ 0 = ap link_count (rw c.deref-inside.ensures at c.in-None.is) in
    let own = rw c.deref-inside.ensures at c.edges_held-own.ensures in
    omega (arith, c.requires)

pub returns : goal.returns
returns g c =
    let me = c.args.self.now in
    let count = count_linked (g.N.Node.body me.inner.value.node) me.inner.value.range me.inner.value.level (g.met.N.Node.sound me.inner.value.node) (g.met.N.Node.framed me.inner.value.node) me.framed (g.met.N.Unlinked.no_link me.inner.value.node) me.inner.value.link in
    let one : link_count me.inner.value.link ≡ 1 = ap link_count (rw c.deref-inside.ensures at c.in-Some.is) in
    let own = rw c.deref-inside.ensures at c.edges_held-own.ensures in
    rw c.deref-inside.ensures (rw (rw c.deref-inside.ensures at c.in-Some.is) (last_linked (g.N.Node.body me.inner.value.node) me.inner.value.range me.inner.value.level (g.met.N.Node.sound me.inner.value.node) (g.met.N.Node.framed me.inner.value.node) me.framed (g.met.N.Unlinked.no_link me.inner.value.node) c.in-Some.right c.args.n _ (omega (arith, c.requires)) refl))
