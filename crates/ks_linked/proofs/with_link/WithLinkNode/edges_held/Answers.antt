use Rattle.std.proofs.Common.{arith, sym, ◌∙◌, ap, ◌≡◌, ◌+◌}
use Rattle.std.specs.Prelude.{length}
use Rattle.ks_node.specs.Edges.{edges_of}
use Rattle.ks_node.specs.Laws.Spans.{length_edges}
use Rattle.ks_linked.specs.Laws.Link.{count_linked, link_count}
use Rattle.ks_linked.proofs.with_link.WithLinkNode.edges_held.Goals as goal

pub overflow_add-result : goal.overflow_add-result
overflow_add-result g c =
    let me = c.args.self.now in
    let few = g.met.N.Growing.few_edges me.inner.value.node in
    let many = length_edges (g.N.Node.body me.inner.value.node) (g.met.N.Node.sound me.inner.value.node) (g.met.N.Node.framed me.inner.value.node) (g.met.N.Unlinked.no_link me.inner.value.node) in
    let own = rw c.deref-inside.ensures at c.edges_held-own.ensures in
    omega arith

pub returns-in-Some : goal.returns-in-Some
returns-in-Some g c =
    let me = c.args.self.now in
    ap (λ n. n + 1) (rw c.deref-inside.ensures at c.edges_held-own.ensures)
    ∙ ap (λ l. length (edges_of (g.N.Node.body me.inner.value.node)) + link_count l) (sym (rw c.deref-inside.ensures at c.in-Some.is))
    ∙ sym (count_linked (g.N.Node.body me.inner.value.node) me.inner.value.range me.inner.value.level (g.met.N.Node.sound me.inner.value.node) (g.met.N.Node.framed me.inner.value.node) me.framed (g.met.N.Unlinked.no_link me.inner.value.node) me.inner.value.link)

pub returns-in-None : goal.returns-in-None
returns-in-None g c =
    let me = c.args.self.now in
    let none : length (edges_of (g.N.Node.body me.inner.value.node)) ≡ length (edges_of (g.N.Node.body me.inner.value.node)) + 0 = omega arith in
    (rw c.deref-inside.ensures at c.edges_held-own.ensures)
    ∙ none
    ∙ ap (λ l. length (edges_of (g.N.Node.body me.inner.value.node)) + link_count l) (sym (rw c.deref-inside.ensures at c.in-None.is))
    ∙ sym (count_linked (g.N.Node.body me.inner.value.node) me.inner.value.range me.inner.value.level (g.met.N.Node.sound me.inner.value.node) (g.met.N.Node.framed me.inner.value.node) me.framed (g.met.N.Unlinked.no_link me.inner.value.node) me.inner.value.link)
