use Rattle.std.proofs.Common.{◌∙◌, arith, subst, ◌<◌, ◌+◌, sym, ap, nat_eq}
use Rattle.ks_node.specs.Spans.{cut_one}
use Rattle.ks_node.specs.Laws.Spans.{same_count, edge_cut}
use Rattle.ks_node.proofs.with_range.WithRangeNode.edge_at.Goals as goal

pub edge_at-requires : goal.edge_at-requires
edge_at-requires g c =
    let me = c.args.self.now in
    rw c.deref-inside.ensures (subst (λ n. c.args.n < n) (sym (same_count (g.N.Node.body me.inner.value.node) me.inner.value.range (g.met.N.Node.sound me.inner.value.node) (g.met.N.Node.framed me.inner.value.node) me.framed (g.met.N.Unlinked.no_link me.inner.value.node))) c.requires)

pub returns : goal.returns
returns g c =
    let me = c.args.self.now in
    let b = g.N.Node.body me.inner.value.node in
    let sound = g.met.N.Node.sound me.inner.value.node in
    let inner = g.met.N.Node.framed me.inner.value.node in
    let none = g.met.N.Unlinked.no_link me.inner.value.node in
    let within = subst (λ n. c.args.n < n) (sym (same_count b me.inner.value.range sound inner me.framed none)) c.requires in
    (rw c.deref-inside.ensures at c.cut_edge.ensures)
    ∙ ap (λ n. cut_one me.inner.value.range (nat_eq (c.args.n + 1) n) c.edge_at.result) (rw c.deref-inside.ensures at c.edges_held-held.ensures)
    ∙ edge_cut b me.inner.value.range sound inner me.framed none me.same_range c.args.n _ c.edge_at.result within (rw c.deref-inside.ensures at c.edge_at.ensures)

pub overflow_add-n : goal.overflow_add-n
overflow_add-n g c =
    let me = c.args.self.now in
    let within = subst (λ n. c.args.n < n) (sym (same_count (g.N.Node.body me.inner.value.node) me.inner.value.range (g.met.N.Node.sound me.inner.value.node) (g.met.N.Node.framed me.inner.value.node) me.framed (g.met.N.Unlinked.no_link me.inner.value.node))) c.requires in
    omega (arith, within, (rw c.deref-inside.ensures at c.edges_held-held.ensures))
