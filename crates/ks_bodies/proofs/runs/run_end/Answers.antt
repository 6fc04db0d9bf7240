use Rattle.std.proofs.Common.{ℕ, suc, ◌≡◌, ◌<◌, inl, inr, List, length, get_or, take, sym, subst, arith}
use Rattle.std.specs.Prelude.{All}
use Rattle.std.proofs.lemmas.List.{take_all, get_or_read}
use Rattle.std.proofs.lemmas.List.Elements.{All-more}
use Rattle.ks_keysets.specs.declared.Edge.{Edge}
use Rattle.ks_keysets.specs.Spans.{CarriesAlike}
use Rattle.ks_node.specs.Edges.{edges_of}
use Rattle.ks_bodies.proofs.Led.{low_or_high}
use Rattle.ks_bodies.proofs.Filled.{IsFilled, filled_edges}
use Rattle.ks_bodies.proofs.runs.run_end.Goals as goal

pub loop-n-preserved : goal.loop-n-preserved
loop-n-preserved g c =
    let es : List Edge = edges_of (g.N.Node.body c.args.node.now) in
    let n = c.loop-n.n in
    let e : Edge = c.edge_at-edge.result in
    let last = c.args.last in
    let was = c.loop-n.invariant in
    let cut = c.edge_cut-end.ensures in
    let lt : n < length es = omega arith in
    let read : (d : Edge) → e ≡ get_or es n d = λ d. get_or_read es n e lt c.edge_at-edge.ensures d in
    let filled : IsFilled e = subst IsFilled (sym (read e)) (filled_edges (g.N.Node.body c.args.node.now) (c.unlinked_law.ensures.no_link c.args.node.now) n e lt) in
    record {
      above = cut.above;
      below = omega arith;
      same = λ q le le'. All-more (λ x. CarriesAlike x c.args.place q) es n e lt (was.same q le (omega arith)) (subst (λ (x : Edge). CarriesAlike x c.args.place q) (read e) (cut.same q le le'));
      turns = λ less all. elim (low_or_high c.edge_cut-end.result c.loop-n.end) [
        | inl l ↦ cut.turns filled l (subst (λ (x : Edge). CarriesAlike x c.args.place (suc c.edge_cut-end.result)) (sym (read e)) (all n e lt))
        | inr m ↦ (
            let at : c.edge_cut-end.result ≡ c.loop-n.end = omega arith in
            was.turns (omega arith) (subst (λ (o : ℕ). All (λ x. CarriesAlike x c.args.place (suc o)) es) at all))
      ];
    }

pub returns : goal.returns
returns g c =
    let es : List Edge = edges_of (g.N.Node.body c.args.node.now) in
    let was = c.loop-n.invariant in
    let whole : take c.loop-n.n es ≡ es = take_all c.loop-n.n es (omega arith) in
    record {
      above = was.above;
      below = was.below;
      same = λ q le le'. subst (λ (xs : List Edge). All (λ x. CarriesAlike x c.args.place q) xs) whole (was.same q le le');
      turns = was.turns;
    }
