use Rattle.std.proofs.Common.{arith, ap, length, subst, sym, ◌<◌, ◌∙◌}
use Rattle.guttertide.specs.Words.{HasEndedWith, IsIdlePassOf, SameCaller, caller_of, graph_after, graph_of, history, sort_of}
use Rattle.ks_history.specs.Laws.Begins.{good_now}
use Rattle.ks_draw.proofs.One.{apart_alike, one_set, set_long}
use Rattle.ks_draw.proofs.build.graph_left.Goals as goal

pub close-closed-requires-after_bounds : goal.close-closed-requires-after_bounds
close-closed-requires-after_bounds g c κs within =
    let made = c.in_ok-map.ensures in
    let passes = c.in_ok-map.passes.items in
    let one = made.order.long ∙ made.callers in
    let first = c.index_mut.result.now in
    let some : 0 < length passes = omega (arith, one) in
    c.passes_law.ensures.replaced passes _ (c.passes_law.ensures.ordered passes made.order) record {
      long = set_long passes c.call_each.new.pass;
      each = one_set (λ p q. IsIdlePassOf c.in_ok-map.map q × SameCaller p q) passes c.call_each.new.pass one
          (λ d. (c.call_each.ensures.idle, c.call_each.ensures.same ∙ ap caller_of c.index_mut.ensures.value ∙ (made.order.each 0 first some).1 ∙ sym ((made.order.each 0 d some).1)));
    }

pub returns : goal.returns
returns g c =
    let ended = history c.close-closed.result in
    let run = c.close-closed.ensures.ended in
    let good = good_now run.good in
    record {
      history = ended;
      legal = c.history_law.ensures;
      states = c.in_ok-graph.ensures.states;
      count = c.in_ok-graph.ensures.nodes c.args.nodes
          (subst (λ n. HasEndedWith (sort_of g.N.Node.layout g.N.Node.ranged) g.N.Node.body n c.close-closed.result) c.in_ok-map.ensures.nodes run);
      good = good;
      apart = apart_alike (graph_of c.in_ok-graph.graph) (graph_after ended) c.in_ok-graph.ensures.states good.apart;
    }
