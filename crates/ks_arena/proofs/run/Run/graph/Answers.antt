use Rattle.std.proofs.Common.{◌≡◌, ℕ, ◌≤◌, ◌∷◌, [], ap, ◌∙◌, subst, arith, length, length-append}
use Rattle.std.specs.Slots.{slots_items}
use Rattle.ks_history.specs.Trace.{graph_after}
use Rattle.ks_arena.specs.Clauses.{trace_of}
use Rattle.ks_arena.proofs.Entries.{graph_more, graph_whole}
use Rattle.ks_arena.proofs.run.Run.graph.Goals as goal

pub loop-node-preserved : goal.loop-node-preserved
loop-node-preserved g c = let inv = c.loop-node.invariant in record {
  long = let more = ap length c.in_ok-push.ensures.items ∙ length-append c.loop-node.nodes.items (c.in_ok-state.field-0 ∷ []) in omega (arith, more, inv.long);
  states = graph_more (graph_after (trace_of c.args.self.now)) c.loop-node.node c.loop-node.nodes.items c.push.new.self.items c.in_ok-state.field-0 inv.long inv.states c.in_ok-push.ensures.items c.in_ok-state.ensures;
}

pub returns : goal.returns
returns g c = let inv = c.loop-node.invariant in let long = c.args.self.now.remains.closed.slots.ok.0 in let end : c.loop-node.node ≡ length (slots_items c.args.self.now.remains.closed.slots) = omega arith in let run = c.requires.1 in record {
  nodes = λ n is. inv.long ∙ end ∙ is.sized;
  states = graph_whole (graph_after (trace_of c.args.self.now)) c.loop-node.node c.loop-node.nodes.items inv.long inv.states (λ i le. run.beyond i (subst (λ (z : ℕ). z ≤ i) (end ∙ run.sized) le));
}
