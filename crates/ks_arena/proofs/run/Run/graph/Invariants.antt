use Rattle.std.proofs.Common.{◌≡◌, ◌<◌, ℕ, length}
use Rattle.ks_keysets.specs.Listed.{graph_of}
use Rattle.ks_history.specs.Trace.{graph_after}
use Rattle.ks_arena.specs.Clauses.{trace_of}
use Rattle.ks_arena.proofs.run.Run.graph.Given as goal

abbrev pub invariant-loop-node : goal.invariant-loop-node
invariant-loop-node g l = record {
  long : length l.nodes.items ≡ l.node;
  states : (i : ℕ) → i < l.node → graph_of l.nodes.items i ≡ graph_after (trace_of l.self) i;
}
