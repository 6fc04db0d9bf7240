use Rattle.std.proofs.Common.{◌≡◌}
use Rattle.ks_history.specs.Trace.{graph_after}
use Rattle.ks_arena.specs.Clauses.{trace_of}
use Rattle.ks_arena.specs.Ended.{entries_below}
use Rattle.ks_arena.proofs.run.Run.entries.Given as goal

abbrev pub invariant-loop-node : goal.invariant-loop-node
invariant-loop-node g l = l.entries.items ≡ entries_below (graph_after (trace_of l.self)) l.node
