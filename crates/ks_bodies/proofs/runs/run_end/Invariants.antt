use Rattle.std.proofs.Common.{ℕ, suc, ◌≤◌, ◌<◌, take}
use Rattle.std.specs.Prelude.{All}
use Rattle.ks_keysets.specs.Spans.{CarriesAlike}
use Rattle.ks_node.specs.Edges.{edges_of}
use Rattle.ks_bodies.proofs.runs.run_end.Given as goal

abbrev pub invariant-loop-n : goal.invariant-loop-n
invariant-loop-n g l = record {
  above : l.place ≤ l.end;
  below : l.end ≤ l.last;
  same : (q : ℕ) → l.place ≤ q → q ≤ l.end → All (λ e. CarriesAlike e l.place q) (take l.n (edges_of (g.N.Node.body l.node)));
  turns : l.end < l.last → ¬ All (λ e. CarriesAlike e l.place (suc l.end)) (edges_of (g.N.Node.body l.node));
}
