use Rattle.std.proofs.Common.{ℕ, ◌≤◌, ◌-◌, ◌↔◌, IsTrue}
use Rattle.ks_keysets.specs.Record.{top}
use Rattle.ks_keysets.specs.Keyset.{InKeyset}
use Rattle.ks_keysets.specs.Listed.{graph_of}
use Rattle.ks_keysets.proofs.readers.run_last.Given as goal

abbrev pub invariant-loop-last : goal.invariant-loop-last
invariant-loop-last l = record {
  above : l.place ≤ l.last;
  same : (q : ℕ) → l.place ≤ q → q ≤ l.last → IsTrue l.inside ↔ InKeyset (graph_of l.graph) l.node q;
}

abbrev pub decreases-loop-last : goal.decreases-loop-last
decreases-loop-last l = top - l.last
