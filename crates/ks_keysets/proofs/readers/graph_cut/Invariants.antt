use Rattle.std.proofs.Common.{ℕ, ◌≡◌, ◌≤◌, ◌<◌, Some}
use Rattle.ks_keysets.specs.declared.Record.{Record}
use Rattle.ks_keysets.specs.Keyset.{record_at}
use Rattle.ks_keysets.specs.Spans.{AllCarryAlike}
use Rattle.ks_keysets.specs.Listed.{graph_of}
use Rattle.ks_keysets.proofs.readers.graph_cut.Given as goal

abbrev pub invariant-loop-node : goal.invariant-loop-node
invariant-loop-node l = record {
  above : l.place ≤ l.cut;
  same : (q n : ℕ) (r : Record) → l.place ≤ q → q ≤ l.cut → n < l.node → record_at (graph_of l.graph) n ≡ Some r → AllCarryAlike r l.place q;
}
