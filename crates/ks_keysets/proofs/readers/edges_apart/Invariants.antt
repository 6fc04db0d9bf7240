use Rattle.std.proofs.Common.{ℕ, ◌≡◌, ◌<◌, Some}
use Rattle.ks_keysets.specs.declared.Record.{Record}
use Rattle.ks_keysets.specs.Keyset.{record_at}
use Rattle.ks_keysets.specs.Listed.{graph_of}
use Rattle.ks_keysets.specs.Apart.{AreEdgesApart}
use Rattle.ks_keysets.proofs.readers.edges_apart.Given as goal

abbrev pub invariant-loop-node : goal.invariant-loop-node
invariant-loop-node l = (n : ℕ) (r : Record) → n < l.node → record_at (graph_of l.graph) n ≡ Some r → AreEdgesApart r.edges
