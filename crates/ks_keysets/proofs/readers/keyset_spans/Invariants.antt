use Rattle.std.proofs.Common.{◌≤◌, ◌-◌}
use Rattle.ks_keysets.specs.Record.{top}
use Rattle.ks_keysets.specs.Keyset.{InKeyset}
use Rattle.ks_keysets.proofs.Spans.{SpansBelow}
use Rattle.ks_keysets.specs.Listed.{graph_of}
use Rattle.ks_keysets.proofs.readers.keyset_spans.Given as goal

abbrev pub invariant-loop-spans : goal.invariant-loop-spans
invariant-loop-spans l = record {
  within : l.low ≤ top;
  spans : SpansBelow l.spans.items (InKeyset (graph_of l.graph) l.node) l.low;
}

abbrev pub decreases-loop-spans : goal.decreases-loop-spans
decreases-loop-spans l = top - l.low
