use Rattle.std.proofs.Common.{◌≡◌, ◌≤◌, length, drop}
use Rattle.std.specs.Prelude.{◌↔◌}
use Rattle.std.specs.Ordering.{nat_cmp}
use Rattle.std.specs.BTreeMap.{get}
use Rattle.ks_history.specs.Map.{ListsSpan}
use Rattle.ks_history.proofs.Spans.{pairs_of}
use Rattle.ks_history.proofs.span.lists_span.Given as goal

abbrev pub invariant-loop-place : goal.invariant-loop-place
invariant-loop-place l = record {
  fits : l.at ≤ length l.pairs;
  left : ListsSpan (get nat_cmp l.map) l.low l.last l.pairs ↔ (drop l.at l.pairs ≡ pairs_of l.place-iterator);
}
