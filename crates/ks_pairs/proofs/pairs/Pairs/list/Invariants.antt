use Rattle.std.proofs.Common.{◌≡◌, ◌≤◌, take}
use Rattle.ks_node.specs.Effect.{pairs_within}
use Rattle.ks_pairs.proofs.pairs.Pairs.list.Given as goal

abbrev pub invariant-loop-at : goal.invariant-loop-at
invariant-loop-at g l = record {
  listed : l.into ≡ pairs_within l.low l.last (take l.at l.self.items);
  from : l.first ≤ l.at;
}
