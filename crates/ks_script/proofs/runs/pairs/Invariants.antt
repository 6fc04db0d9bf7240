use Rattle.ks_script.proofs.Common.{◌≡◌, ◌≤◌, ◌+◌, ◌^◌, length, map, pair_line, AscendFrom, Reads, next_key}
use Rattle.ks_script.proofs.runs.pairs.Given as goal

abbrev pub invariant-pairs : goal.invariant-pairs
invariant-pairs l = record {
  ascend : AscendFrom 0 l.pairs.items;
  reads : Reads (map pair_line l.pairs.items) l.bytes l.rest (length l.pairs.items);
  shorter : length l.rest + length l.pairs.items ≤ length l.bytes;
  least : l.least ≡ next_key 0 l.pairs.items;
  small : l.least ≤ 2 ^ 64;
}

abbrev pub decreases-pairs : goal.decreases-pairs
decreases-pairs l = length l.rest
