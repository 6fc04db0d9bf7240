use Rattle.ks_script.proofs.Common.{◌≡◌, ◌≤◌, ◌-◌, ◌++◌, length, AllByRecursion, pair_words, IsPair, NoDigit}
use Rattle.ks_script.proofs.scan_lines.few.Given as goal

abbrev pub invariant-pairs : goal.invariant-pairs
invariant-pairs l = record {
  few : length l.pairs ≤ 16;
  each : AllByRecursion IsPair l.pairs;
  free : NoDigit l.rest;
  read : l.bytes ≡ pair_words l.pairs ++ l.rest;
}

abbrev pub decreases-pairs : goal.decreases-pairs
decreases-pairs l = 16 - length l.pairs
