use Rattle.ks_script.proofs.Common.{◌≤◌, ◌-◌, length, take, Lacks}
use Rattle.ks_script.proofs.reasons.cut.Given as goal

abbrev pub invariant-search : goal.invariant-search
invariant-search l = record {
  within : l.at ≤ length l.bytes;
  lacks : Lacks l.end (take l.at l.bytes);
}

abbrev pub decreases-search : goal.decreases-search
decreases-search l = length l.bytes - l.at
