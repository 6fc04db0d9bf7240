use Rattle.ks_script.proofs.Common.{◌≡◌, ◌≤◌, ◌-◌, true, length, take, all_ascii_digits}
use Rattle.ks_script.proofs.reasons.is_numeral.Given as goal

abbrev pub invariant-digits : goal.invariant-digits
invariant-digits l = record {
  within : l.at ≤ length l.word;
  digits : all_ascii_digits (take l.at l.word) ≡ true;
}

abbrev pub decreases-digits : goal.decreases-digits
decreases-digits l = length l.word - l.at
