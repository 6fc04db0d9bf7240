use Rattle.ks_script.proofs.Common.{◌≡◌, ◌<◌, ◌≤◌, ◌-◌, true, take, length, all_ascii_digits, digits_value}
use Rattle.ks_script.proofs.numeral.one_by_one.Given as goal

abbrev pub invariant-digits : goal.invariant-digits
invariant-digits l = record {
  within : l.count ≤ length l.bytes;
  digits : all_ascii_digits (take l.count l.bytes) ≡ true;
  value : digits_value 10 (take l.count l.bytes) ≡ l.number;
  small : l.number < 10000000000000000;
}

abbrev pub decreases-digits : goal.decreases-digits
decreases-digits l = length l.bytes - l.count
