use Rattle.ks_script.proofs.Common.{◌≡◌, ◌+◌, ◌≤◌, length, map, sum_by, AllByRecursion, IsLineOf, line_text, parts_of, Reads}
use Rattle.ks_script.proofs.reader.calls.Given as goal

abbrev pub invariant-calls : goal.invariant-calls
invariant-calls l = record {
  each : AllByRecursion (IsLineOf l.version) l.calls;
  within : length l.calls ≤ l.room;
  parts : l.left + sum_by parts_of l.calls ≡ l.parts;
  reads : Reads (map line_text l.calls) l.bytes l.rest (length l.calls);
  shorter : length l.rest ≤ length l.bytes;
}

abbrev pub decreases-calls : goal.decreases-calls
decreases-calls l = length l.rest
