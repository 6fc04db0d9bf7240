use Rattle.ks_script.proofs.Common.{◌≤◌, ◌+◌, length}
use Rattle.ks_script.proofs.Saids.{PartsRead}
use Rattle.ks_script.proofs.scan_lines.scan_said.Given as goal

abbrev pub invariant-parts : goal.invariant-parts
invariant-parts l = record {
  read : PartsRead l.low l.last l.most l.parts.items l.next l.bytes l.rest;
  within : l.next ≤ l.last;
  shorter : length l.rest + length l.parts.items ≤ length l.bytes;
}

abbrev pub decreases-parts : goal.decreases-parts
decreases-parts l = length l.rest
