use Rattle.ks_script.proofs.Common.{◌≡◌, take}
use Rattle.ks_script.proofs.packed_calls.Calls.to_lines.Given as goal

abbrev pub invariant-loop-at : goal.invariant-loop-at
invariant-loop-at l = l.lines.items ≡ take l.at l.self
