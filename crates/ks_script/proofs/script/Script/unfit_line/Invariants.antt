use Rattle.ks_script.proofs.Common.{◌≡◌, ◌+◌, length, take, script_lines, All, IsServedLine}
use Rattle.ks_script.proofs.script.Script.unfit_line.Given as goal

abbrev pub invariant-loop-calls : goal.invariant-loop-calls
invariant-loop-calls l = record {
  caller : l.caller ≡ 2 + length (script_lines (take l.calls-index l.self));
  served : All (All (IsServedLine l.scans l.moves)) (take l.calls-index l.self);
}
