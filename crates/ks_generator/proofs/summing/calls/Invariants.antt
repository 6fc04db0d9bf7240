use Rattle.std.proofs.Common.{◌≡◌, ◌≤◌, ◌*◌, ◌^◌, take}
use Rattle.ks_script.specs.Script.{calls_in}
use Rattle.ks_generator.proofs.summing.calls.Given as goal

abbrev pub invariant-loop-lines : goal.invariant-loop-lines
invariant-loop-lines l = record {
  total : l.total ≡ calls_in (take l.lines-index l.callers);
  bound : l.total ≤ l.lines-index * 2 ^ 64;
}
