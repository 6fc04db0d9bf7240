use Rattle.std.proofs.Common.{◌≡◌, length}
use Rattle.ks_judge.specs.Flat.{lines_said}
use Rattle.ks_judge.specs.Slots.{Notes, carriers_to}
use Rattle.ks_judge.proofs.slots.slots.Given as goal

abbrev pub invariant-loop-caller : goal.invariant-loop-caller
invariant-loop-caller l = record {
  count : length l.slots.items ≡ l.fn.count;
  notes : Notes (lines_said l.callers) l.slots.items (carriers_to (lines_said l.callers) l.caller 0);
}
