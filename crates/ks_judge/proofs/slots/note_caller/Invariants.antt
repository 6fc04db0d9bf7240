use Rattle.std.proofs.Common.{length, take}
use Rattle.ks_judge.specs.Flat.{replies_all, lines_said}
use Rattle.ks_judge.specs.Slots.{Notes, carriers_to}
use Rattle.ks_judge.proofs.slots.note_caller.Given as goal

abbrev pub invariant-loop-at : goal.invariant-loop-at
invariant-loop-at l = Notes (lines_said l.callers) l.slots (carriers_to (lines_said l.callers) l.caller (length (replies_all (take l.at l.said))))
