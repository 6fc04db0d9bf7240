use Rattle.std.proofs.Common.{◌≤◌, drop, length}
use Rattle.ks_jobs.specs.Rooms.{HaveRooms}
use Rattle.ks_jobs.proofs.rooms.rooms_for.Given as goal

abbrev pub invariant-loop-left : goal.invariant-loop-left
invariant-loop-left l = (l.left ≤ length l.script) × HaveRooms (drop l.left l.script) l.rooms.items

abbrev pub decreases-loop-left : goal.decreases-loop-left
decreases-loop-left l = l.left
