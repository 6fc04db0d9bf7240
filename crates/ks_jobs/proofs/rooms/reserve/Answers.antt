use Rattle.std.proofs.Common.{arith}
use Rattle.ks_jobs.proofs.rooms.reserve.Goals as goal

pub returns-in_ok-push-in-Scan : goal.returns-in_ok-push-in-Scan
returns-in_ok-push-in-Scan c = rw c.in-Scan.is (c.in_ok-room-in-Scan.room, c.in_ok-push-in-Scan.ensures.items, (c.in_ok-room-in-Scan.ensures.items, omega (arith, c.in_ok-room-in-Scan.ensures.capacity)))
