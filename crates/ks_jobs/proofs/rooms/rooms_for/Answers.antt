use Rattle.std.proofs.Common.{arith, subst}
use Rattle.ks_jobs.specs.Rooms.{IsReserved}
use Rattle.ks_jobs.proofs.Reserved.{one_line}
use Rattle.ks_jobs.proofs.rooms.rooms_for.Goals as goal

pub loop-left-preserved : goal.loop-left-preserved
loop-left-preserved c =
    let rooms = c.loop-left.rooms.items in
    let new = c.reserve.new.rooms.items in (
      omega (arith, c.loop-left.invariant.0),
      one_line _ _ _ rooms new c.loop-left-test.true c.loop-left.invariant.0 c.loop-left.invariant.1
          (subst (λ line. IsReserved line rooms new) c.get.ensures c.in_ok-reserve.ensures),
    )
