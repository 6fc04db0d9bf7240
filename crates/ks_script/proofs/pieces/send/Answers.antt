use Rattle.ks_script.proofs.Common.{◌++◌, take, append_assoc, take-append-drop, arith}
use Rattle.ks_script.proofs.Putting.{grew_on, grew_written}
use Rattle.ks_script.proofs.pieces.send.Goals as goal

pub loop-rest-preserved : goal.loop-rest-preserved
loop-rest-preserved g c =
    let sent = c.loop-rest.invariant.sent in
    let rest = c.loop-rest.rest.now in
    let k = c.in_ok-count.count in
    record {
      sent = (sent.0 ++ take k rest, simp (sent.1, c.split_at.ensures.back, append_assoc, take-append-drop), grew_on _ _ _ sent.0 (take k rest) sent.2 (grew_written _ _ _ rest k c.in_ok-count.ensures.bytes));
      count = omega arith;
    }
