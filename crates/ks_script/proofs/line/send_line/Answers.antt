use Rattle.ks_script.proofs.Common.{[], append_assoc, append-nil}
use Rattle.ks_script.proofs.Putting.{holds_none, puts_on, puts_as}
use Rattle.ks_script.proofs.line.send_line.Goals as goal

pub returns : goal.returns
returns g c =
    let puts = puts_as (puts_on (puts_on c.put.ensures c.put_one.ensures) c.put-2.ensures) (simp (append_assoc, append-nil)) in
    let takes = c.finish.ensures _ _ _ (puts.on _ _ [] (holds_none _ _ _ c.new-line.ensures.0 c.new-line.ensures.1)) in
    record { ok = takes.ok; front = takes.front; cause = takes.cause; count = takes.count }
