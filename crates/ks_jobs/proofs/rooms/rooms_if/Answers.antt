use Rattle.ks_jobs.proofs.Reserved.{none_needed}
use Rattle.ks_jobs.proofs.rooms.rooms_if.Goals as goal

pub returns-then-not-scans : goal.returns-then-not-scans
returns-then-not-scans c = λ served. none_needed c.args.script.now c.new.result.items (rw c.if-not-scans.true at served)
