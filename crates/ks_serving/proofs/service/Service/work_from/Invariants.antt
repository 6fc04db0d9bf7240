use Rattle.std.proofs.Common.{◌-◌}
use Rattle.ks_tickets.specs.Clauses.{IsFree, IsSameDesk, draws_known, jobs_of}
use Rattle.ks_serving.proofs.service.Service.work_from.Given as goal

abbrev pub invariant-loop-ticket : goal.invariant-loop-ticket
invariant-loop-ticket g l = IsFree l.self.tickets.now l.worker.desk × IsSameDesk l.fn.worker.desk l.worker.desk

abbrev pub decreases-loop-ticket : goal.decreases-loop-ticket
decreases-loop-ticket g l = jobs_of l.self.tickets.now - draws_known l.worker.desk
