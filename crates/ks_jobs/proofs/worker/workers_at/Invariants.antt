use Rattle.std.proofs.Common.{◌≡◌, ◌≤◌, ◌+◌, length, All}
use Rattle.std.specs.Prelude.{vec_capacity}
use Rattle.ks_tickets.specs.Clauses.{IsFree, IsSameDesk}
use Rattle.ks_jobs.specs.Beginning.{IsReady}
use Rattle.ks_jobs.proofs.Lists.{Done}
use Rattle.ks_jobs.proofs.worker.workers_at.Given as goal

abbrev pub invariant-loop-desk : goal.invariant-loop-desk
invariant-loop-desk g l = record {
  done : Done IsSameDesk (λ w. w.desk) l.fn.desks.items l.desk-iterator.a.rest.items l.workers.items;
  free : All (IsFree l.tickets) l.desk-iterator.a.rest.items;
  ready : All (IsReady g.J.Ticketed.waits l.tickets) l.workers.items;
  even : length l.desk-iterator.a.rest.items ≡ length l.desk-iterator.b.rest.items;
  room : length l.workers.items + length l.desk-iterator.a.rest.items ≤ vec_capacity l.workers;
}
