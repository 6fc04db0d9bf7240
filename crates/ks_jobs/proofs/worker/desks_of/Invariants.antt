use Rattle.std.proofs.Common.{◌≡◌, ◌≤◌, ◌+◌, ◌++◌, map, length}
use Rattle.std.specs.Prelude.{vec_capacity}
use Rattle.ks_jobs.proofs.worker.desks_of.Given as goal

abbrev pub invariant-loop-worker : goal.invariant-loop-worker
invariant-loop-worker g l = record {
  desks : l.desks.items ++ map (λ w. w.desk) l.worker-iterator.rest.items ≡ map (λ w. w.desk) l.fn.workers.items;
  room : length l.desks.items + length l.worker-iterator.rest.items ≤ vec_capacity l.desks;
}
