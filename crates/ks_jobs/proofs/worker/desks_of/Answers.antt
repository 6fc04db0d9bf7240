use Rattle.std.proofs.Common.{length, refl, arith, ap}
use Rattle.ks_jobs.proofs.Lists.{one_from}
use Rattle.ks_jobs.proofs.worker.desks_of.Goals as goal

pub push_reserved-requires : goal.push_reserved-requires
push_reserved-requires g c = let i = c.loop-worker.invariant in omega (arith, i.room, ap length c.in-Some.ensures.steps.0, c.loop-worker.desks.ok.0)

pub loop-worker-preserved : goal.loop-worker-preserved
loop-worker-preserved g c = let i = c.loop-worker.invariant in let taken = c.in-Some.ensures.steps.0 in let pushed = c.push_reserved.ensures.items in record {
  desks = one_from (λ w. w.desk) _ _ _ _ _ _ _ pushed refl taken i.desks;
  room = omega (arith, i.room, ap length taken, c.push_reserved.ensures.len, c.loop-worker.desks.ok.0, c.push_reserved.new.self.ok.0, c.push_reserved.ensures.capacity);
}
