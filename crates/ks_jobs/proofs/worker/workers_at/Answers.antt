use Rattle.std.proofs.Common.{All, length, sym, ap, subst, arith, rules}
use Rattle.ks_tickets.specs.Clauses.{IsFree, IsSameDesk}
use Rattle.ks_jobs.specs.Beginning.{IsReady}
use Rattle.ks_jobs.proofs.Lists.{all_after, all_first, all_more, done_all, done_more, done_none, ended, has_drawn}
use Rattle.ks_jobs.proofs.worker.workers_at.Goals as goal

pub loop-desk-init : goal.loop-desk-init
loop-desk-init g c = record {
  done = done_none IsSameDesk (λ w. w.desk) _ _ _ (search rules) (search rules);
  free = subst (All (IsFree c.args.tickets.now)) (sym (search rules)) c.requires.free;
  ready = search rules;
  even = search rules;
  room = search rules;
}

pub draw-first-requires : goal.draw-first-requires
draw-first-requires g c = all_first (IsFree c.args.tickets.now) _ _ _ c.in-Some.ensures.steps.0.0 c.loop-desk.invariant.free

pub push_reserved-requires : goal.push_reserved-requires
push_reserved-requires g c = let i = c.loop-desk.invariant in omega (arith, i.room, ap length c.in-Some.ensures.steps.0.0, c.loop-desk.workers.ok.0)

pub loop-desk-preserved : goal.loop-desk-preserved
loop-desk-preserved g c = let i = c.loop-desk.invariant in let s = c.in-Some.ensures.steps in let pushed = c.push_reserved.ensures.items in let draw = c.draw-first.ensures in record {
  done = done_more IsSameDesk (λ w. w.desk) _ _ _ _ _ _ _ pushed s.0.0 draw.same i.done;
  free = all_after (IsFree c.args.tickets.now) _ _ _ s.0.0 i.free;
  ready = all_more (IsReady g.J.Ticketed.waits c.args.tickets.now) _ _ _ pushed i.ready (record { drawn = has_drawn g.J.Ticketed.waits c.args.tickets.now _ _ draw.busy draw.job draw.ended });
  even = omega (arith, i.even, ap length s.0.0, ap length s.1.0);
  room = omega (arith, i.room, ap length s.0.0, c.push_reserved.ensures.len, c.loop-desk.workers.ok.0, c.push_reserved.new.self.ok.0, c.push_reserved.ensures.capacity);
}

pub returns-clause-same : goal.returns-clause-same
returns-clause-same g c = let i = c.loop-desk.invariant in
    done_all IsSameDesk (λ w. w.desk) _ _ _ (ended _ _ _ _ c.loop-desk.desk-iterator.a.rest.ok.0 c.loop-desk.desk-iterator.b.rest.ok.0 i.even c.in-None.ensures.steps).0 i.done
