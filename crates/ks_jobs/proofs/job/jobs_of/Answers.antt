use Rattle.std.proofs.Common.{length, arith, ap}
use Rattle.ks_jobs.specs.Work.{HasRoom}
use Rattle.ks_jobs.proofs.Lists.{more_of, all_made, ended, all_more}
use Rattle.ks_jobs.proofs.job.jobs_of.Goals as goal

pub loop-pass-preserved : goal.loop-pass-preserved
loop-pass-preserved g c = let i = c.loop-pass.invariant in let s = c.in-Some.ensures.steps in record {
  passes = more_of (λ j. j.pass) _ _ _ _ _ _ c.in_ok-push.ensures.items s.0.0 i.passes;
  scripts = more_of (λ j. j.script) _ _ _ _ _ _ c.in_ok-push.ensures.items s.1.0 i.scripts;
  even = omega (arith, i.even, ap length s.0.0, ap length s.1.0);
  room = all_more (HasRoom c.args.scans) _ _ _ c.in_ok-push.ensures.items i.room (record {
    blank = c.in_ok-said.ensures.items;
    room = let a = c.in_ok-said.ensures.capacity in let b = c.len-in-loop-pass.ensures in omega arith;
    rooms = c.in_ok-rooms.ensures;
  });
}

pub returns-clause-passes : goal.returns-clause-passes
returns-clause-passes g c = let i = c.loop-pass.invariant in
    all_made _ _ _ (ended _ _ _ _ c.loop-pass.pass-iterator.a.rest.ok.0 c.loop-pass.pass-iterator.b.rest.ok.0 i.even c.in-None.ensures.steps).0 i.passes

pub returns-clause-scripts : goal.returns-clause-scripts
returns-clause-scripts g c = let i = c.loop-pass.invariant in
    all_made _ _ _ (ended _ _ _ _ c.loop-pass.pass-iterator.a.rest.ok.0 c.loop-pass.pass-iterator.b.rest.ok.0 i.even c.in-None.ensures.steps).1 i.scripts
