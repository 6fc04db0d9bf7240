use Rattle.std.proofs.Common.{◌≡◌, ◌++◌, map, length, All}
use Rattle.ks_jobs.specs.Work.{HasRoom}
use Rattle.ks_jobs.proofs.job.jobs_of.Given as goal

abbrev pub invariant-loop-pass : goal.invariant-loop-pass
invariant-loop-pass g l = record {
  passes : map (λ j. j.pass) l.jobs.items ++ l.pass-iterator.a.rest.items ≡ l.fn.passes.items;
  scripts : map (λ j. j.script) l.jobs.items ++ l.pass-iterator.b.rest.items ≡ l.fn.script;
  even : length l.pass-iterator.a.rest.items ≡ length l.pass-iterator.b.rest.items;
  room : All (HasRoom l.scans) l.jobs.items;
}
