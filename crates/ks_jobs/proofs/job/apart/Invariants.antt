use Rattle.std.proofs.Common.{◌≡◌, ◌++◌, map, All}
use Rattle.ks_script.specs.Plain.{IsPrintable}
use Rattle.ks_jobs.proofs.job.apart.Given as goal

abbrev pub invariant-loop-job : goal.invariant-loop-job
invariant-loop-job g l = record {
  passes : l.passes.items ++ map (λ j. j.pass) l.job-iterator.rest.items ≡ map (λ j. j.pass) l.fn.jobs.items;
  replies : l.replies.items ++ map (λ j. j.said.items) l.job-iterator.rest.items ≡ map (λ j. j.said.items) l.fn.jobs.items;
  plain : All (λ job. All IsPrintable job.said.items) l.job-iterator.rest.items;
}
