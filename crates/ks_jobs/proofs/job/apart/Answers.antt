use Rattle.std.proofs.Common.{All, refl}
use Rattle.ks_script.specs.Plain.{IsPrintable}
use Rattle.ks_jobs.proofs.Lists.{all_after, all_first, one_from}
use Rattle.ks_jobs.proofs.job.apart.Goals as goal

pub from_said-requires : goal.from_said-requires
from_said-requires g c = all_first (λ job. All IsPrintable job.said.items) _ _ _ c.in-Some.ensures.steps.0 c.loop-job.invariant.plain

pub loop-job-preserved : goal.loop-job-preserved
loop-job-preserved g c = let i = c.loop-job.invariant in let taken = c.in-Some.ensures.steps.0 in record {
  passes = one_from (λ j. j.pass) _ _ _ _ _ _ _ c.in_ok-push.ensures.items refl taken i.passes;
  replies = one_from (λ j. j.said.items) _ _ _ _ _ _ _ c.in_ok-push-2.ensures.items c.in_ok-from_said.ensures taken i.replies;
  plain = all_after (λ job. All IsPrintable job.said.items) _ _ _ taken i.plain;
}
