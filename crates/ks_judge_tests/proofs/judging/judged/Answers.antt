use Rattle.ks_judge.specs.Laws.Counts.{script_few}
use Rattle.ks_judge_tests.proofs.judging.judged.Goals as goal

pub judge-requires-clause-few : goal.judge-requires-clause-few
judge-requires-clause-few c = let x = c.in-Ok.ensures.answer in script_few x.0 c.in-Ok.script c.in-Ok.printed.callers x.1.is_script x.1.is_run.answered
