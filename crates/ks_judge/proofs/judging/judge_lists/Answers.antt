use Rattle.std.proofs.Common.{◌∙◌, arith}
use Rattle.ks_judge.proofs.Flat.{as_many}
use Rattle.ks_judge.proofs.judging.judge_lists.Goals as goal

pub count-counted-requires : goal.count-counted-requires
count-counted-requires c = let many = as_many c.args.callers.now c.args.said.now c.requires.answered in omega (arith, many, c.requires.few)

pub judge_on-requires-clause-count : goal.judge_on-requires-clause-count
judge_on-requires-clause-count c = c.count-counted.ensures.calls ∙ as_many c.args.callers.now c.args.said.now c.requires.answered

pub judge_on-requires-2-clause-count : goal.judge_on-requires-2-clause-count
judge_on-requires-2-clause-count c = c.count-counted.ensures.calls ∙ as_many c.args.callers.now c.args.said.now c.requires.answered
