use Rattle.std.proofs.Common.{◌≡◌, ◌∙◌, ap}
use Rattle.std.proofs.lemmas.Result.{IfOk-weaker}
use Rattle.ks_judge.specs.Verdict.{IsJudgedRun}
use Rattle.ks_judge.specs.declared.judging.Judged.TheVariants as verdict
use Rattle.ks_judge_tests.proofs.Traced.{asks_of, traced}
use Rattle.ks_judge_tests.proofs.served.judged_by_law.Goals as goal

pub returns : goal.returns
returns c =
    let script = c.args.script.now in
    let run = c.args.printed.now in
    let a = asks_of script run.callers run.pairs c.requires.script c.requires.callers c.requires.pairs in
    IfOk-weaker c.judge.result (λ j. IsJudgedRun script run j) (λ j. j ≡ verdict.Legal 2)
    (λ j is. c.served_is_legal.ensures.judged script run traced j a.1 a.2 a.3 a.4 is ∙ ap (λ n. verdict.Legal n) a.0)
    c.judge.ensures
