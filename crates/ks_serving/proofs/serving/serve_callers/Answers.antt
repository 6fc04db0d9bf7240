use Rattle.std.proofs.lemmas.Result.{IfOk-weaker}
use Rattle.ks_serving.proofs.serving.serve_callers.Goals as goal

pub returns-clause-served : goal.returns-clause-served
returns-clause-served g c =
    IfOk-weaker c.tell-2.result _ _ (λ told so. so c.args.script c.in_ok-ended-2.ensures.answered c.in_ok-ended-2.ensures.called) c.tell-2.ensures.served
