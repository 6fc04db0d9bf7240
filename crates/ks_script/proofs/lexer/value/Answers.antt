use Rattle.ks_script.proofs.Common.{◌∙◌, arith}
use Rattle.ks_script.proofs.Cuts.{if_none_any}
use Rattle.ks_script.proofs.Exact.{unspelled, begun_more, begun_spelled, begun_past}
use Rattle.ks_script.proofs.lexer.value.Goals as goal

pub returns-then-not-spells-clause-none : goal.returns-then-not-spells-clause-none
returns-then-not-spells-clause-none c = λ n rest small free e. unspelled c.args.bytes.now rest _ _ n c.sixteen-front.ensures (c.spells.ensures.none c.if-not-spells.true) small free e

pub returns-in_err-checked_mul-clause-none : goal.returns-in_err-checked_mul-clause-none
returns-in_err-checked_mul-clause-none c = if_none_any c.from_residual.result
    (λ n rest small free e. begun_past _ _ rest _ _ _ _ c.from.result n c.loop-count.invariant.begun c.loop-count-test.true c.sixteen-back.ensures (c.from.ensures ∙ c.power.ensures) (omega (arith, c.in_err-checked_mul.ensures)) small free e)

pub returns-in_err-number-clause-none : goal.returns-in_err-number-clause-none
returns-in_err-number-clause-none c = if_none_any c.from_residual-in_err-number.result
    (λ n rest small free e. begun_past _ _ rest _ _ _ _ c.from.result n c.loop-count.invariant.begun c.loop-count-test.true c.sixteen-back.ensures (c.from.ensures ∙ c.power.ensures) (omega (arith, c.in_err-number.ensures, c.in_ok-checked_mul.ensures, c.from-in-loop-count.ensures)) small free e)

pub loop-count-preserved : goal.loop-count-preserved
loop-count-preserved c = record {
  begun = begun_more _ _ _ _ _ _ _ c.from.result _ c.loop-count.invariant.begun c.loop-count-test.true c.sixteen-back.ensures (c.from.ensures ∙ c.power.ensures) (omega (arith, c.in_ok-number.ensures, c.in_ok-checked_mul.ensures, c.from-in-loop-count.ensures)) c.split_at-in-loop-count.ensures.back;
  fits = omega arith;
}

pub returns-clause-some : goal.returns-clause-some
returns-clause-some c = (begun_spelled _ _ _ _ c.loop-count.invariant.begun c.loop-count.invariant.fits, c.loop-count.invariant.begun.stops (omega arith))
