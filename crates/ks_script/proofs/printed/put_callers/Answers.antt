use Rattle.ks_script.proofs.Common.{ℕ, ◌+◌, drop, arith, text_of, callers_from}
use Rattle.ks_script.proofs.Texts.{one_caller, text_append}
use Rattle.ks_script.proofs.Putting.{puts_none, owes_as, owes_more, owes_next, owes_last}
use Rattle.ks_script.proofs.printed.put_callers.Goals as goal

pub loop-number-preserved : goal.loop-number-preserved
loop-number-preserved g c =
    let i : ℕ = c.loop-number.number in
    let callers = c.args.callers.now in
    let x = c.index-callers-number.result in
    owes_more c.put_caller.ensures (owes_as (owes_next (λ cs. text_of (callers_from i cs)) callers i x x c.loop-number-test.true c.index-callers-number.is c.loop-number.invariant) (text_append (one_caller i x) (callers_from (i + 1) (drop (i + 1) callers))))

pub returns : goal.returns
returns g c = owes_last (λ cs. text_of (callers_from c.loop-number.number cs)) c.args.callers.now c.loop-number.number (omega arith) c.loop-number.invariant puts_none
