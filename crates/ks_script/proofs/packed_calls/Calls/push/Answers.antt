use Rattle.ks_script.proofs.Common.{refl}
use Rattle.ks_script.proofs.Packing.{on_err, kept, one_more, all_more}
use Rattle.ks_script.proofs.packed_calls.Calls.push.Goals as goal

pub returns-in_err-small-clause-err : goal.returns-in_err-small-clause-err
returns-in_err-small-clause-err c = on_err c.from_residual.result (kept _ c.small_for.ensures.others c.self.invariant c.self.view_is refl)

pub returns-in_err-push-clause-err : goal.returns-in_err-push-clause-err
returns-in_err-push-clause-err c = on_err c.from_residual-in_err-push.result (kept _ c.small_for.ensures.others c.self.invariant c.self.view_is c.in_err-push.ensures.items)

pub invariant_of-self-2 : goal.invariant_of-self-2
invariant_of-self-2 c = all_more _ c.small_for.ensures.others c.self.invariant c.in_ok-push.ensures.items c.in_ok-small.ensures.fits

pub returns-clause-ok : goal.returns-clause-ok
returns-clause-ok c = one_more _ c.small_for.ensures.others c.self.invariant c.self.view_is c.in_ok-push.ensures.items c.in_ok-small.ensures.stands
