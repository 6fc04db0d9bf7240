use Rattle.std.proofs.Common.{refl}
use Rattle.ks_ends.proofs.input.checked.Goals as goal

pub returns-in-Err-Refused-clause-refused : goal.returns-in-Err-Refused-clause-refused
returns-in-Err-Refused-clause-refused c = (rw c.in-Err-Refused.field-0-is at c.in-Err-Refused.ensures.answer, refl, rw c.in-Err-Refused.field-0-is at c.in-Err-Refused.ensures.why)
