use Rattle.ks_script.proofs.Common.{length, ap, arith, length-append}
use Rattle.std.proofs.lemmas.Fmt.{length-decimal-le_wide}
use Rattle.ks_script.proofs.ending.Ending.number.Goals as goal

pub digits-requires : goal.digits-requires
digits-requires c = omega (arith, length-decimal-le_wide 20 c.args.number (omega arith) (omega arith) (omega arith))

pub returns-clause-long : goal.returns-clause-long
returns-clause-long c = omega (arith, length-decimal-le_wide 20 c.args.number (omega arith) (omega arith) (omega arith), simp length-append at (ap length c.digits.ensures))
