use Rattle.ks_script.proofs.Common.{◌%◌, ◌^◌, ℕ, length, ap, append_assoc, arith, length-append}
use Rattle.std.proofs.lemmas.Fmt.{length-decimal-le_wide}
use Rattle.ks_script.proofs.Padding.{cut_nineteen, length_padded}
use Rattle.ks_script.proofs.ending.Ending.value.Goals as goal

pub nineteen-requires-clause-room : goal.nineteen-requires-clause-room
nineteen-requires-clause-room c =
    let l = c.loop-left in
    let cut = cut_nineteen l.left (omega arith) l.auto.left-fits.fits in
    let long = length_padded 19 (l.left % 10 ^ 19) (omega arith) (omega arith) (omega arith) in
    omega (arith, length-append {A = ℕ}, ap length cut, ap length l.invariant, length-decimal-le_wide 39 c.args.value (omega arith) (omega arith) (omega arith))

pub loop-left-preserved : goal.loop-left-preserved
loop-left-preserved c =
    let l = c.loop-left in
    rw (c.nineteen.ensures, ← append_assoc, ← cut_nineteen l.left (omega arith) l.auto.left-fits.fits) l.invariant

pub digits-requires : goal.digits-requires
digits-requires c = omega (arith, simp length-append at (ap length c.loop-left.invariant), length-decimal-le_wide 39 c.args.value (omega arith) (omega arith) (omega arith))

pub returns-clause-long : goal.returns-clause-long
returns-clause-long c =
    omega (arith, simp length-append at (ap length c.loop-left.invariant), simp length-append at (ap length c.digits.ensures), length-decimal-le_wide 39 c.args.value (omega arith) (omega arith) (omega arith))
