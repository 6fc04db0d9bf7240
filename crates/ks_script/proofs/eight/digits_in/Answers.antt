use Rattle.ks_script.proofs.Common.{ℕ, take, refl, cond, ltb, length-take-le}
use Rattle.std.proofs.lemmas.Simd.{zip2_splat}
use Rattle.ks_script.proofs.Lanes.{over, first_digits}
use Rattle.ks_script.proofs.eight.digits_in.Goals as goal

pub returns : goal.returns
returns c =
    let v = take 16 c.args.bytes.now in
    let long = length-take-le 16 c.args.bytes.now c.requires in
    first_digits c.args.bytes.now _ _ c.min.result c.requires c.type_inv.bytes (over (λ (a b : ℕ). cond (ltb a b) 255 0) 9 _ v long (zip2_splat _ v 16 48 long)) refl c.min.ensures
