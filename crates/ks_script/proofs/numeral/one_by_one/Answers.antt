use Rattle.ks_script.proofs.Common.{ℕ, ◌≡◌, true, [], ◌∷◌, ◌&&◌, ◌*◌, ◌+◌, ◌∙◌, take, get_or, arith, ap, sym, take_more, all_ascii_digits, digits_value}
use Rattle.std.proofs.lemmas.Int.Digits.{digits_value_more}
use Rattle.std.proofs.lemmas.Str.{digit_value_digit}
use Rattle.std.proofs.lemmas.Str.Parse.{digit_from_value}
use Rattle.ks_script.proofs.Numerals.{own}
use Rattle.ks_script.proofs.Fronts.{all_append, small_read}
use Rattle.ks_script.proofs.numeral.one_by_one.Goals as goal

pub digits-preserved : goal.digits-preserved
digits-preserved c =
    let bytes = c.args.bytes.now in
    let i : ℕ = c.digits.count in
    let b : ℕ = get_or bytes i 0 in
    let one : all_ascii_digits (b ∷ []) ≡ true = ap (λ t. t && true) (sym c.is_ascii_digit.ensures.value ∙ c.if-not-is_ascii_digit.false) in
    let all = ap all_ascii_digits (take_more bytes i 0 c.digits-test.true) ∙ all_append (take i bytes) (b ∷ []) c.digits.invariant.digits one in
    let value : digits_value 10 (take (i + 1) bytes) ≡ c.digits.number * 10 + c.from.result = digits_value_more 10 bytes i c.digits-test.true ∙ omega (arith, digit_value_digit b (digit_from_value b (own.to (b ∷ []) one).0), c.digits.invariant.value, c.from.ensures) in
    record { within = omega arith; digits = all; value = value; small = omega (arith, value, small_read 16 bytes (i + 1) (omega arith) all) }
