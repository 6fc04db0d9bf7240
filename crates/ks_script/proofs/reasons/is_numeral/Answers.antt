use Rattle.ks_script.proofs.Common.{ℕ, ◌≡◌, true, ◌∷◌, [], ◌&&◌, take, length, get_or, sym, ap, ◌∙◌, arith, take_more, take_all, false≢true, all_ascii_digits}
use Rattle.ks_script.proofs.Fronts.{all_append}
use Rattle.ks_script.proofs.Refusals.{digit_at, numeral_told}
use Rattle.ks_script.proofs.reasons.is_numeral.Goals as goal

pub returns-then-not-is_ascii_digit : goal.returns-then-not-is_ascii_digit
returns-then-not-is_ascii_digit c = (λ t. absurd (false≢true t), λ num. absurd (false≢true (sym c.if-not-is_ascii_digit.true ∙ (c.is_ascii_digit.ensures.value ∙ digit_at c.args.word.now c.digits.at num.digits c.digits-test.true))))

pub digits-preserved : goal.digits-preserved
digits-preserved c =
    let word = c.args.word.now in
    let at : ℕ = c.digits.at in
    let one : all_ascii_digits (get_or word at 0 ∷ []) ≡ true = ap (λ t. t && true) (sym c.is_ascii_digit.ensures.value ∙ c.if-not-is_ascii_digit.false) in
    record { within = omega arith; digits = ap all_ascii_digits (take_more word at 0 c.digits-test.true) ∙ all_append (take at word) (get_or word at 0 ∷ []) c.digits.invariant.digits one }

pub returns : goal.returns
returns c =
    let word = c.args.word.now in
    let at : ℕ = c.digits.at in
    let all : at ≡ length word = omega (arith, c.digits.invariant.within) in
    numeral_told word at c.spells.result all (ap all_ascii_digits (sym (take_all at word (omega (arith, c.digits-test.false)))) ∙ c.digits.invariant.digits) c.spells.ensures.some c.spells.ensures.lone c.spells.ensures.none
