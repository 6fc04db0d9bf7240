use Rattle.ks_script.proofs.Common.{ℕ, ◌<◌, ◌∙◌, get_or, sym, take, arith, subst, digit_value, length-take-le, get_or-take}
use Rattle.std.specs.Int.{IsInRange}
use Rattle.std.proofs.lemmas.Str.{digit_value_digit}
use Rattle.std.proofs.lemmas.Str.Parse.{digit_at}
use Rattle.ks_script.proofs.Numerals.{own}
use Rattle.ks_script.proofs.Fronts.{worth_read, small_read}
use Rattle.ks_script.proofs.Eights.{eight_value}
use Rattle.ks_script.proofs.eight.eight.Goals as goal

pub returns : goal.returns
returns c =
    let bytes = c.args.bytes.now in
    let k = c.args.count in
    let digit = λ (i : ℕ) (lt : i < k). subst (λ (b : ℕ). IsInRange 48 57 b) (get_or-take k bytes i 0 lt) (digit_at (take k bytes) i (own.to _ c.requires.digits) (omega (arith, length-take-le k bytes))) in
    let is = λ (i : ℕ) (lt : i < k). digit_value_digit (get_or bytes i 0) (digit i lt) in
    let worth =
    worth_read bytes k (omega arith)
    ∙ sym (eight_value k (omega arith) (omega arith) (λ (i : ℕ). digit_value (get_or bytes i 0)) (λ (i : ℕ). get_or bytes i 0) c.first_word.ensures.bytes (λ i lt. omega (arith, is i lt)) (λ i lt. omega (arith, is i lt, digit i lt)) c.first_word.result c.first_word.ensures.value) in
    record { value = worth; small = subst (λ (n : ℕ). n < 100000000) worth (small_read 8 bytes k (omega arith) c.requires.digits) }
