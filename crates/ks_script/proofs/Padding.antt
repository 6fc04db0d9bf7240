-- Numbers that are spelled 19 digits at a time.
use Rattle.ks_script.proofs.Common.{ℕ, zero, suc, ◌≡◌, ◌+◌, ◌-◌, ◌*◌, ◌/◌, ◌%◌, ◌^◌, ◌<◌, ◌≤◌, true, List, ◌++◌, length, refl, sym, ap, ◌∙◌, length-append, arith, replicate, length-replicate, get_or, get_or_append_left, all_ascii_digits, decimal, digits_value}
use Rattle.std.proofs.lemmas.Fmt.{length-decimal-le_wide}
use Rattle.ks_script.specs.Digits.{padded}
use Rattle.ks_script.proofs.Numerals.{digits_of_number, value_of_digits, some_digits, no_zero_first, digits_spelled, joined}
use Rattle.ks_script.proofs.Fronts.{all_append}

-- digits 0 before digits make the same number
zeros : (k : ℕ) (ds : List ℕ) → all_ascii_digits ds ≡ true → (all_ascii_digits (replicate k 48 ++ ds) ≡ true) × (digits_value 10 (replicate k 48 ++ ds) ≡ digits_value 10 ds)
zeros zero ds all = (all, refl)
zeros (suc k) ds all = zeros k ds all

pub length_padded : (k n : ℕ) → 0 < k → n < 10 ^ k → n < 10 ^ 64 → length (padded k n) ≡ k
length_padded k n some small fits = omega (arith, length-append (replicate (k - length (decimal n)) 48) (decimal n), length-replicate {A = ℕ} (k - length (decimal n)) 48, length-decimal-le_wide k n some small fits)

-- a number of 20 digits and more is spelled by the digits before the last 19, and these
pub cut_nineteen : (n : ℕ) → 10 ^ 19 ≤ n → n < 2 ^ 128 → decimal n ≡ decimal (n / 10 ^ 19) ++ padded 19 (n % 10 ^ 19)
cut_nineteen n many small =
    let h : ℕ = n / 10 ^ 19 in
    let l : ℕ = n % 10 ^ 19 in
    let front : List ℕ = decimal h in
    let end : List ℕ = padded 19 l in
    let high : h < 2 ^ 128 = omega arith in
    let low : l < 2 ^ 128 = omega arith in
    let some : 0 < length front = some_digits h high in
    let zero_free : 48 < get_or (front ++ end) 0 0 = omega (arith, get_or_append_left front end 0 0 some, no_zero_first h (omega arith) high) in
    let on = zeros (19 - length (decimal l)) (decimal l) (digits_of_number l low) in
    let sum : digits_value 10 (front ++ end) ≡ h * 10 ^ 19 + l =
    joined front end ∙ (λ i. value_of_digits h high i * 10 ^ length_padded 19 l (omega arith) (omega arith) (omega arith) i + (on.1 ∙ value_of_digits l low) i) in
    let is : digits_value 10 (front ++ end) ≡ n = omega (arith, sum) in
    ap decimal (sym is)
    ∙ digits_spelled (front ++ end) (all_append front end (digits_of_number h high) on.0) (omega (arith, length-append front end, some)) (λ z. absurd (omega (arith, zero_free, z))) (omega (arith, is))
