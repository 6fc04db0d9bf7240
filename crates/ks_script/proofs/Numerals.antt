-- Numbers below 2 ^ 128 and their digits.
use Rattle.ks_script.proofs.Common.{ℕ, ◌≡◌, ◌+◌, ◌*◌, ◌/◌, ◌%◌, ◌^◌, ◌<◌, ◌≤◌, true, List, [], ◌∷◌, ◌++◌, length, get_or, refl, sym, ap, ◌∙◌, append_assoc, append-nil, length-append, arith, get_or_append_left, decimal, digit_value, all_ascii_digits, AllDigits, digits_value, digits_value_after}
use Rattle.std.proofs.Math.Nat.{pow-succ'}
use Rattle.std.proofs.lemmas.Str.Parse.{IsNumeralModel, numerals_by_value, tells_all_ascii_digits, digit_from_value}
use Rattle.std.proofs.lemmas.Str.{digit_value_digit}
use Rattle.std.proofs.lemmas.Fmt.{decimal_is_IsNumeral_wide, decimal_by_steps_wide, decimal_step_wide, decimal_digit}

pub own : IsNumeralModel (λ ds. all_ascii_digits ds ≡ true) (digits_value 10)
own = numerals_by_value _ tells_all_ascii_digits

short : (n : ℕ) → n < 2 ^ 128 → n < 10 ^ 64
short n h = omega arith

pub wide : (n : ℕ) → n < 2 ^ 64 → n < 2 ^ 128
wide n h = omega arith

pub digits_of_number : (n : ℕ) → n < 2 ^ 128 → all_ascii_digits (decimal n) ≡ true
digits_of_number n h = own.from (decimal n) (decimal_is_IsNumeral_wide n (short n h)).0.1

pub value_of_digits : (n : ℕ) → n < 2 ^ 128 → digits_value 10 (decimal n) ≡ n
value_of_digits n h = (decimal_is_IsNumeral_wide n (short n h)).1

pub some_digits : (n : ℕ) → n < 2 ^ 128 → 0 < length (decimal n)
some_digits n h = (decimal_is_IsNumeral_wide n (short n h)).0.0

pub no_zero_first : (n : ℕ) → 0 < n → n < 2 ^ 128 → 48 < get_or (decimal n) 0 0
no_zero_first n some small = (decimal_by_steps_wide (λ m ds. (0 < length ds) × (0 < m → 48 < get_or ds 0 0)) (λ m l. (omega arith, λ a. omega arith))
    (λ m ds l h. (omega (arith, length-append ds ((48 + m % 10) ∷ [])), λ a. omega (arith, get_or_append_left ds ((48 + m % 10) ∷ []) 0 0 h.0, h.1 (omega arith)))) n (short n small)).1 some

pub one_number : (m n : ℕ) → m < 2 ^ 128 → n < 2 ^ 128 → decimal m ≡ decimal n → m ≡ n
one_number m n h k e = sym (value_of_digits m h) ∙ (ap (digits_value 10) e ∙ value_of_digits n k)

-- digits after a number, and after digits

pub least_after : (n : ℕ) (ds : List ℕ) → n ≤ digits_value_after 10 n ds
least_after n [] = omega arith
least_after n (c ∷ cs) = omega (arith, least_after (n * 10 + digit_value c) cs)

pub value_append : (n : ℕ) (a b : List ℕ) → digits_value_after 10 n (a ++ b) ≡ digits_value_after 10 (digits_value_after 10 n a) b
value_append n [] b = refl
value_append n (c ∷ a) b = value_append (n * 10 + digit_value c) a b

value_after : (n : ℕ) (ds : List ℕ) → digits_value_after 10 n ds ≡ n * 10 ^ length ds + digits_value 10 ds
value_after n [] = omega arith
value_after n (c ∷ cs) = sums (digit_value c) (10 ^ length cs) (digits_value 10 cs) (pow-succ' 10 (length cs)) (value_after (n * 10 + digit_value c) cs) (value_after (0 * 10 + digit_value c) cs)
  where
    sums : (d p z : ℕ) {q x y : ℕ} → q ≡ 10 * p → x ≡ (n * 10 + d) * p + z → y ≡ (0 * 10 + d) * p + z → x ≡ n * q + y
    sums d p z e f g = rw (e, f, g) (grind arith)

pub joined : (a b : List ℕ) → digits_value 10 (a ++ b) ≡ digits_value 10 a * 10 ^ length b + digits_value 10 b
joined a b = value_append 0 a b ∙ value_after (digits_value 10 a) b

-- digits with no zero in front, or just `0`, are those of their value

spelled_after : (n : ℕ) (ds : List ℕ) → (0 < length ds → 0 < n) → AllDigits 10 ds → digits_value_after 10 n ds < 10 ^ 64 → decimal (digits_value_after 10 n ds) ≡ decimal n ++ ds
spelled_after n [] some d small = sym (append-nil (decimal n))
spelled_after n (c ∷ cs) some d small =
    let m : ℕ = n * 10 + digit_value c in
    let k = digit_value_digit c (digit_from_value c d.0) in
    let more : 0 < n = some (omega arith) in
    let front : m / 10 ≡ n = omega (arith, d.0) in
    let end : 48 + m % 10 ≡ c = omega (arith, d.0) in
    spelled_after m cs (λ l. omega arith) d.1 small
    ∙ (ap (λ x. x ++ cs) (decimal_step_wide m (omega arith) (omega (arith, least_after m cs)) ∙ (λ i. decimal (front i) ++ (end i ∷ [])))
    ∙ append_assoc (decimal n) (c ∷ []) cs)

spelled : (ds : List ℕ) → AllDigits 10 ds → 0 < length ds → (get_or ds 0 0 ≡ 48 → length ds ≡ 1) → digits_value 10 ds < 10 ^ 64 → decimal (digits_value 10 ds) ≡ ds
spelled [] d some lead small = absurd (omega arith)
spelled (c ∷ cs) d some lead small =
    let k = digit_value_digit c (digit_from_value c d.0) in
    let is : 48 + (0 * 10 + digit_value c) ≡ c = omega arith in
    let first : 0 < length cs → c ≡ 48 → ⊥ = λ l z. omega (arith, lead z) in
    spelled_after (0 * 10 + digit_value c) cs (λ l. omega (arith, first l)) d.1 small
    ∙ ap (λ x. x ++ cs) (decimal_digit (0 * 10 + digit_value c) (omega (arith, d.0)) ∙ ap (λ x. x ∷ []) is)

pub digits_spelled : (ds : List ℕ) → all_ascii_digits ds ≡ true → 0 < length ds → (get_or ds 0 0 ≡ 48 → length ds ≡ 1) → digits_value 10 ds < 2 ^ 128 → decimal (digits_value 10 ds) ≡ ds
digits_spelled ds p some lead small = spelled ds (own.to ds p) some lead (short (digits_value 10 ds) small)
