-- Digits that bytes begin with.
use Rattle.ks_script.proofs.Common.{ℕ, zero, suc, ◌≡◌, ◌+◌, ◌*◌, ◌^◌, ◌<◌, ◌≤◌, true, ◌&&◌, List, [], ◌∷◌, ◌++◌, length, take, drop, get_or, refl, sym, ap, ◌∙◌, arith, length-take-le, length-take, and_parts, is_ascii_digit, digit_value, all_ascii_digits, digits_value}
use Rattle.std.proofs.Math.Bool.{and_assoc}
use Rattle.std.proofs.Math.Seq.{take-add}
use Rattle.std.proofs.lemmas.Int.Digits.{digits_value_more}
use Rattle.std.proofs.lemmas.Str.Parse.{digits_value_short}
use Rattle.ks_script.proofs.Numerals.{own, joined}
use Rattle.ks_script.proofs.Eights.{worth}

digits_append : (a b : List ℕ) → all_ascii_digits (a ++ b) ≡ (all_ascii_digits a && all_ascii_digits b)
digits_append [] b = refl
digits_append (c ∷ a) b = ap (λ t. is_ascii_digit c && t) (digits_append a b) ∙ sym (and_assoc (is_ascii_digit c) (all_ascii_digits a) (all_ascii_digits b))

pub all_append : (a b : List ℕ) → all_ascii_digits a ≡ true → all_ascii_digits b ≡ true → all_ascii_digits (a ++ b) ≡ true
all_append a b h k = digits_append a b ∙ rw h k

-- k digits are worth what their bytes are
pub worth_read : (bytes : List ℕ) (k : ℕ) → k ≤ length bytes → digits_value 10 (take k bytes) ≡ worth (λ i. digit_value (get_or bytes i 0)) k
worth_read bytes zero le = refl
worth_read bytes (suc k) le =
    ap (λ (n : ℕ). digits_value 10 (take n bytes)) (let e : suc k ≡ k + 1 = omega arith in e)
    ∙ (digits_value_more 10 bytes k (omega arith) ∙ ap (λ (n : ℕ). n * 10 + digit_value (get_or bytes k 0)) (worth_read bytes k (omega arith)))

-- k digits make a number below the power of ten
pub small_read : (most : ℕ) (bytes : List ℕ) (k : ℕ) → k ≤ most → all_ascii_digits (take k bytes) ≡ true → digits_value 10 (take k bytes) < 10 ^ most
small_read most bytes k le all = digits_value_short own (take k bytes) most all (omega (arith, length-take k bytes))

-- digits, and then k more
pub value_more : (a bytes : List ℕ) (k v b p : ℕ) → k ≤ length bytes → digits_value 10 a ≡ v → digits_value 10 (take k bytes) ≡ b → p ≡ 10 ^ k → digits_value 10 (a ++ take k bytes) ≡ v * p + b
value_more a bytes k v b p le front back power = rw (front, back, length-take-le k bytes le, ← power) at (joined a (take k bytes))

-- i digits, and then j more
pub parts : (bytes : List ℕ) (i j count : ℕ) → count ≡ i + j → take count bytes ≡ take i bytes ++ take j (drop i bytes)
parts bytes i j count e = ap (λ (k : ℕ). take k bytes) e ∙ take-add i j bytes

pub digits_parts : (bytes : List ℕ) (i j count : ℕ) → count ≡ i + j → all_ascii_digits (take count bytes) ≡ true → (all_ascii_digits (take i bytes) ≡ true) × (all_ascii_digits (take j (drop i bytes)) ≡ true)
digits_parts bytes i j count e all = and_parts _ _ (sym (digits_append (take i bytes) (take j (drop i bytes))) ∙ (sym (ap all_ascii_digits (parts bytes i j count e)) ∙ all))
