-- Bytes that are cut at a byte, and digits.
use Rattle.ks_script.proofs.Common.{ℕ, zero, suc, ◌≡◌, ◌^◌, ◌<◌, ◌⊎◌, Bool, true, false, cond, eqb, List, [], ◌∷◌, ◌++◌, length, get_or, refl, sym, ap, ◌∙◌, arith, inl, inr, Option, Some, None, MatchOption, IfSome, IfNone, false≢true, eqb-true, and_parts, eqb_tells, decimal, is_ascii_digit, all_ascii_digits, onto_first, lines_of, Lacks}
use Rattle.std.proofs.lemmas.Fmt.{decimal_digit}
use Rattle.ks_script.proofs.Numerals.{digits_of_number, no_zero_first}

-- the lines of a text, by its first byte
pub lines_cases : (b : ℕ) (bytes : List ℕ) → ((b ≡ 10) × (lines_of (b ∷ bytes) ≡ [] ∷ lines_of bytes)) ⊎ (lines_of (b ∷ bytes) ≡ onto_first b (lines_of bytes))
lines_cases b bytes =
    elim (eqb_tells b 10) [
      | inl same ↦ inl (same.1, ap (λ t. cond t ([] ∷ lines_of bytes) (onto_first b (lines_of bytes))) same.0)
      | inr other ↦ inr (ap (λ t. cond t ([] ∷ lines_of bytes) (onto_first b (lines_of bytes))) other.0)
    ]

lines_onto : (b : ℕ) (bytes : List ℕ) → (b ≡ 10 → ⊥) → lines_of (b ∷ bytes) ≡ onto_first b (lines_of bytes)
lines_onto b bytes apart = elim (lines_cases b bytes) [ inl same ↦ absurd (apart same.0) | inr other ↦ other ]

-- a line that ends, and the last line, which does not
pub lines_first : (line rest : List ℕ) → Lacks 10 line → lines_of (line ++ 10 ∷ rest) ≡ line ∷ lines_of rest
lines_first [] rest h = refl
lines_first (b ∷ line) rest h = lines_onto b (line ++ 10 ∷ rest) h.0 ∙ ap (onto_first b) (lines_first line rest h.1)

pub lines_last : (bytes : List ℕ) → 0 < length bytes → Lacks 10 bytes → lines_of bytes ≡ bytes ∷ []
lines_last [] h l = absurd (omega arith)
lines_last (b ∷ []) h l = lines_onto b [] l.0
lines_last (b ∷ d ∷ line) h l = lines_onto b (d ∷ line) l.0 ∙ ap (onto_first b) (lines_last (d ∷ line) (omega arith) l.1)

pub zero_first : (bytes : List ℕ) → get_or bytes 0 0 ≡ 48 → 1 < length bytes → (n : ℕ) → n < 2 ^ 128 → bytes ≡ decimal n → ⊥
zero_first bytes z h zero l e = omega (arith, ap length (e ∙ decimal_digit 0 (omega arith)))
zero_first bytes z h (suc n) l e = omega (arith, no_zero_first (suc n) (omega arith) l, ap (λ (x : List ℕ). get_or x 0 0) e)

pub some_of : {A : Type 0} (o : Option A) (P : Type 0) (Q : A → Type 0) → MatchOption o P Q → IfSome o Q
some_of None P Q h = tt
some_of (Some x) P Q h = h

pub none_of : {A : Type 0} (o : Option A) (P : Type 0) (Q : A → Type 0) → MatchOption o P Q → IfNone o P
none_of None P Q h = h
none_of (Some x) P Q h = tt

pub if_none_any : {A P : Type 0} (o : Option A) → P → IfNone o P
if_none_any None p = p
if_none_any (Some x) p = tt

pub is_empty_true : (n : ℕ) (r : Bool) → r ≡ eqb n 0 → r ≡ true → n ≡ 0
is_empty_true n r e t = eqb-true n 0 (sym e ∙ t)

pub is_empty_false : (n : ℕ) (r : Bool) → r ≡ eqb n 0 → r ≡ false → 0 < n
is_empty_false zero r e f = absurd (false≢true (sym f ∙ e))
is_empty_false (suc n) r e f = omega arith

-- digits are no spaces
pub digits_lack : (c : ℕ) → (is_ascii_digit c ≡ false) → (ds : List ℕ) → all_ascii_digits ds ≡ true → Lacks c ds
digits_lack c other [] h = tt
digits_lack c other (d ∷ ds) h =
    let parts = and_parts (is_ascii_digit d) (all_ascii_digits ds) h in
    ((λ e. false≢true (sym other ∙ (ap is_ascii_digit (sym e) ∙ parts.0))), digits_lack c other ds parts.1)

pub decimal_lacks : (c : ℕ) → is_ascii_digit c ≡ false → (n : ℕ) → n < 2 ^ 128 → Lacks c (decimal n)
decimal_lacks c other n l = digits_lack c other (decimal n) (digits_of_number n l)
