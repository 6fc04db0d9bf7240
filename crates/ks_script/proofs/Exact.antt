-- Numbers that bytes begin with, exactly: no digit follows them.
use Rattle.ks_script.proofs.Common.{ℕ, ◌≡◌, ◌+◌, ◌*◌, ◌^◌, ◌<◌, ◌≤◌, ◌⊎◌, true, List, [], ◌∷◌, ◌++◌, length, take, drop, get_or, refl, sym, ap, subst, ◌∙◌, arith, length-append, inl, inr, take-append-drop, length-take-le, get_or_append_left, get_or-take, false≢true, and_parts, decimal, is_ascii_digit, all_ascii_digits, digits_value, NoDigit, append_assoc}
use Rattle.ks_script.specs.Numeral.{Sixteen}
use Rattle.ks_script.proofs.Numerals.{digits_of_number, value_of_digits, some_digits, digits_spelled, value_append, least_after}
use Rattle.ks_script.proofs.Cuts.{zero_first}
use Rattle.ks_script.proofs.Fronts.{all_append, value_more}

-- digits with no digit after them, where other digits are the first ones: these are the first ones of those
pub record GoesOn (a x b y : List ℕ) : Type 0 where
  pub more : List ℕ
  pub are : all_ascii_digits more ≡ true
  pub whole : b ≡ a ++ more
  pub rest : x ≡ more ++ y

pub goes_on : (a x b y : List ℕ) → all_ascii_digits a ≡ true → all_ascii_digits b ≡ true → NoDigit y → a ++ x ≡ b ++ y → GoesOn a x b y
goes_on [] x b y da db free e = record { more = b; are = db; whole = refl; rest = e }
goes_on (c ∷ a) x [] y da db free e = absurd (false≢true (sym (subst NoDigit (sym e) free) ∙ (and_parts (is_ascii_digit c) (all_ascii_digits a) da).0))
goes_on (c ∷ a) x (d ∷ b) y da db free e =
    let tails : a ++ x ≡ b ++ y = cc in
    let heads : c ≡ d = cc in
    let h = goes_on a x b y (and_parts (is_ascii_digit c) (all_ascii_digits a) da).1 (and_parts (is_ascii_digit d) (all_ascii_digits b) db).1 free tails in
    record { more = h.more; are = h.are; whole = (λ i. sym heads i ∷ h.whole i); rest = h.rest }

-- the bytes are digits that spell the number, and then the rest; of the digits `count` were read last
pub record Begun (bytes : List ℕ) (number count : ℕ) (rest : List ℕ) : Type 0 where
  pub digits : List ℕ
  pub are : all_ascii_digits digits ≡ true
  pub parts : bytes ≡ digits ++ rest
  pub value : digits_value 10 digits ≡ number
  pub some : 0 < length digits
  pub lone : get_or digits 0 0 ≡ 48 → length digits ≡ 1
  pub many : count ≡ 16 → 16 ≤ length digits
  pub most : count ≤ 16
  pub stops : count < 16 → NoDigit rest

-- the first digits, and more
pub begun : (bytes rest : List ℕ) (number count : ℕ) → Sixteen bytes number count → 0 < count → (get_or bytes 0 0 ≡ 48 → count ≡ 1) → rest ≡ drop count bytes → Begun bytes number count rest
begun bytes rest number count s some lone end =
    let long = length-take-le count bytes s.within in
    record {
      digits = take count bytes;
      are = s.digits;
      parts = sym (take-append-drop count bytes) ∙ ap (λ (x : List ℕ). take count bytes ++ x) (sym end);
      value = s.value;
      some = omega arith;
      lone = λ z. long ∙ lone (sym (get_or-take count bytes 0 0 some) ∙ z);
      many = λ l. omega arith;
      most = s.most;
      stops = λ l. subst NoDigit (sym end) (s.stops l);
    }

pub begun_more : (bytes mid rest : List ℕ) (number count more back p sum : ℕ) → Begun bytes number count mid → count ≡ 16 → Sixteen mid back more → p ≡ 10 ^ more → sum ≡ number * p + back → rest ≡ drop more mid → Begun bytes sum more rest
begun_more bytes mid rest number count more back p sum b all s power is end =
    let many = b.many all in
    let long = length-append b.digits (take more mid) in
    record {
      digits = b.digits ++ take more mid;
      are = all_append b.digits (take more mid) b.are s.digits;
      parts = b.parts ∙ (ap (λ (x : List ℕ). b.digits ++ x) (sym (take-append-drop more mid) ∙ ap (λ (x : List ℕ). take more mid ++ x) (sym end)) ∙ sym (append_assoc b.digits (take more mid) rest));
      value = value_more b.digits mid more number back p s.within b.value s.value power ∙ sym is;
      some = omega arith;
      lone = λ z. absurd (omega (arith, b.lone (sym (get_or_append_left b.digits (take more mid) 0 0 b.some) ∙ z)));
      many = λ l. omega arith;
      most = s.most;
      stops = λ l. subst NoDigit (sym end) (s.stops l);
    }

-- they are the digits of the number, and of no number less
pub begun_spelled : (bytes rest : List ℕ) (number count : ℕ) → Begun bytes number count rest → number < 2 ^ 128 → bytes ≡ decimal number ++ rest
begun_spelled bytes rest number count b small =
    b.parts ∙ ap (λ (x : List ℕ). x ++ rest) (sym (digits_spelled b.digits b.are b.some b.lone (omega (arith, b.value))) ∙ ap decimal b.value)

begun_least : (bytes mid rest : List ℕ) (number count n : ℕ) → Begun bytes number count mid → n < 2 ^ 128 → NoDigit rest → bytes ≡ decimal n ++ rest → number ≤ n
begun_least bytes mid rest number count n b small free e =
    let g = goes_on b.digits mid (decimal n) rest b.are (digits_of_number n small) free (sym b.parts ∙ e) in
    omega (arith, b.value, sym (ap (digits_value 10) g.whole) ∙ value_of_digits n small, value_append 0 b.digits g.more, least_after (digits_value 10 b.digits) g.more)

pub begun_past : (bytes mid rest : List ℕ) (number count more back p n : ℕ) → Begun bytes number count mid → count ≡ 16 → Sixteen mid back more → p ≡ 10 ^ more → 2 ^ 128 ≤ number * p + back → n < 2 ^ 128 → NoDigit rest → bytes ≡ decimal n ++ rest → ⊥
begun_past bytes mid rest number count more back p n b all s power past small free e =
    omega (arith, begun_least bytes (drop more mid) rest (number * p + back) more n (begun_more bytes mid (drop more mid) number count more back p (number * p + back) b all s power refl refl) small free e)

starts : (ds rest : List ℕ) → 0 < length ds → all_ascii_digits ds ≡ true → NoDigit (ds ++ rest) → ⊥
starts [] rest some all free = absurd (omega arith)
starts (d ∷ ds) rest some all free = false≢true (sym free ∙ (and_parts (is_ascii_digit d) (all_ascii_digits ds) all).0)

pub no_number : (n : ℕ) (bytes rest : List ℕ) → n < 2 ^ 128 → NoDigit bytes → bytes ≡ decimal n ++ rest → ⊥
no_number n bytes rest small free e = starts (decimal n) rest (some_digits n small) (digits_of_number n small) (subst NoDigit e free)

-- no number is spelled where no digit is, or one is behind a 0
pub unspelled : (bytes rest : List ℕ) (number count n : ℕ) → Sixteen bytes number count → (count ≡ 0) ⊎ ((get_or bytes 0 0 ≡ 48) × (1 < count)) → n < 2 ^ 128 → NoDigit rest → bytes ≡ decimal n ++ rest → ⊥
unspelled bytes rest number count n s which small free e =
    elim which [
      | inl none ↦ no_number n bytes rest small (subst (λ (k : ℕ). NoDigit (drop k bytes)) none (s.stops (omega arith))) e
      | inr lead ↦
          (let ds : List ℕ = take count bytes in
          let long : length ds ≡ count = length-take-le count bytes s.within in
          let g = goes_on ds (drop count bytes) (decimal n) rest s.digits (digits_of_number n small) free (take-append-drop count bytes ∙ e) in
          let many = lead.1 in
          zero_first (decimal n) (ap (λ (x : List ℕ). get_or x 0 0) g.whole ∙ (get_or_append_left ds g.more 0 0 (omega arith) ∙ (get_or-take count bytes 0 0 (omega arith) ∙ lead.0))) (omega (arith, ap length g.whole, length-append ds g.more)) n small refl)
    ]
