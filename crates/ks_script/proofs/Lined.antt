-- Lines that bytes begin with.
use Rattle.ks_script.proofs.Common.{ℕ, ◌≡◌, ◌^◌, ◌<◌, ◌≤◌, ◌⊎◌, true, List, [], ◌∷◌, ◌++◌, length, take, drop, refl, sym, ap, subst, ◌∙◌, append_assoc, append-nil, arith, codes, length-append, inl, inr, false≢true, and_parts, is_ascii_digit, all_ascii_digits, decimal, onto_first, lines_of, Lacks, NoDigit, EndsLine, Lined, NotLined, Lines, NotFirst, NoneFirst}
use Rattle.ks_script.proofs.Numerals.{digits_of_number, one_number}
use Rattle.ks_script.proofs.Cuts.{lines_cases, lines_first, lines_last}
use Rattle.ks_script.proofs.Exact.{goes_on}

-- the end of a line is no digit
pub end_free : (tail : List ℕ) → EndsLine tail → NoDigit tail
end_free [] h = tt
end_free (b ∷ tail) h = ap is_ascii_digit h

-- bytes begin with one number that no digit follows
pub number_told : (m n : ℕ) (r s : List ℕ) → m < 2 ^ 128 → n < 2 ^ 128 → NoDigit r → NoDigit s → decimal m ++ r ≡ decimal n ++ s → (m ≡ n) × (r ≡ s)
number_told m n r s hm hn fr fs e =
    let g = goes_on (decimal m) r (decimal n) s (digits_of_number m hm) (digits_of_number n hn) fs e in
    let h = none g.more s r g.are fr g.rest in
    (one_number m n hm hn (sym (append-nil (decimal m)) ∙ (ap (λ (x : List ℕ). decimal m ++ x) (sym h.0) ∙ sym g.whole)), h.1)
  where
    none : (more s r : List ℕ) → all_ascii_digits more ≡ true → NoDigit r → r ≡ more ++ s → (more ≡ []) × (r ≡ s)
    none [] s r are free e = (refl, e)
    none (d ∷ more) s r are free e = absurd (false≢true (sym (subst NoDigit e free) ∙ (and_parts (is_ascii_digit d) (all_ascii_digits more) are).0))

-- a number, a space and more, where the number is read
pub spaced_told : (m n : ℕ) (r a tail bytes : List ℕ) → m < 2 ^ 128 → n < 2 ^ 128 → NoDigit r → bytes ≡ decimal m ++ r → bytes ≡ (decimal n ++ codes " " ++ a) ++ tail → (m ≡ n) × (r ≡ codes " " ++ (a ++ tail))
spaced_told m n r a tail bytes hm hn free e f =
    number_told m n r (codes " " ++ (a ++ tail)) hm hn free refl (sym e ∙ (f ∙ simp append_assoc))

-- the first line
pub lined_first : (text bytes rest : List ℕ) → Lacks 10 text → 0 < length text → Lined text bytes rest → lines_of bytes ≡ text ∷ lines_of rest
lined_first text bytes rest lacks some h = ap lines_of h.parts ∙ (by_tail h.tail h.ends ∙ ap (λ (x : List ℕ). text ∷ lines_of x) (sym h.rest_is))
  where
    by_tail : (tail : List ℕ) → EndsLine tail → lines_of (text ++ tail) ≡ text ∷ lines_of (drop 1 tail)
    by_tail [] ends = ap lines_of (append-nil text) ∙ lines_last text some lacks
    by_tail (b ∷ tail) ends = ap (λ (c : ℕ). lines_of (text ++ c ∷ tail)) ends ∙ lines_first text tail lacks

pub lined_shorter : (text bytes rest : List ℕ) → 0 < length text → Lined text bytes rest → length rest < length bytes
lined_shorter text bytes rest some h = omega (arith, ap (λ (x : List ℕ). length x) h.parts, length-append text h.tail, ap (λ (x : List ℕ). length x) h.rest_is, shorter h.tail)
  where
    shorter : (tail : List ℕ) → length (drop 1 tail) ≤ length tail
    shorter [] = omega arith
    shorter (b ∷ tail) = omega arith

-- the first line of bytes, if any come
cut_lines : (bytes : List ℕ) → (bytes ≡ []) ⊎ ((text rest : List ℕ) × Lined text bytes rest × (lines_of bytes ≡ text ∷ lines_of rest))
cut_lines [] = inl refl
cut_lines (b ∷ bytes) =
    elim (lines_cases b bytes) [
      | inl same ↦ inr ([], bytes, record { tail = b ∷ bytes; parts = refl; ends = same.0; rest_is = refl }, same.1)
      | inr other ↦ (elim (cut_lines bytes) [
        | inl none ↦ inr (b ∷ [], [], record { tail = []; parts = ap (λ (x : List ℕ). b ∷ x) none; ends = tt; rest_is = refl }, other ∙ ap (λ (x : List ℕ). onto_first b (lines_of x)) none)
        | inr cut ↦ inr (b ∷ cut.0, cut.1, record { tail = cut.2.tail; parts = ap (λ (x : List ℕ). b ∷ x) cut.2.parts; ends = cut.2.ends; rest_is = cut.2.rest_is }, other ∙ ap (onto_first b) cut.3)
      ])
    ]

-- where bytes come, lines that begin as theirs are some
pub no_more : (rest : List ℕ) → 0 < length rest → (ls : Lines) → ls ≡ [] → take 1 ls ≡ take 1 (lines_of rest) → ⊥
no_more rest some ls none same =
    elim (cut_lines rest) [
      | inl end ↦ omega (arith, ap (λ (x : List ℕ). length x) end)
      | inr cut ↦ omega (arith, ap (λ (x : Lines). length x) (sym (ap (λ (x : Lines). take 1 x) none) ∙ (same ∙ ap (λ (x : Lines). take 1 x) cut.3)))
    ]

pub none_first : {X : Type 0} (Is : X → Type 0) (line : X → List ℕ) (bytes : List ℕ) → ((x : X) → Is x → NotLined (line x) bytes) → NoneFirst Is line (lines_of bytes)
none_first Is line bytes none =
    elim (cut_lines bytes) [
      | inl end ↦ rw end tt
      | inr cut ↦ rw cut.3 (λ x is same. none x is cut.2.tail cut.2.ends (cut.2.parts ∙ ap (λ (k : List ℕ). k ++ cut.2.tail) same))
    ]

pub not_first : (word bytes : List ℕ) → NotLined word bytes → NotFirst word (lines_of bytes)
not_first word bytes none =
    elim (cut_lines bytes) [
      | inl end ↦ rw end tt
      | inr cut ↦ rw cut.3 (λ same. none cut.2.tail cut.2.ends (cut.2.parts ∙ ap (λ (k : List ℕ). k ++ cut.2.tail) same))
    ]
