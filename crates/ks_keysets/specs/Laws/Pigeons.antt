-- The pigeonhole principle: numbers below n that a function sends one to one below m are at most m.
use Rattle.std.proofs.Common.{ℕ, zero, suc, ◌≡◌, ◌<◌, ◌≤◌, ◌==◌, cond, Bool, true, false, ◌⊎◌, inl, inr, refl, sym, ◌∙◌, ap, arith}
use Rattle.std.proofs.lemmas.Bool.Decides.{nat_tests}

abbrev avoiding : (ℕ → ℕ) → ℕ → ℕ → ℕ → ℕ
avoiding f m last i = cond (f i == m) (f last) (f i)

abbrev Avoids : ℕ → ℕ → ℕ → ℕ → Type 0
Avoids x m y r = ((x ≡ m) × (r ≡ y)) ⊎ ((x ≡ m → ⊥) × (r ≡ x))

Avoids-by : (x m y : ℕ) (t : Bool) → (x == m) ≡ t → Avoids x m y (cond t y x)
Avoids-by x m y true e = inl (grind (arith, nat_tests), refl)
Avoids-by x m y false e = inr (λ same. grind (arith, nat_tests), refl)

avoids : (x m y : ℕ) → Avoids x m y (cond (x == m) y x)
avoids x m y = Avoids-by x m y (x == m) refl

abbrev pub Into : (ℕ → ℕ) → ℕ → ℕ → Type 0
Into f n m = (i : ℕ) → i < n → f i < m

abbrev pub OneToOne : (ℕ → ℕ) → ℕ → Type 0
OneToOne f n = (i j : ℕ) → i < n → j < n → f i ≡ f j → i ≡ j

Into-less : (f : ℕ → ℕ) (n m : ℕ) → Into f (suc n) (suc m) → OneToOne f (suc n) → Into (avoiding f m n) n m
Into-less f n m into one i p =
    let a = into i (omega arith) in
    let b = into n (omega arith) in
    let ne : f i ≡ f n → ⊥ = λ e. let z = one i n (omega arith) (omega arith) e in omega arith in
    elim (avoids (f i) m (f n)) [ inl w ↦ omega (arith, w.0, w.1) | inr w ↦ omega (arith, w.0, w.1) ]

one_less : (f : ℕ → ℕ) (n m : ℕ) → OneToOne f (suc n) → OneToOne (avoiding f m n) n
one_less f n m one i j p q e =
    elim (avoids (f i) m (f n)) [
      | inl v ↦ elim (avoids (f j) m (f n)) [
        | inl w ↦ one i j (omega arith) (omega arith) (v.0 ∙ sym w.0)
        | inr w ↦ let z = one n j (omega arith) (omega arith) (sym v.1 ∙ e ∙ w.1) in absurd (omega arith)
      ]
      | inr v ↦ elim (avoids (f j) m (f n)) [
        | inl w ↦ let z = one i n (omega arith) (omega arith) (sym v.1 ∙ e ∙ w.1) in absurd (omega arith)
        | inr w ↦ one i j (omega arith) (omega arith) (sym v.1 ∙ e ∙ w.1)
      ]
    ]

pub pigeonhole : (n m : ℕ) (f : ℕ → ℕ) → Into f n m → OneToOne f n → n ≤ m
pigeonhole zero m f into one = omega arith
pigeonhole (suc n) zero f into one = absurd (omega (arith, into n (omega arith)))
pigeonhole (suc n) (suc m) f into one = omega (arith, pigeonhole n m (avoiding f m n) (Into-less f n m into one) (one_less f n m one))

same_or_apart : (i j : ℕ) → (i ≡ j) ⊎ (i ≡ j → ⊥)
same_or_apart i j = grind arith

last_or_less : (i n : ℕ) → i < suc n → (i < n) ⊎ (i ≡ n)
last_or_less i n lt = grind arith

-- some number below n is sent to x, or none is
reached_or_not : (f : ℕ → ℕ) (n x : ℕ) → ((i : ℕ) × (i < n) × (f i ≡ x)) ⊎ ((i : ℕ) → i < n → f i ≡ x → ⊥)
reached_or_not f zero x = inr (λ i lt e. omega arith)
reached_or_not f (suc n) x = elim (same_or_apart (f n) x) [
  | inl e ↦ inl (n, omega arith, e)
  | inr ne ↦ elim (reached_or_not f n x) [
    | inl y ↦ inl (y.0, omega (arith, y.1), y.2)
    | inr none ↦ inr (λ i lt e. elim (last_or_less i n lt) [ inl less ↦ none i less e | inr last ↦ ne (ap f (sym last) ∙ e) ])
  ]
]

-- two numbers below n are sent to the same number
abbrev pub Repeats : (ℕ → ℕ) → ℕ → Type 0
Repeats f n = (i : ℕ) × (j : ℕ) × (i < j) × (j < n) × (f i ≡ f j)

repeats_or_not : (f : ℕ → ℕ) (n : ℕ) → Repeats f n ⊎ OneToOne f n
repeats_or_not f zero = inr (λ i j lt lt' e. absurd (omega arith))
repeats_or_not f (suc n) = elim (repeats_or_not f n) [
  | inl y ↦ inl (y.0, y.1, y.2, omega (arith, y.3), y.4)
  | inr one ↦ elim (reached_or_not f n (f n)) [
    | inl y ↦ inl (y.0, n, y.1, omega arith, y.2)
    | inr none ↦ inr (λ i j lt lt' e. elim (last_or_less i n lt) [
      | inl a ↦ elim (last_or_less j n lt') [
        | inl b ↦ one i j a b e
        | inr b ↦ absurd (none i a (e ∙ ap f b))
      ]
      | inr a ↦ elim (last_or_less j n lt') [
        | inl b ↦ absurd (none j b (sym e ∙ ap f a))
        | inr b ↦ a ∙ sym b
      ]
    ])
  ]
]

-- of more numbers than m that are sent below m, two are sent to the same number
pub repeats : (n : ℕ) (f : ℕ → ℕ) → Into f (suc n) n → Repeats f (suc n)
repeats n f into = elim (repeats_or_not f (suc n)) [ inl y ↦ y | inr one ↦ absurd (omega (arith, pigeonhole (suc n) n f into one)) ]
