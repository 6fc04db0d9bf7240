-- What an edit leaves of spots that ascend, and what a search finds among them.
use Rattle.std.proofs.Common.{ℕ, zero, suc, ◌≡◌, ◌<◌, ◌≤◌, ◌+◌, ◌⊎◌, inl, inr, List, [], ◌∷◌, length, get_or, set, Some, None, cond, true, ◌&&◌, refl, ◌∙◌, ap, arith}
use Rattle.std.specs.Prelude.{nat_le}
use Rattle.std.specs.List.{remove}
use Rattle.std.proofs.lemmas.Bool.{cases_lt, cases_eq, le-leb, lt-leb}
use Rattle.std.proofs.lemmas.List.{length-set, get_or-set_same, get_or-set_other}
use Rattle.std.proofs.lemmas.List.Edits.{length-remove, get_or-remove_below, get_or-remove_above}
use Rattle.ks_guide.specs.declared.spot.Spot.{Spot}
use Rattle.ks_guide.specs.Spots.{holds}
use Rattle.ks_guide.specs.Branches.{Ascend, IsBegun, IsPlaced, begun_in, guess_last, guess_among}

pub three_ways : (a b : ℕ) → (a < b) ⊎ ((a ≡ b) ⊎ (b < a))
three_ways a b = elim (cases_lt a b) [
  | inl less ↦ inl less
  | inr over ↦ elim (cases_eq a b) [
    | inl same ↦ inr (inl same)
    | inr other ↦ elim (cases_lt b a) [ inl more ↦ inr (inr more) | inr under ↦ absurd (other (omega arith)) ]
  ]
]

-- after a write between what begins no later and what begins no earlier
pub ascend_set : (xs : List Spot) (k : ℕ) (new : Spot) → Ascend xs → k < length xs →
    ((i : ℕ) (d : Spot) → i < k → (get_or xs i d).low ≤ new.low) →
    ((i : ℕ) (d : Spot) → k < i → i < length xs → new.low ≤ (get_or xs i d).low) →
    Ascend (set xs k new)
ascend_set xs k new up within before after i j d le lt =
    let short : j < length xs = omega (arith, lt, length-set xs k new) in
    let here : (n : ℕ) → n ≡ k → (get_or (set xs k new) n d).low ≡ new.low = λ n e. ap (λ m. (get_or (set xs k new) m d).low) e ∙ ap (λ (s : Spot). s.low) (get_or-set_same xs k new d within) in
    let there : (n : ℕ) → (n ≡ k → ⊥) → (get_or (set xs k new) n d).low ≡ (get_or xs n d).low = λ n e. ap (λ (s : Spot). s.low) (get_or-set_other xs k n new d e) in
    elim (three_ways i k) [
      | inl i_less ↦ elim (three_ways j k) [
        | inl j_less ↦ omega (arith, there i (λ e. omega arith), there j (λ e. omega arith), up i j d le short)
        | inr other ↦ elim other [
          | inl j_is ↦ omega (arith, there i (λ e. omega arith), here j j_is, before i d i_less)
          | inr j_more ↦ omega (arith, there i (λ e. omega arith), there j (λ e. omega arith), up i j d le short)
        ]
      ]
      | inr other ↦ elim other [
        | inl i_is ↦ elim (three_ways j k) [
          | inl j_less ↦ absurd (omega arith)
          | inr rest ↦ elim rest [
            | inl j_is ↦ omega (arith, here i i_is, here j j_is)
            | inr j_more ↦ omega (arith, here i i_is, there j (λ e. omega arith), after j d j_more short)
          ]
        ]
        | inr i_more ↦ omega (arith, there i (λ e. omega arith), there j (λ e. omega arith), up i j d le short)
      ]
    ]

pub ascend_remove : (xs : List Spot) (k : ℕ) → Ascend xs → k < length xs → Ascend (remove xs k)
ascend_remove xs k up within i j d le lt =
    let short : j + 1 < length xs = omega (arith, lt, length-remove xs k within) in
    let low : (n : ℕ) → n < k → (get_or (remove xs k) n d).low ≡ (get_or xs n d).low = λ n h. ap (λ (s : Spot). s.low) (get_or-remove_below xs k d n h within) in
    let high : (n : ℕ) → k ≤ n → (get_or (remove xs k) n d).low ≡ (get_or xs (n + 1) d).low = λ n h. ap (λ (s : Spot). s.low) (get_or-remove_above xs k d n h within) in
    elim (cases_lt i k) [
      | inl i_low ↦ elim (cases_lt j k) [
        | inl j_low ↦ omega (arith, low i i_low, low j j_low, up i j d le (omega arith))
        | inr j_high ↦ omega (arith, low i i_low, high j j_high, up i (j + 1) d (omega arith) short)
      ]
      | inr i_high ↦ omega (arith, high i i_high, high j (omega arith), up (i + 1) (j + 1) d (omega arith) short)
    ]

pub begun_is : (p : ℕ) (xs : List Spot) (k : ℕ) → IsBegun p xs k → begun_in p xs ≡ k
unfolding begun_in
begun_is p [] zero b = refl
begun_is p [] (suc k) b = absurd (omega (arith, b.within))
begun_is p (s ∷ xs) zero b = ap (λ c. cond c (suc (begun_in p xs)) 0) (lt-leb _ _ (b.after 0 s (omega arith) (omega arith)))
begun_is p (s ∷ xs) (suc k) b =
    ap (λ c. cond c (suc (begun_in p xs)) 0) (le-leb _ _ (b.before 0 s (omega arith)))
    ∙ ap (λ n. suc n) (begun_is p xs k (record {
      within = omega (arith, b.within);
      before = λ i d h. b.before (suc i) d (omega arith);
      after = λ i d h l. b.after (suc i) d (omega arith) (omega arith);
    }))

-- a search among no spots that begin early enough, and one that finds the last of them
pub guess_first : (p : ℕ) (xs : List Spot) → IsBegun p xs 0 → guess_among p xs ≡ None
guess_first p xs b = ap (guess_last p xs) (begun_is p xs 0 b)

pub guess_at : (p : ℕ) (xs : List Spot) (k : ℕ) (s : Spot) → IsBegun p xs (suc k) → ((d : Spot) → get_or xs k d ≡ s) → guess_among p xs ≡ cond (holds p s) (Some s.node) None
guess_at p xs k s b is = ap (guess_last p xs) (begun_is p xs (suc k) b) ∙ ap (λ (z : Spot). cond (holds p z) (Some z.node) None) (is _)

pub guess_placed : (new : Spot) (xs : List Spot) (at p : ℕ) → IsPlaced new xs at → new.low ≤ p → p ≤ new.last → guess_among p xs ≡ Some new.node
guess_placed new xs at p placed low last =
    let begun : IsBegun p xs (suc at) = record {
      within = omega (arith, placed.within);
      before = λ i d h. elim (three_ways i at) [
        | inl less ↦ omega (arith, placed.before i d less)
        | inr other ↦ elim other [
          | inl same ↦ omega (arith, ap (λ n. (get_or xs n d).low) same, ap (λ (s : Spot). s.low) (placed.is d))
          | inr more ↦ absurd (omega arith)
        ]
      ];
      after = λ i d h l. omega (arith, placed.after i d (omega arith) l);
    } in
    guess_at p xs at new begun placed.is
    ∙ ap (λ b. cond (b && nat_le p new.last) (Some new.node) None) (le-leb _ _ low)
    ∙ ap (λ b. cond (true && b) (Some new.node) None) (le-leb _ _ last)

-- a spot that is the last of those that begin by its last place
pub guess_noted : (new : Spot) (xs : List Spot) (at p : ℕ) → Ascend xs → IsBegun new.last xs (suc at) → ((d : Spot) → get_or xs at d ≡ new) →
    new.low ≤ p → p ≤ new.last → guess_among p xs ≡ Some new.node
guess_noted new xs at p up begun is low last =
    guess_placed new xs at p (record {
      within = omega (arith, begun.within);
      is = is;
      before = λ i d h. omega (arith, up i at d (omega arith) (omega (arith, begun.within)), ap (λ (s : Spot). s.low) (is d));
      after = λ i d h l. begun.after i d (omega arith) l;
    }) low last
