-- The hint of a place is the last one whose low is not above the place; of the newest post's low it is the newest post.
use Rattle.std.proofs.Common.{◌≡◌, ℕ, zero, suc, ◌<◌, ◌≤◌, ◌⊎◌, Bool, true, false, nat_eq, nat_lt, List, [], ◌∷◌, length, get_or, Some, None, refl, sym, ap, subst, inl, inr, arith}
use Rattle.std.proofs.lemmas.Bool.{true≢false, lt-ltb, le-ltb, eq-eqb, ne_eqb, cases_lt, cases_eq}
use Rattle.std.specs.Prelude.{if◌then◌else◌}
use Rattle.ks_hints.specs.declared.hint.Hint.{Hint}
use Rattle.ks_hints.specs.Hints.{LowsAscend, has_low, replaced, placed, after_post, list_after, nearest_in, hint_in, hint_after, HasLowAt, IsOfLast}
use Rattle.ks_hints.proofs.Lists.{after_post_by, asc_head, asc_tail, found_near, last_near, list_ascends, none_near}

-- the hints up to position i are not above the place, those after it are
record LastAt (xs : List Hint) (place i : ℕ) : Type 0 where
  pub within : i < length xs
  pub front : (k : ℕ) (d : Hint) → k ≤ i → k < length xs → (get_or xs k d).low ≤ place
  pub after : (k : ℕ) (d : Hint) → i < k → k < length xs → place < (get_or xs k d).low

abbrev AllAbove : List Hint → ℕ → Type 0
AllAbove xs place = (k : ℕ) (d : Hint) → k < length xs → place < (get_or xs k d).low

above_cons : (x : Hint) (xs : List Hint) (place : ℕ) → place < x.low → LowsAscend (x ∷ xs) → AllAbove (x ∷ xs) place
above_cons x xs place q asc zero d w = q
above_cons x xs place q asc (suc k) d w = let up = asc_head x xs asc k d (omega arith) in omega arith

first_last : (x : Hint) (xs : List Hint) (place : ℕ) → x.low ≤ place → AllAbove xs place → LastAt (x ∷ xs) place 0
first_last x xs place q above = record { within = omega arith; front = front; after = after }
  where
    front : (k : ℕ) (d : Hint) → k ≤ 0 → k < length (x ∷ xs) → (get_or (x ∷ xs) k d).low ≤ place
    front zero d a b = q
    front (suc k) d a b = absurd (omega arith)

    after : (k : ℕ) (d : Hint) → 0 < k → k < length (x ∷ xs) → place < (get_or (x ∷ xs) k d).low
    after zero d a b = absurd (omega arith)
    after (suc k) d a b = above k d (omega arith)

later_last : (x : Hint) (xs : List Hint) (place i : ℕ) → x.low ≤ place → LastAt xs place i → LastAt (x ∷ xs) place (suc i)
later_last x xs place i q l = record { within = let w = l.within in omega arith; front = front; after = after }
  where
    front : (k : ℕ) (d : Hint) → k ≤ suc i → k < length (x ∷ xs) → (get_or (x ∷ xs) k d).low ≤ place
    front zero d a b = q
    front (suc k) d a b = l.front k d (omega arith) (omega arith)

    after : (k : ℕ) (d : Hint) → suc i < k → k < length (x ∷ xs) → place < (get_or (x ∷ xs) k d).low
    after zero d a b = absurd (omega arith)
    after (suc k) d a b = l.after k d (omega arith) (omega arith)

last_or_none : (xs : List Hint) (place : ℕ) → LowsAscend xs → ((i : ℕ) × LastAt xs place i) ⊎ AllAbove xs place
last_or_none [] place asc = inr (λ k d w. absurd (omega arith))
last_or_none (x ∷ xs) place asc = elim (cases_lt place x.low) [
  | inl q ↦ inr (above_cons x xs place q asc)
  | inr q ↦ elim (last_or_none xs place (asc_tail x xs asc)) [
    | inl l ↦ inl (suc l.0, later_last x xs place l.0 q l.1)
    | inr a ↦ inl (0, first_last x xs place q a)
  ]
]

blank : Hint
blank = record { low = 0; node = 0 }

any_here : (xs : List Hint) (i : ℕ) (c d : Hint) → i < length xs → get_or xs i c ≡ get_or xs i d
any_here [] i c d w = absurd (omega arith)
any_here (x ∷ xs) zero c d w = refl
any_here (x ∷ xs) (suc i) c d w = any_here xs i c d (omega arith)

of_last : (xs : List Hint) (place : ℕ) → LowsAscend xs → ((i : ℕ) × LastAt xs place i) ⊎ AllAbove xs place → IsOfLast xs place (hint_in xs place)
of_last xs place asc (inl l) =
    let n : nearest_in xs place ≡ Some (get_or xs l.0 blank) = last_near xs place l.0 blank asc l.1.within l.1.front l.1.after in
    rw n (
      l.0,
      l.1.within,
      (λ d. ap (λ (h : Hint). h.node) (any_here xs l.0 d blank l.1.within)),
      (λ d. l.1.front l.0 d (omega arith) l.1.within),
      l.1.after,
    )
of_last xs place asc (inr a) = let n : nearest_in xs place ≡ None = none_near xs place a in rw n a

pub list_last : (posts : List Hint) (place : ℕ) → IsOfLast (list_after posts) place (hint_after posts place)
list_last posts place = let asc = list_ascends posts in of_last (list_after posts) place asc (last_or_none (list_after posts) place asc)

-- the hint is in the list
abbrev IsIn : Hint → List Hint → Type 0
IsIn h xs = (i : ℕ) × (i < length xs) × ((d : Hint) → get_or xs i d ≡ h)

further : (h x : Hint) (xs : List Hint) → IsIn h xs → IsIn h (x ∷ xs)
further h x xs is = (suc is.0, omega (arith, is.1), is.2)

first_in : (h : Hint) (xs : List Hint) → IsIn h (h ∷ xs)
first_in h xs = (0, omega arith, λ d. refl)

replaced_has : (h : Hint) (xs : List Hint) → has_low xs h.low ≡ true → IsIn h (replaced xs h)
replaced_has h [] e = absurd (true≢false (sym e))
replaced_has h (x ∷ xs) e = elim (cases_eq x.low h.low) [
  | inl q ↦ let f : nat_eq x.low h.low ≡ true = eq-eqb _ _ q in rw f (first_in h xs)
  | inr q ↦ let f : nat_eq x.low h.low ≡ false = ne_eqb _ _ q in rw f (further h x (replaced xs h) (replaced_has h xs (subst (λ (b : Bool). (if b then true else has_low xs h.low) ≡ true) f e)))
]

placed_has : (h : Hint) (xs : List Hint) → IsIn h (placed xs h)
placed_has h [] = first_in h []
placed_has h (x ∷ xs) = elim (cases_lt h.low x.low) [
  | inl q ↦ let e : nat_lt h.low x.low ≡ true = lt-ltb _ _ q in rw e (first_in h (x ∷ xs))
  | inr q ↦ let e : nat_lt h.low x.low ≡ false = le-ltb _ _ q in rw e (further h x (placed xs h) (placed_has h xs))
]

after_post_has : (h : Hint) (xs : List Hint) → IsIn h (after_post xs h)
after_post_has h xs = after_post_by (IsIn h) xs h (replaced_has h xs) (λ e q. first_in h []) (λ e q. placed_has h xs)

in_found : (h : Hint) (xs : List Hint) → LowsAscend xs → IsIn h xs → hint_in xs h.low ≡ Some h.node
in_found h xs asc is =
    let here : (d : Hint) → (get_or xs is.0 d).low ≡ h.low = λ d. ap (λ (x : Hint). x.low) (is.2 d) in
    let at : HasLowAt h.low xs is.0 = record {
      within = is.1;
      before = λ k d a b. let up = asc k is.0 d a is.1 in let e = here d in omega arith;
      here = here;
    } in
    subst (λ (x : Hint). hint_in xs h.low ≡ Some x.node) (is.2 blank) (found_near h.low xs is.0 blank asc at)

pub list_newest : (post : Hint) (older : List Hint) → hint_after (post ∷ older) post.low ≡ Some post.node
list_newest post older = in_found post (list_after (post ∷ older)) (list_ascends (post ∷ older)) (after_post_has post (list_after older))
