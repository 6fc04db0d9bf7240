-- Lists of hints in ascending order: where a low is, what a post makes of them, and the nearest hint.
use Rattle.std.proofs.Common.{◌≡◌, ℕ, zero, suc, ◌<◌, ◌≤◌, Bool, true, false, nat_eq, nat_lt, List, [], ◌∷◌, ◌++◌, length, get_or, set, take, drop, length-set, Some, None, refl, sym, ap, ◌∙◌, subst, inl, inr, arith}
use Rattle.std.specs.List.{insert, refill}
use Rattle.std.proofs.Math.Seq.{take-append_seam}
use Rattle.std.proofs.lemmas.List.{get_or_default}
use Rattle.std.specs.Prelude.{if◌then◌else◌}
use Rattle.std.proofs.lemmas.Bool.{true≢false, lt-ltb, le-ltb, eq-eqb, ne_eqb, cases_lt, cases_eq, cases_Bool}
use Rattle.ks_hints.specs.declared.hint.Hint.{Hint}
use Rattle.ks_hints.specs.Hints.{LowsAscend, has_low, replaced, placed, after_post, list_after, nearest_in, hint_in, HasLowAt, LacksLowAt}

lt_of_ne : (a b : ℕ) → (a ≡ b → ⊥) → a ≤ b → a < b
lt_of_ne a b ne le = elim (cases_lt a b) [ inl q ↦ q | inr q ↦ absurd (ne (omega arith)) ]

tail_found : (low : ℕ) (x : Hint) (xs : List Hint) (i : ℕ) → HasLowAt low (x ∷ xs) (suc i) → (x.low < low) × HasLowAt low xs i
tail_found low x xs i f = (f.before 0 x (omega arith) (omega arith), record { within = let w = f.within in omega arith; before = λ k d a b. f.before (suc k) d (omega arith) (omega arith); here = f.here })

tail_missing : (low : ℕ) (x : Hint) (xs : List Hint) (i : ℕ) → LacksLowAt low (x ∷ xs) (suc i) → (x.low < low) × LacksLowAt low xs i
tail_missing low x xs i f = (f.before 0 x (omega arith) (omega arith), record { within = let w = f.within in omega arith; before = λ k d a b. f.before (suc k) d (omega arith) (omega arith); after = λ k d a b. f.after (suc k) d (omega arith) (omega arith) })

pub asc_tail : (x : Hint) (xs : List Hint) → LowsAscend (x ∷ xs) → LowsAscend xs
asc_tail x xs asc i j d a b = asc (suc i) (suc j) d (omega arith) (omega arith)

pub asc_head : (x : Hint) (xs : List Hint) → LowsAscend (x ∷ xs) → (k : ℕ) (d : Hint) → k < length xs → x.low < (get_or xs k d).low
asc_head x xs asc k d b = asc 0 (suc k) d (omega arith) (omega arith)

asc_cons : (x : Hint) (xs : List Hint) → ((k : ℕ) (d : Hint) → k < length xs → x.low < (get_or xs k d).low) → LowsAscend xs → LowsAscend (x ∷ xs)
asc_cons x xs above asc zero zero d a b = absurd (omega arith)
asc_cons x xs above asc zero (suc j) d a b = above j d (omega arith)
asc_cons x xs above asc (suc i) zero d a b = absurd (omega arith)
asc_cons x xs above asc (suc i) (suc j) d a b = asc i j d (omega arith) (omega arith)

pub found_has : (low : ℕ) (xs : List Hint) (i : ℕ) → HasLowAt low xs i → has_low xs low ≡ true
found_has low [] i f = absurd (let w = f.within in omega arith)
found_has low (x ∷ xs) zero f = let e : nat_eq x.low low ≡ true = eq-eqb _ _ (f.here x) in rw e refl
found_has low (x ∷ xs) (suc i) f = let t = tail_found low x xs i f in let e : nat_eq x.low low ≡ false = ne_eqb _ _ (λ q. let a = t.0 in omega arith) in rw e (found_has low xs i t.1)

pub found_set : (h : Hint) (xs : List Hint) (i : ℕ) → HasLowAt h.low xs i → replaced xs h ≡ set xs i h
found_set h [] i f = absurd (let w = f.within in omega arith)
found_set h (x ∷ xs) zero f = let e : nat_eq x.low h.low ≡ true = eq-eqb _ _ (f.here x) in rw e refl
found_set h (x ∷ xs) (suc i) f = let t = tail_found h.low x xs i f in let e : nat_eq x.low h.low ≡ false = ne_eqb _ _ (λ q. let a = t.0 in omega arith) in rw e (ap (λ l. x ∷ l) (found_set h xs i t.1))

pub missing_has : (low : ℕ) (xs : List Hint) (i : ℕ) → LacksLowAt low xs i → has_low xs low ≡ false
missing_has low [] i f = refl
missing_has low (x ∷ xs) zero f =
    let e : nat_eq x.low low ≡ false = ne_eqb _ _ (λ q. let a = f.after 0 x (omega arith) (omega arith) in omega arith) in
    rw e (missing_has low xs 0 record { within = omega arith; before = λ k d a b. absurd (omega arith); after = λ k d a b. f.after (suc k) d (omega arith) (omega arith) })
missing_has low (x ∷ xs) (suc i) f = let t = tail_missing low x xs i f in let e : nat_eq x.low low ≡ false = ne_eqb _ _ (λ q. let a = t.0 in omega arith) in rw e (missing_has low xs i t.1)

pub missing_insert : (h : Hint) (xs : List Hint) (i : ℕ) → LacksLowAt h.low xs i → placed xs h ≡ insert xs i h
missing_insert h [] zero f = refl
missing_insert h [] (suc i) f = absurd (let w = f.within in omega arith)
missing_insert h (x ∷ xs) zero f = let e : nat_lt h.low x.low ≡ true = lt-ltb _ _ (f.after 0 x (omega arith) (omega arith)) in rw e refl
missing_insert h (x ∷ xs) (suc i) f = let t = tail_missing h.low x xs i f in let e : nat_lt h.low x.low ≡ false = le-ltb _ _ (let a = t.0 in omega arith) in rw e (ap (λ l. x ∷ l) (missing_insert h xs i t.1))

-- none is near where all lows are above the place
pub none_near : (xs : List Hint) (place : ℕ) → ((k : ℕ) (d : Hint) → k < length xs → place < (get_or xs k d).low) → nearest_in xs place ≡ None
none_near [] place above = refl
none_near (x ∷ xs) place above = let e : nat_lt place x.low ≡ true = lt-ltb _ _ (above 0 x (omega arith)) in rw e (none_near xs place (λ k d b. above (suc k) d (omega arith)))

-- the last hint not above the place is the nearest
pub last_near : (xs : List Hint) (place n : ℕ) (d : Hint) → LowsAscend xs → n < length xs → ((k : ℕ) (d : Hint) → k ≤ n → k < length xs → (get_or xs k d).low ≤ place) → ((k : ℕ) (d : Hint) → n < k → k < length xs → place < (get_or xs k d).low) → nearest_in xs place ≡ Some (get_or xs n d)
last_near [] place n d asc w front after = absurd (omega arith)
last_near (x ∷ xs) place zero d asc w front after =
    let e : nat_lt place x.low ≡ false = le-ltb _ _ (front 0 x (omega arith) (omega arith)) in
    let r : nearest_in xs place ≡ None = none_near xs place (λ k d b. after (suc k) d (omega arith) (omega arith)) in
    rw (e, r) refl
last_near (x ∷ xs) place (suc n) d asc w front after =
    let e : nat_lt place x.low ≡ false = le-ltb _ _ (front 0 x (omega arith) (omega arith)) in
    let r : nearest_in xs place ≡ Some (get_or xs n d) = last_near xs place n d (asc_tail x xs asc) (omega arith) (λ k c a b. front (suc k) c (omega arith) (omega arith)) (λ k c a b. after (suc k) c (omega arith) (omega arith)) in
    let up : nat_lt x.low (get_or xs n d).low ≡ true = lt-ltb _ _ (asc_head x xs asc n d (omega arith)) in
    rw (e, r, up) refl

-- the lows of a list with one replaced are those that it had
head_low : (h x : Hint) (xs : List Hint) (k : ℕ) (d : Hint) → x.low ≡ h.low → (get_or (h ∷ xs) k d).low ≡ (get_or (x ∷ xs) k d).low
head_low h x xs zero d e = sym e
head_low h x xs (suc k) d e = refl

same_low : (h : Hint) (xs : List Hint) (k : ℕ) (d : Hint) → (get_or (replaced xs h) k d).low ≡ (get_or xs k d).low
same_low h [] k d = refl
same_low h (x ∷ xs) zero d = elim (cases_eq x.low h.low) [
  | inl q ↦ let e : nat_eq x.low h.low ≡ true = eq-eqb _ _ q in rw e (sym q)
  | inr q ↦ let e : nat_eq x.low h.low ≡ false = ne_eqb _ _ q in rw e refl
]
same_low h (x ∷ xs) (suc k) d = elim (cases_eq x.low h.low) [
  | inl q ↦ let e : nat_eq x.low h.low ≡ true = eq-eqb _ _ q in rw e refl
  | inr q ↦ let e : nat_eq x.low h.low ≡ false = ne_eqb _ _ q in rw e (same_low h xs k d)
]

same_length : (h : Hint) (xs : List Hint) → length (replaced xs h) ≡ length xs
same_length h [] = refl
same_length h (x ∷ xs) = elim (cases_eq x.low h.low) [
  | inl q ↦ let e : nat_eq x.low h.low ≡ true = eq-eqb _ _ q in rw e refl
  | inr q ↦ let e : nat_eq x.low h.low ≡ false = ne_eqb _ _ q in rw e (ap suc (same_length h xs))
]

single_ascends : (h : Hint) → LowsAscend (h ∷ [])
single_ascends h i j d a b = absurd (let c : j < 1 = b in omega arith)

replaced_ascends : (h : Hint) (xs : List Hint) → LowsAscend xs → LowsAscend (replaced xs h)
replaced_ascends h xs asc i j d a b = let n = same_length h xs in rw (same_low h xs i d, same_low h xs j d) (asc i j d a (omega arith))

placed_length : (h : Hint) (xs : List Hint) → length (placed xs h) ≡ suc (length xs)
placed_length h [] = refl
placed_length h (x ∷ xs) = elim (cases_lt h.low x.low) [
  | inl q ↦ let e : nat_lt h.low x.low ≡ true = lt-ltb _ _ q in rw e refl
  | inr q ↦ let e : nat_lt h.low x.low ≡ false = le-ltb _ _ q in rw e (ap suc (placed_length h xs))
]

placed_above : (n : ℕ) (h : Hint) (xs : List Hint) → n < h.low → ((k : ℕ) (d : Hint) → k < length xs → n < (get_or xs k d).low) → (k : ℕ) (d : Hint) → k < suc (length xs) → n < (get_or (placed xs h) k d).low
placed_above n h [] low above zero d w = low
placed_above n h [] low above (suc k) d w = absurd (let v : suc k < 1 = w in omega arith)
placed_above n h (x ∷ xs) low above zero d w = elim (cases_lt h.low x.low) [
  | inl q ↦ let e : nat_lt h.low x.low ≡ true = lt-ltb _ _ q in rw e low
  | inr q ↦ let e : nat_lt h.low x.low ≡ false = le-ltb _ _ q in rw e (above 0 x (omega arith))
]
placed_above n h (x ∷ xs) low above (suc k) d w = elim (cases_lt h.low x.low) [
  | inl q ↦ let e : nat_lt h.low x.low ≡ true = lt-ltb _ _ q in rw e (above k d (omega arith))
  | inr q ↦ let e : nat_lt h.low x.low ≡ false = le-ltb _ _ q in rw e (placed_above n h xs low (λ j c u. above (suc j) c (omega arith)) k d (omega arith))
]

head_missing : (low : ℕ) (x : Hint) (xs : List Hint) → has_low (x ∷ xs) low ≡ false → (x.low ≡ low → ⊥) × (has_low xs low ≡ false)
head_missing low x xs none = elim (cases_eq x.low low) [
  | inl q ↦ absurd (let e : nat_eq x.low low ≡ true = eq-eqb _ _ q in true≢false (subst (λ (b : Bool). (if b then true else has_low xs low) ≡ false) e none))
  | inr q ↦ let e : nat_eq x.low low ≡ false = ne_eqb _ _ q in (q, subst (λ (b : Bool). (if b then true else has_low xs low) ≡ false) e none)
]

placed_ascends : (h : Hint) (xs : List Hint) → has_low xs h.low ≡ false → LowsAscend xs → LowsAscend (placed xs h)
placed_ascends h [] none asc = single_ascends h
placed_ascends h (x ∷ xs) none asc = let m = head_missing h.low x xs none in elim (cases_lt h.low x.low) [
  | inl q ↦ let e : nat_lt h.low x.low ≡ true = lt-ltb _ _ q in rw e (asc_cons h (x ∷ xs) (above_all q) asc)
  | inr q ↦ let e : nat_lt h.low x.low ≡ false = le-ltb _ _ q in rw e (asc_cons x (placed xs h) (λ k d w. placed_above x.low h xs (let n = m.0 in lt_of_ne x.low h.low n q) (asc_head x xs asc) k d (let g = placed_length h xs in omega arith)) (placed_ascends h xs m.1 (asc_tail x xs asc)))
]
  where
    above_all : h.low < x.low → (k : ℕ) (d : Hint) → k < length (x ∷ xs) → h.low < (get_or (x ∷ xs) k d).low
    above_all q zero d b = q
    above_all q (suc k) d b = let up = asc_head x xs asc k d (omega arith) in omega arith

-- what a post leaves, by its three cases
module _ (P : List Hint → Type 0) (xs : List Hint) (h : Hint) where
  pub after_post_by : (has_low xs h.low ≡ true → P (replaced xs h)) → (has_low xs h.low ≡ false → length xs ≡ 64 → P (h ∷ [])) → (has_low xs h.low ≡ false → (length xs ≡ 64 → ⊥) → P (placed xs h)) → P (after_post xs h)
  after_post_by a b c = elim (cases_Bool (has_low xs h.low)) [
    | inl e ↦ rw e (a e)
    | inr e ↦ elim (cases_eq (length xs) 64) [
      | inl q ↦ let f : nat_eq (length xs) 64 ≡ true = eq-eqb _ _ q in rw (e, f) (b e q)
      | inr q ↦ let f : nat_eq (length xs) 64 ≡ false = ne_eqb _ _ q in rw (e, f) (c e q)
    ]
  ]

pub after_post_ascends : (h : Hint) (xs : List Hint) → LowsAscend xs → LowsAscend (after_post xs h)
after_post_ascends h xs asc = after_post_by LowsAscend xs h (λ e. replaced_ascends h xs asc) (λ e q. single_ascends h) (λ e q. placed_ascends h xs e asc)

pub list_ascends : (posts : List Hint) → LowsAscend (list_after posts)
list_ascends [] = λ i j d a b. absurd (let c : j < 0 = b in omega arith)
list_ascends (h ∷ older) = after_post_ascends h (list_after older) (list_ascends older)

lt_64 : (n : ℕ) → n ≤ 64 → (n ≡ 64 → ⊥) → suc n ≤ 64
lt_64 n le ne = lt_of_ne n 64 ne le

-- a list has at most 64 hints
pub list_few : (posts : List Hint) → length (list_after posts) ≤ 64
list_few [] = omega arith
list_few (h ∷ older) =
    let few = list_few older in
    let xs = list_after older in
    after_post_by (λ l. length l ≤ 64) xs h (λ e. let n = same_length h xs in omega arith) (λ e q. omega arith) (λ e q. let n = placed_length h xs in let m = lt_64 (length xs) few q in omega arith)

has_some : (low : ℕ) (xs : List Hint) → has_low xs low ≡ true → 0 < length xs
has_some low [] e = absurd (true≢false (sym e))
has_some low (x ∷ xs) e = omega arith

pub after_post_some : (h : Hint) (xs : List Hint) → 0 < length (after_post xs h)
after_post_some h xs = after_post_by (λ l. 0 < length l) xs h (λ e. let n = has_some h.low xs e in let m = same_length h xs in omega arith) (λ e q. omega arith) (λ e q. let n = placed_length h xs in omega arith)

-- a search that ends before a greater low
pub all_after : (low : ℕ) (xs : List Hint) (i : ℕ) (x : Hint) → LowsAscend xs → i < length xs → low < (get_or xs i x).low → (k : ℕ) (d : Hint) → i ≤ k → k < length xs → low < (get_or xs k d).low
all_after low xs i x asc w less k d a b =
    let here : low < (get_or xs i d).low = subst (λ (y : Hint). low < y.low) (get_or_default xs i x d w) less in
    elim (cases_lt i k) [
      | inl q ↦ let up = asc i k d q b in omega arith
      | inr q ↦ let e : i ≡ k = omega arith in subst (λ (n : ℕ). low < (get_or xs n d).low) e here
    ]

pub after_post_found : (h : Hint) (xs : List Hint) (i : ℕ) → HasLowAt h.low xs i → after_post xs h ≡ set xs i h
after_post_found h xs i f = let e = found_has h.low xs i f in rw e (found_set h xs i f)

pub after_post_full : (h : Hint) (xs : List Hint) (i : ℕ) → LacksLowAt h.low xs i → nat_eq (length xs) 64 ≡ true → after_post xs h ≡ h ∷ []
after_post_full h xs i f full = let e = missing_has h.low xs i f in rw (e, full) refl

pub after_post_room : (h : Hint) (xs : List Hint) (i : ℕ) → LacksLowAt h.low xs i → nat_eq (length xs) 64 ≡ false → after_post xs h ≡ insert xs i h
after_post_room h xs i f room = let e = missing_has h.low xs i f in rw (e, room) (missing_insert h xs i f)

pub found_near : (place : ℕ) (xs : List Hint) (i : ℕ) (d : Hint) → LowsAscend xs → HasLowAt place xs i → hint_in xs place ≡ Some (get_or xs i d).node
found_near place xs i d asc f =
    let n : nearest_in xs place ≡ Some (get_or xs i d) = last_near xs place i d asc f.within
    (λ k c a b. elim (cases_lt k i) [ inl q ↦ let low = f.before k c q b in omega arith | inr q ↦ let e : i ≡ k = omega arith in let at = f.here c in subst (λ (m : ℕ). (get_or xs m c).low ≤ place) e (omega arith) ])
    (λ k c a b. let up = asc i k c a b in let at = f.here c in omega arith) in
    rw n refl

pub missing_near : (place : ℕ) (xs : List Hint) (i : ℕ) (d : Hint) → LowsAscend xs → LacksLowAt place xs (suc i) → hint_in xs place ≡ Some (get_or xs i d).node
missing_near place xs i d asc f =
    let n : nearest_in xs place ≡ Some (get_or xs i d) = last_near xs place i d asc (let w = f.within in omega arith)
    (λ k c a b. let low = f.before k c (omega arith) b in omega arith)
    (λ k c a b. f.after k c (omega arith) b) in
    rw n refl

pub missing_none : (place : ℕ) (xs : List Hint) → LacksLowAt place xs 0 → hint_in xs place ≡ None
missing_none place xs f = let n = none_near xs place (λ k c b. f.after k c (omega arith) b) in rw n refl

-- a list written over by one as long
pub refill_same : (n : ℕ) (xs ws : List Hint) → length ws ≡ n → refill n xs ws ≡ ws
refill_same n xs ws e = ap (λ m. take m (ws ++ drop (length ws) xs)) (sym e) ∙ take-append_seam ws (drop (length ws) xs)

pub written : (xs ys : List Hint) (i : ℕ) (h : Hint) → ys ≡ xs → refill (length xs) xs (set ys i h) ≡ set xs i h
written xs ys i h e = refill_same (length xs) xs (set ys i h) (length-set ys i h ∙ ap length e) ∙ ap (λ l. set l i h) e

module _ {X Y : Type 0} where
  pub push_each : (xs : List X) (ys : List Y) (x : X) (y : Y) → length xs ≡ length ys → length (xs ++ x ∷ []) ≡ length (ys ++ y ∷ [])
  push_each [] [] x y e = refl
  push_each [] (b ∷ ys) x y e = absurd (omega arith)
  push_each (a ∷ xs) [] x y e = absurd (omega arith)
  push_each (a ∷ xs) (b ∷ ys) x y e = ap suc (push_each xs ys x y (omega arith))
