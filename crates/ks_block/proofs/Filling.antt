-- What the moves of a memory make of places that begin with their values.
use Rattle.std.proofs.Common.{◌≡◌, ℕ, zero, suc, ◌+◌, ◌-◌, ◌<◌, ◌≤◌, List, [], ◌∷◌, ◌++◌, map, length, take, drop, get_or, set, replicate, refl, sym, ap, subst, ◌∙◌, arith, length-append, length-take, length-drop, length-set, get_or-set_same, take-append-drop, append-nil}
use Rattle.std.proofs.lemmas.List.{append_assoc, map-append, length-map, length-replicate, replicate-append-replicate, drop-replicate, take-replicate, set-append_left, get_or_append_left, get_or-append_right}
use Rattle.std.proofs.Math.Seq.{take-append_seam, drop-append_seam, drop-append-add, set-append_seam, drop-cons}
use Rattle.std.specs.Prelude.{Option, Some, None}
use Rattle.std.specs.List.{insert, remove}
use Rattle.ks_block.specs.Places.{IsFilled, IsRun, run, spliced, raised, lowered}
use Rattle.ks_block.specs.Filled.{somes, filled, IsFilledFirst}

-- a place is written twice
set_again : {Y : Type 0} (ys : List Y) (i : ℕ) (a b : Y) → set (set ys i a) i b ≡ set ys i b
set_again [] i a b = refl
set_again (y ∷ ys) zero a b = refl
set_again (y ∷ ys) (suc i) a b = ap (λ l. y ∷ l) (set_again ys i a b)

module _ {X : Type 0} where
  somes_none : (n : ℕ) → somes {X = X} (replicate n None) ≡ []
  somes_none zero = refl
  somes_none (suc n) = somes_none n

  somes_before : (xs : List X) (cs : List (Option X)) → somes (map Some xs ++ cs) ≡ xs ++ somes cs
  somes_before [] cs = refl
  somes_before (x ∷ xs) cs = ap (λ l. x ∷ l) (somes_before xs cs)

  pub somes-filled : (xs : List X) (n : ℕ) → somes (filled xs n) ≡ xs
  unfolding filled
  somes-filled xs n = somes_before xs (replicate (n - length xs) None) ∙ ap (λ l. xs ++ l) (somes_none (n - length xs)) ∙ append-nil xs

  pub length-filled : (xs : List X) (n : ℕ) → length xs ≤ n → length (filled xs n) ≡ n
  unfolding filled
  length-filled xs n le = let none : Option X = None in omega (arith, length-append (map Some xs) (replicate (n - length xs) none), length-map xs Some, length-replicate (n - length xs) none)

  pub length-somes : (cs : List (Option X)) → length (somes cs) ≤ length cs
  length-somes [] = omega arith
  length-somes (None ∷ cs) = omega (arith, length-somes cs)
  length-somes (Some x ∷ cs) = omega (arith, length-somes cs)

  -- places that begin with the values follow from the values
  pub first : (cs : List (Option X)) (xs : List X) (n : ℕ) → length xs ≤ n → cs ≡ filled xs n → (somes cs ≡ xs) × (length cs ≡ n) × (cs ≡ filled (somes cs) (length cs))
  first cs xs n le e =
      let values = ap somes e ∙ somes-filled xs n in let long = ap length e ∙ length-filled xs n le in
      (values, long, e ∙ (λ j. filled (sym values j) (sym long j)))

  -- the invariant of a block, after a move
  pub kept : (cs : List (Option X)) (xs : List X) (n count : ℕ) → cs ≡ filled xs n → count ≡ length xs → length xs ≤ n → 0 < n → n ≤ 1024
      → IsFilledFirst cs count × (0 < length cs) × (length cs ≤ 1024)
  kept cs xs n count e many le pos limit =
      let told = first cs xs n le e in let long = told.1 in let values : length (somes cs) ≡ length xs = ap length told.0 in
      ((told.2, omega arith, omega arith), omega arith, omega arith)

  some_at : (xs : List X) (i : ℕ) (d : X) → i < length xs → get_or (map Some xs) i None ≡ Some (get_or xs i d)
  some_at [] i d h = absurd (omega arith)
  some_at (x ∷ xs) zero d h = refl
  some_at (x ∷ xs) (suc i) d h = some_at xs i d (omega arith)

  -- the place of a value holds it
  pub held_at : (xs : List X) (n i : ℕ) (d : X) → i < length xs → get_or (filled xs n) i None ≡ Some (get_or xs i d)
  unfolding filled
  held_at xs n i d h = get_or_append_left (map Some xs) (replicate (n - length xs) None) None i (omega (arith, length-map xs Some)) ∙ some_at xs i d h

  none_at : (n i : ℕ) → let none : Option X = None in get_or (replicate n none) i none ≡ none
  none_at zero i = refl
  none_at (suc n) zero = refl
  none_at (suc n) (suc i) = none_at n i

  set_some : (xs : List X) (i : ℕ) (x : X) → set (map Some xs) i (Some x) ≡ map Some (set xs i x)
  set_some [] i x = refl
  set_some (y ∷ ys) zero x = refl
  set_some (y ∷ ys) (suc i) x = ap (λ l. Some y ∷ l) (set_some ys i x)

  -- the places behind the values are empty
  pub empty_at : (xs : List X) (n i : ℕ) → length xs ≤ i → get_or (filled xs n) i None ≡ None
  unfolding filled
  empty_at xs n i h = get_or-append_right (map Some xs) (replicate (n - length xs) None) (length xs) i None (length-map xs Some) h ∙ none_at (n - length xs) (i - length xs)

module _ {X : Type 0} (A B C : List (Option X)) where
  raise_seam : (c : Option X) → raised (A ++ (B ++ c ∷ C)) (length A) (length B) ≡ A ++ None ∷ (B ++ C)
  raise_seam c =
      let front = take-append_seam A (B ++ c ∷ C) in
      let part = ap (take (length B)) (drop-append_seam A (B ++ c ∷ C)) ∙ take-append_seam B (c ∷ C) in
      let back = drop-append-add A (B ++ c ∷ C) (length B + 1) ∙ drop-append-add B (c ∷ C) 1 in
      λ j. front j ++ (None ∷ part j ++ back j)

  lower_seam : (c : Option X) → lowered (A ++ c ∷ (B ++ C)) (length A) (length B) ≡ A ++ (B ++ None ∷ C)
  lower_seam c =
      let front = take-append_seam A (c ∷ (B ++ C)) in
      let part = ap (take (length B)) (drop-append-add A (c ∷ (B ++ C)) 1) ∙ take-append_seam B C in
      let more : length B + 1 ≡ suc (length B) = omega arith in
      let back = drop-append-add A (c ∷ (B ++ C)) (length B + 1) ∙ ap (λ (k : ℕ). drop k (c ∷ (B ++ C))) more ∙ drop-append_seam B C in
      (λ j. front j ++ ((part j ++ None ∷ []) ++ back j)) ∙ ap (λ l. A ++ l) (append_assoc B (None ∷ []) C)

  splice_seam : (D : List (Option X)) → spliced (A ++ (B ++ C)) (length A) (length B) D ≡ A ++ (D ++ C)
  splice_seam D =
      let front = take-append_seam A (B ++ C) in let back = drop-append-add A (B ++ C) (length B) ∙ drop-append_seam B C in
      λ j. front j ++ (D ++ back j)

  run_seam : run (A ++ (B ++ C)) (length A) (length B) ≡ B
  run_seam = ap (take (length B)) (drop-append_seam A (B ++ C)) ∙ take-append_seam B C

module _ {X : Type 0} (xs : List X) (n i : ℕ) where
  -- the values before the index, and those from it on
  abbrev us : List X
  us = take i xs

  abbrev vs : List X
  vs = drop i xs

  abbrev rest : List (Option X)
  rest = replicate (n - length xs) None

  in_two : filled xs n ≡ map Some us ++ (map Some vs ++ rest)
  unfolding filled
  in_two = ap (λ l. l ++ rest) (ap (map Some) (sym (take-append-drop i xs)) ∙ map-append Some us vs) ∙ append_assoc (map Some us) (map Some vs) rest

  before : i ≤ length xs → i ≡ length (map Some us)
  before le = omega (arith, length-map us Some, length-take i xs)

  behind : (k : ℕ) → i + k ≡ length xs → k ≡ length (map Some vs)
  behind k e = omega (arith, length-map vs Some, length-drop i xs)

  module _ (k : ℕ) (e : i + k ≡ length xs) where
    -- the values from the index on
    pub run-filled : run (filled xs n) i k ≡ map Some vs
    run-filled = (λ j. run (in_two j) (before (omega arith) j) (behind k e j)) ∙ run_seam (map Some us) (map Some vs) rest

    pub values_run : length xs ≤ n → IsRun (filled xs n) i k
    values_run le = (omega (arith, length-filled xs n le), (vs, run-filled))

    -- the first of two blocks keeps the values before the index
    pub keeps-filled : length xs ≤ n → spliced (filled xs n) i k (replicate k None) ≡ filled us n
    unfolding filled
    keeps-filled le =
        let count : k + (n - length xs) ≡ n - length us = omega (arith, length-take i xs) in
        (λ j. spliced (in_two j) (before (omega arith) j) (behind k e j) (replicate k None)) ∙ splice_seam (map Some us) (map Some vs) rest (replicate k None)
        ∙ ap (λ l. map Some us ++ l) (replicate-append-replicate k (n - length xs) None ∙ ap (λ (m : ℕ). replicate m None) count)

    -- the second has those from it on
    pub comes-filled : (m : ℕ) → run (filled xs n) i k ++ drop k (replicate m None) ≡ filled vs m
    unfolding filled
    comes-filled m =
        let count : m - k ≡ m - length vs = omega (arith, length-drop i xs) in
        (λ j. run-filled j ++ drop-replicate k m None j) ∙ ap (λ (c : ℕ). map Some vs ++ replicate c None) count

    -- a value more at the index
    pub raised-filled : (x : X) → length xs < n → set (raised (filled xs n) i k) i (Some x) ≡ filled (insert xs i x) n
    unfolding filled
    raised-filled x lt =
        let A = map Some us in let B = map Some vs in let C : List (Option X) = replicate (n - length xs - 1) None in
        let one : n - length xs ≡ suc (n - length xs - 1) = omega arith in
        let parts : filled xs n ≡ A ++ (B ++ None ∷ C) = in_two ∙ ap (λ (m : ℕ). A ++ (B ++ replicate m None)) one in
        let count : n - length xs - 1 ≡ n - length (insert xs i x) = omega (arith, length-append us (x ∷ vs), length-take i xs, length-drop i xs) in
        (λ j. set (raised (parts j) (before (omega arith) j) (behind k e j)) (before (omega arith) j) (Some x)) ∙ ap (λ l. set l (length A) (Some x)) (raise_seam A B C None)
        ∙ set-append_seam A None (B ++ C) (Some x) ∙ sym (append_assoc A (Some x ∷ B) C) ∙ ap (λ l. l ++ C) (sym (map-append Some us (x ∷ vs))) ∙ ap (λ (m : ℕ). map Some (insert xs i x) ++ replicate m None) count

module _ {X : Type 0} (xs : List X) (n i : ℕ) (d : X) (lt : i < length xs) where
  abbrev later : List X
  later = drop (suc i) xs

  around : filled xs n ≡ map Some (take i xs) ++ Some (get_or xs i d) ∷ (map Some later ++ replicate (n - length xs) None)
  around = in_two xs n i ∙ ap (λ l. map Some (take i xs) ++ (map Some l ++ replicate (n - length xs) None)) (drop-cons xs i d lt)

  -- another value at the index
  pub set-filled : (x : X) → set (filled xs n) i (Some x) ≡ filled (set xs i x) n
  unfolding filled
  set-filled x =
      set-append_left (map Some xs) (replicate (n - length xs) None) i (Some x) (omega (arith, length-map xs Some))
      ∙ (λ j. set_some xs i x j ++ replicate (n - sym (length-set xs i x) j) None)

  module _ (k : ℕ) (e : i + 1 + k ≡ length xs) where
    at_index : i ≡ length (map Some (take i xs))
    at_index = before xs n i (omega arith)

    emptied : set (filled xs n) i None ≡ map Some (take i xs) ++ None ∷ (map Some later ++ replicate (n - length xs) None)
    emptied = (λ j. set (around j) (at_index j) None) ∙ set-append_seam (map Some (take i xs)) (Some (get_or xs i d)) (map Some later ++ replicate (n - length xs) None) None

    -- the later values behind the index, where its own is gone
    pub later_run : length xs ≤ n → IsRun (set (filled xs n) i None) (i + 1) k
    later_run le =
        let A = map Some (take i xs) in let B = map Some later in let C : List (Option X) = replicate (n - length xs) None in
        let many : k ≡ length B = omega (arith, length-map later Some, length-drop (suc i) xs) in
        let part = ap (take (length B)) (drop-append-add A (None ∷ (B ++ C)) 1) ∙ take-append_seam B C in
        (omega (arith, length-set (filled xs n) i None, length-filled xs n le), (later, (λ j. run (emptied j) (at_index j + 1) (many j)) ∙ part))

    -- the value at the index is gone
    pub lowered-filled : length xs ≤ n → lowered (set (filled xs n) i None) i k ≡ filled (remove xs i) n
    unfolding filled
    lowered-filled le =
        let A = map Some (take i xs) in let B = map Some later in let C : List (Option X) = replicate (n - length xs) None in
        let many : k ≡ length B = omega (arith, length-map later Some, length-drop (suc i) xs) in
        let count : suc (n - length xs) ≡ n - length (remove xs i) = omega (arith, length-append (take i xs) later, length-take i xs, length-drop (suc i) xs) in
        (λ j. lowered (emptied j) (at_index j) (many j)) ∙ lower_seam A B C None ∙ sym (append_assoc A B (None ∷ C)) ∙ ap (λ l. l ++ None ∷ C) (sym (map-append Some (take i xs) later))
        ∙ ap (λ (m : ℕ). map Some (remove xs i) ++ replicate m None) count

value_of : {X : Type 0} → X → Option X → X
value_of x None = x
value_of x (Some y) = y

pub same_value : {X : Type 0} (x y : X) → Some x ≡ Some y → x ≡ y
unfolding value_of
same_value x y e = ap (value_of x) e

-- places that begin with their values, before and after a move
module _ {X : Type 0} (cs : List (Option X)) (count : ℕ) (inv : IsFilledFirst cs count) where
  abbrev xs : List X
  xs = somes cs

  abbrev n : ℕ
  n = length cs

  laid : cs ≡ filled xs n
  laid = inv.0

  pub value_at : (i : ℕ) (d : X) → i < length xs → get_or cs i None ≡ Some (get_or xs i d)
  value_at i d h = (λ j. get_or (laid j) i None) ∙ held_at xs n i d h

  pub can_read : (i : ℕ) (d : X) → i < length xs → IsFilled cs i
  can_read i d h = (get_or xs i d, value_at i d h)

  pub is_read : (i : ℕ) (x d : X) → i < length xs → get_or cs i None ≡ Some x → x ≡ get_or xs i d
  is_read i x d h e = same_value x (get_or xs i d) (sym e ∙ value_at i d h)

  pub can_raise : (at : ℕ) → at ≤ length xs → length xs < n → IsRun cs at (count - at) × (at + (count - at) < n) × (get_or cs (at + (count - at)) None ≡ None)
  can_raise at le room =
      let many = inv.1 in (
        subst (λ (l : List (Option X)). IsRun l at (count - at)) (sym laid) (values_run xs n at (count - at) (omega arith) (omega arith)),
        omega arith,
        (λ j. get_or (laid j) (at + (count - at)) None) ∙ empty_at xs n (at + (count - at)) (omega arith),
      )

  pub inserted : (at : ℕ) (x : X) → at ≤ length xs → length xs < n → set (raised cs at (count - at)) at (Some x) ≡ filled (insert xs at x) n
  inserted at x le room = let many = inv.1 in (λ j. set (raised (laid j) at (count - at)) at (Some x)) ∙ raised-filled xs n at (count - at) (omega arith) x room

  pub can_lower : (at : ℕ) (d : X) → at < length xs → (get_or (set cs at None) at None ≡ None) × IsRun (set cs at None) (at + 1) (count - 1 - at)
  can_lower at d h =
      let many = inv.1 in let le = inv.2 in
      (get_or-set_same cs at None None (omega arith), subst (λ (l : List (Option X)). IsRun (set l at None) (at + 1) (count - 1 - at)) (sym laid) (later_run xs n at d h (count - 1 - at) (omega arith) (omega arith)))

  pub removed : (at : ℕ) (d : X) → at < length xs → lowered (set cs at None) at (count - 1 - at) ≡ filled (remove xs at) n
  removed at d h = let many = inv.1 in let le = inv.2 in (λ j. lowered (set (laid j) at None) at (count - 1 - at)) ∙ lowered-filled xs n at d h (count - 1 - at) (omega arith) (omega arith)

  pub rewritten : (at : ℕ) (x : X) → at < length xs → set (set cs at None) at (Some x) ≡ filled (set xs at x) n
  rewritten at x h = set_again cs at None (Some x) ∙ (λ j. set (laid j) at (Some x)) ∙ set-filled xs n at x h x

  pub can_hand : (at : ℕ) → at ≤ length xs → IsRun cs at (count - at)
  can_hand at le = let many = inv.1 in subst (λ (l : List (Option X)). IsRun l at (count - at)) (sym laid) (values_run xs n at (count - at) (omega arith) (omega (arith, inv.2)))

  pub handed : (at : ℕ) → at ≤ length xs → spliced cs at (count - at) (replicate (count - at) None) ≡ filled (take at xs) n
  handed at le = let many = inv.1 in (λ j. spliced (laid j) at (count - at) (replicate (count - at) None)) ∙ keeps-filled xs n at (count - at) (omega arith) (omega (arith, inv.2))

  -- the places of another memory, which are empty
  module _ (ds : List (Option X)) (e : ds ≡ filled (somes ds) (length ds)) (none : somes ds ≡ []) where
    all_empty : ds ≡ replicate (length ds) None
    unfolding filled
    all_empty = let same : length ds - 0 ≡ length ds = omega arith in e ∙ (λ j. filled (none j) (length ds)) ∙ ap (λ (k : ℕ). replicate k None) same

    pub can_take : (k : ℕ) → k ≤ length ds → take k ds ≡ replicate k None
    can_take k le = ap (take k) all_empty ∙ take-replicate k (length ds) None le

    pub taken : (at : ℕ) → at ≤ length xs → run cs at (count - at) ++ drop (count - at) ds ≡ filled (drop at xs) (length ds)
    taken at le = let many = inv.1 in (λ j. run (laid j) at (count - at) ++ drop (count - at) (all_empty j)) ∙ comes-filled xs n at (count - at) (omega arith) (length ds)
