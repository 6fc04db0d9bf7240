-- The steps of the loops over slices.
use Rattle.std.specs.Prelude.{◌≡◌, ℕ, zero, suc, ◌+◌, ◌-◌, ◌*◌, ◌/◌, ◌%◌, ◌^◌, ◌<◌, ◌≤◌, true, false, nat_eq, IsTrue, List, [], ◌∷◌, ◌++◌, length, get_or, take, drop, position, Option, Some, refl}
use Rattle.std.proofs.Common.{arith, drop-cons, add-one, ap, ◌∙◌, sym, set}
use Rattle.std.proofs.lemmas.List.{append_assoc, append-nil, drop-set-lt, take-append-drop}
use Rattle.std.proofs.lemmas.List.Quantifiers.{position-Some}
use Rattle.std.proofs.lemmas.Bool.{eqb-true, eq-eqb, ne_eqb}
use Rattle.std.proofs.Math.Seq.{take-suc, take-suc-set, take-length, take-append_seam}
use Rattle.std.specs.List.{refill}
use Rattle.ks_node.specs.declared.start.Start.{Start}
use Rattle.ks_node.specs.Body.{first_node, begins, starts_below, starts_from}
use Rattle.ks_node.specs.Effect.{runs}
use Rattle.ks_hash.specs.Slices.{is_size, smallest, width_of, slice_starts, repeats, starts_of, doubled, led_over, run_led}
use Rattle.ks_hash.specs.Laws.Joined.{joined_after, starts_adopted, by_size, size_bounds, doubled_length}

doubled_append : (cs ds : List ℕ) → doubled (cs ++ ds) ≡ doubled cs ++ doubled ds
doubled_append [] ds = refl
doubled_append (c ∷ cs) ds = ap (λ l. c ∷ c ∷ l) (doubled_append cs ds)

pub double_more : (halves cs : List ℕ) (i : ℕ) → halves ≡ doubled (take i cs) → i < length cs →
    (halves ++ get_or cs i 0 ∷ []) ++ get_or cs i 0 ∷ [] ≡ doubled (take (i + 1) cs)
double_more halves cs i e h =
    let x : ℕ = get_or cs i 0 in
    append_assoc halves (x ∷ []) (x ∷ []) ∙ ap (λ l. l ++ x ∷ x ∷ []) e ∙ sym (doubled_append (take i cs) (x ∷ []))
    ∙ ap doubled (sym (take-suc cs i 0 h)) ∙ ap (λ n. doubled (take n cs)) (sym (add-one i))

pub lead_more : (child to i : ℕ) (cs : List ℕ) → i < length cs → get_or cs i 0 ≡ child →
    take i cs ++ led_over child to (drop i cs) ≡ take (i + 1) (set cs i to) ++ led_over child to (drop (i + 1) (set cs i to))
lead_more child to i cs h same =
    let here : nat_eq (get_or cs i 0) child ≡ true = eq-eqb _ _ same in
    let front : take (suc i) (set cs i to) ≡ take i cs ++ to ∷ [] = take-suc-set cs i to h in
    let back : drop (suc i) (set cs i to) ≡ drop (suc i) cs = drop-set-lt (suc i) cs i to (omega arith) in
    ap (λ l. take i cs ++ led_over child to l) (drop-cons cs i 0 h)
    ∙ rw here (sym (append_assoc (take i cs) (to ∷ []) (led_over child to (drop (suc i) cs))))
    ∙ ap (λ l. l ++ led_over child to (drop (suc i) cs)) (sym front)
    ∙ ap (λ l. take (suc i) (set cs i to) ++ led_over child to l) (sym back)
    ∙ ap (λ n. take n (set cs i to) ++ led_over child to (drop n (set cs i to))) (sym (add-one i))

pub lead_end : (child to i : ℕ) (cs : List ℕ) → i < length cs → (get_or cs i 0 ≡ child → ⊥) → take i cs ++ led_over child to (drop i cs) ≡ cs
lead_end child to i cs h other =
    let here : nat_eq (get_or cs i 0) child ≡ false = ne_eqb _ _ other in
    ap (λ l. take i cs ++ led_over child to l) (drop-cons cs i 0 h) ∙ rw here (ap (λ l. take i cs ++ l) (sym (drop-cons cs i 0 h))) ∙ take-append-drop i cs

pub lead_all : (child to i : ℕ) (cs : List ℕ) → i ≡ length cs → take i cs ++ led_over child to (drop i cs) ≡ cs
lead_all child to i cs e = ap (λ n. take n cs ++ led_over child to (drop n cs)) e ∙ all cs
  where
    drop_all : (cs : List ℕ) → drop (length cs) cs ≡ []
    drop_all [] = refl
    drop_all (c ∷ cs) = drop_all cs

    all : (cs : List ℕ) → take (length cs) cs ++ led_over child to (drop (length cs) cs) ≡ cs
    all cs = ap (λ l. take (length cs) cs ++ led_over child to l) (drop_all cs) ∙ append-nil _ ∙ take-length cs

-- if a place that begins a smallest slice begins no slice, the slices can be halved
pub halves_left : (n p : ℕ) → IsTrue (is_size n) → p % smallest ≡ 0 → (p % (2 ^ 64 / n) ≡ 0 → ⊥) → n ≤ 32
halves_left n p h = by_size (λ n. p % smallest ≡ 0 → (p % (2 ^ 64 / n) ≡ 0 → ⊥) → n ≤ 32)
    (λ w o. omega arith) (λ w o. omega arith) (λ w o. omega arith) (λ w o. omega arith) (λ w o. omega arith) (λ w o. absurd (o w)) n h

pub fewer_left : (cs : List ℕ) → IsTrue (is_size (length cs)) → length cs ≤ 32 → 64 - length (doubled cs) < 64 - length cs
fewer_left cs size h = let two = size_bounds (length cs) size in let n = doubled_length cs in omega arith

module _ (starts all : List Start) (before : Option ℕ) (width i : ℕ) (cs : List ℕ) (h : i < length cs)
    (so_far : starts ++ joined_after before (slice_starts width (i * width) (drop i cs)) ≡ all) where
  next_low : i * width + width ≡ (i + 1) * width
  next_low = omega arith

  -- the next slice goes on with the run, or begins one
  pub runs_same : repeats before (get_or cs i 0) ≡ true → starts ++ joined_after before (slice_starts width ((i + 1) * width) (drop (i + 1) cs)) ≡ all
  runs_same e =
      ap (λ n. starts ++ joined_after before (slice_starts width n (drop (i + 1) cs))) (sym next_low)
      ∙ ap (λ n. starts ++ joined_after before (slice_starts width (i * width + width) (drop n cs))) (add-one i)
      ∙ sym (ap (λ l. starts ++ joined_after before (slice_starts width (i * width) l)) (drop-cons cs i 0 h) ∙ rw e refl)
      ∙ so_far

  pub runs_new : repeats before (get_or cs i 0) ≡ false → (starts ++ record { low = i * width; node = get_or cs i 0 } ∷ []) ++ joined_after (Some (get_or cs i 0)) (slice_starts width ((i + 1) * width) (drop (i + 1) cs)) ≡ all
  runs_new e =
      let s : Start = record { low = i * width; node = get_or cs i 0 } in
      append_assoc starts (s ∷ []) _
      ∙ ap (λ n. starts ++ s ∷ joined_after (Some (get_or cs i 0)) (slice_starts width n (drop (i + 1) cs))) (sym next_low)
      ∙ ap (λ n. starts ++ s ∷ joined_after (Some (get_or cs i 0)) (slice_starts width (i * width + width) (drop n cs))) (add-one i)
      ∙ sym (ap (λ l. starts ++ joined_after before (slice_starts width (i * width) l)) (drop-cons cs i 0 h) ∙ rw e refl)
      ∙ so_far

pub runs_all : (starts all : List Start) (before : Option ℕ) (width i : ℕ) (cs : List ℕ) → length cs ≤ i →
    starts ++ joined_after before (slice_starts width (i * width) (drop i cs)) ≡ all → starts ≡ all
runs_all starts all before width i cs h e =
    sym (ap (λ l. starts ++ joined_after before (slice_starts width (i * width) l)) (drop_past i cs h) ∙ append-nil starts) ∙ e
  where
    drop_past : (i : ℕ) (cs : List ℕ) → length cs ≤ i → drop i cs ≡ []
    drop_past zero [] h = refl
    drop_past (suc i) [] h = refl
    drop_past zero (c ∷ cs) h = absurd (omega arith)
    drop_past (suc i) (c ∷ cs) h = drop_past i cs (omega arith)

-- the first slice leads where the first edge leads
pub first_slice : (cs : List ℕ) (id i : ℕ) → (first_node (starts_of cs) ≡ Some id → ⊥) → position (λ c. nat_eq c id) cs ≡ Some i → 0 < i
first_slice cs id (suc i) later at = omega arith
first_slice cs id zero later at =
    let found = position-Some (λ c. nat_eq c id) cs 0 0 at in
    absurd (later (first cs found.0 ∙ ap (λ n. Some n) (eqb-true _ _ found.1)))
  where
    first : (cs : List ℕ) → 0 < length cs → first_node (starts_of cs) ≡ Some (get_or cs 0 0)
    first [] h = absurd (omega arith)
    first (c ∷ cs) h = refl

-- the index of the slice that begins at a place, which is not the first
pub slice_place : (n p : ℕ) → IsTrue (is_size n) → 0 < p → p < 2 ^ 64 → p % (2 ^ 64 / n) ≡ 0 → (0 < p / (2 ^ 64 / n)) × (p / (2 ^ 64 / n) < n) × ((p / (2 ^ 64 / n)) * (2 ^ 64 / n) ≡ p)
slice_place n p h = by_size (λ n. 0 < p → p < 2 ^ 64 → p % (2 ^ 64 / n) ≡ 0 → (0 < p / (2 ^ 64 / n)) × (p / (2 ^ 64 / n) < n) × ((p / (2 ^ 64 / n)) * (2 ^ 64 / n) ≡ p))
    (λ a l e. (omega arith, omega arith, omega arith)) (λ a l e. (omega arith, omega arith, omega arith)) (λ a l e. (omega arith, omega arith, omega arith)) (λ a l e. (omega arith, omega arith, omega arith)) (λ a l e. (omega arith, omega arith, omega arith)) (λ a l e. (omega arith, omega arith, omega arith)) n h

-- the starts of the slices once one begins at the cut and its run is led to the node
pub slices_adopted : (old cs : List ℕ) (cut id : ℕ) → starts_of cs ≡ starts_of old → IsTrue (is_size (length cs)) → cut % width_of cs ≡ 0 → 0 < cut → cut < 2 ^ 64 →
    begins cut (starts_of old) ≡ false →
    starts_of (run_led (cut / width_of cs) id cs) ≡ runs (starts_below cut (starts_of old) ++ record { low = cut; node = id } ∷ starts_from cut (starts_of old))
slices_adopted old cs cut id same size whole pos less free =
    let at = slice_place (length cs) cut size pos less whole in
    let place : (cut / width_of cs) * width_of cs ≡ cut = at.2 in
    starts_adopted cs (cut / width_of cs) id size at.0 at.1 (ap (λ n. begins n (starts_of cs)) place ∙ ap (begins cut) same ∙ free)
    ∙ ap (λ n. runs (starts_below n (starts_of cs) ++ record { low = n; node = id } ∷ starts_from n (starts_of cs))) place
    ∙ ap (λ l. runs (starts_below cut l ++ record { low = cut; node = id } ∷ starts_from cut l)) same

-- a list written over by one as long
pub refill_same : (n : ℕ) (xs ws : List ℕ) → length ws ≡ n → refill n xs ws ≡ ws
refill_same n xs ws e = ap (λ m. take m (ws ++ drop (length ws) xs)) (sym e) ∙ take-append_seam ws (drop (length ws) xs)
