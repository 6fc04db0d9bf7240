-- Starts of slices, joined where neighbours lead to the same child.
use Rattle.std.specs.Prelude.{◌≡◌, ℕ, zero, suc, ◌+◌, ◌-◌, ◌*◌, ◌/◌, ◌%◌, ◌^◌, ◌<◌, ◌≤◌, Bool, true, false, not, cond, ◌||◌, nat_eq, nat_lt, IsTrue, List, [], ◌∷◌, ◌++◌, length, get_or, take, drop, position, slice_get, is_some, Option, None, Some, All, find, refl}
use Rattle.std.specs.Option.{option_map}
use Rattle.std.proofs.Common.{arith, drop-cons, ap, ◌∙◌, sym, subst, inl, inr, ◌⊎◌}
use Rattle.std.proofs.lemmas.Bool.{lt-ltb, le-ltb, le-leb, lt-leb, eqb-true, eq-eqb, ne_eqb}
use Rattle.std.proofs.lemmas.Bool.Decides.{leb_tells, eqb_tells}
use Rattle.std.proofs.lemmas.List.{length-append, length-take-le, length-drop, take-append-drop, get_or_append_left, get_or-take, get_or-drop, append-nil}
use Rattle.std.proofs.lemmas.List.Sums.{position_or_len_is, fails_before_first}
use Rattle.std.proofs.lemmas.List.Quantifiers.{position-Some}
use Rattle.std.specs.List.{list_all, position_or_len}
use Rattle.std.proofs.lemmas.Grind.{get_or_default_zero}
use Rattle.std.proofs.Math.Seq.{get_or-append_seam, take-append_seam, drop-append-add}
use Rattle.std.proofs.lemmas.List.Elements.{filter-append, All-weaker, All-cons, All-head, All-tail, All-nil}
use Rattle.std.proofs.Math.Nat.{mul_comm}
use Rattle.ks_keysets.specs.Record.{top}
use Rattle.ks_node.specs.declared.start.Start.{Start}
use Rattle.ks_node.specs.Keyed.{Ascends}
use Rattle.ks_node.specs.Laws.Ascend.{asc_nil, asc_tail, asc_head, asc_cons}
use Rattle.ks_node.specs.Body.{first_node, last_node, led_to, starts_below, starts_from, begins, sole}
use Rattle.ks_node.specs.Effect.{runs, runs_after, without, without_at}
use Rattle.ks_node.specs.Sound.{starts_at_zero}
use Rattle.ks_hash.specs.Slices.{is_size, width_of, slice_starts, repeats, before_at, IsRunBegin, starts_of, doubled, led_over, run_led}

differ : {b : Bool} → b ≡ false → b ≡ true → ⊥
differ e f = cc

-- sizes

or_eq : (n k : ℕ) (b : Bool) → (nat_eq n k || b) ≡ true → (n ≡ k) ⊎ (b ≡ true)
or_eq n k b h = elim (eqb_tells n k) [ inl e ↦ inl e.1 | inr e ↦ inr (rw e.0 at h) ]

pub by_size : (P : ℕ → Type 0) → P 2 → P 4 → P 8 → P 16 → P 32 → P 64 → (n : ℕ) → IsTrue (is_size n) → P n
by_size P a b c d e f n h =
    elim (or_eq n 2 _ h) [
      | inl q ↦ subst P (sym q) a
      | inr h ↦
          elim (or_eq n 4 _ h) [
            | inl q ↦ subst P (sym q) b
            | inr h ↦
                elim (or_eq n 8 _ h) [
                  | inl q ↦ subst P (sym q) c
                  | inr h ↦
                      elim (or_eq n 16 _ h) [
                        | inl q ↦ subst P (sym q) d
                        | inr h ↦
                            elim (or_eq n 32 _ h) [ inl q ↦ subst P (sym q) e | inr h ↦ subst P (sym (eqb-true n 64 h)) f ]
                      ]
                ]
          ]
    ]

-- the width times the number of slices is the number of places
pub width_whole : (n : ℕ) → IsTrue (is_size n) → (2 ^ 64 / n) * n ≡ 2 ^ 64
width_whole n h = by_size (λ n. (2 ^ 64 / n) * n ≡ 2 ^ 64) refl refl refl refl refl refl n h

pub width_pos : (n : ℕ) → IsTrue (is_size n) → 0 < 2 ^ 64 / n
width_pos n h = by_size (λ n. 0 < 2 ^ 64 / n) (omega arith) (omega arith) (omega arith) (omega arith) (omega arith) (omega arith) n h

pub size_bounds : (n : ℕ) → IsTrue (is_size n) → (2 ≤ n) × (n ≤ 64)
size_bounds n h = by_size (λ n. (2 ≤ n) × (n ≤ 64)) (omega arith, omega arith) (omega arith, omega arith) (omega arith, omega arith) (omega arith, omega arith) (omega arith, omega arith) (omega arith, omega arith) n h

-- a place lies in a slice
pub slice_within : (n : ℕ) → IsTrue (is_size n) → (p : ℕ) → p < 2 ^ 64 → p / (2 ^ 64 / n) < n
slice_within n h = by_size (λ n. (p : ℕ) → p < 2 ^ 64 → p / (2 ^ 64 / n) < n) (λ p h. omega arith) (λ p h. omega arith) (λ p h. omega arith) (λ p h. omega arith) (λ p h. omega arith) (λ p h. omega arith) n h

-- the last start at or below a place leads on

abbrev lead : Option ℕ → List Start → ℕ → Option ℕ
lead o [] p = o
lead o (s ∷ ss) p = cond (nat_lt s.low (suc p)) (lead (Some s.node) ss p) (lead o ss p)

abbrev last_or : Option ℕ → List Start → Option ℕ
last_or o [] = o
last_or o (s ∷ ss) = last_or (Some s.node) ss

last_is : (s : Start) (ss : List Start) → last_node (s ∷ ss) ≡ last_or (Some s.node) ss
last_is s [] = refl
last_is s (t ∷ ts) =
    let e : length (s ∷ t ∷ ts) - 1 ≡ suc (length (t ∷ ts) - 1) = omega arith in
    ap (λ n. option_map (λ s. s.node) (slice_get (s ∷ t ∷ ts) n)) e ∙ last_is t ts

lead_step : (b : Bool) (o : Option ℕ) (s : Start) (ss : List Start) (u v : Option ℕ) → last_or (Some s.node) ss ≡ u → last_or o ss ≡ v →
    last_or o (cond b (s ∷ ss) ss) ≡ cond b u v
lead_step true o s ss u v e f = e
lead_step false o s ss u v e f = f

lead_filter : (o : Option ℕ) (ss : List Start) (p : ℕ) → last_or o (starts_below (suc p) ss) ≡ lead o ss p
lead_filter o [] p = refl
lead_filter o (s ∷ ss) p = lead_step (nat_lt s.low (suc p)) o s (starts_below (suc p) ss) _ _ (lead_filter (Some s.node) ss p) (lead_filter o ss p)

last_none : (ss : List Start) → last_node ss ≡ last_or None ss
last_none [] = refl
last_none (s ∷ ss) = last_is s ss

led_is : (ss : List Start) (p : ℕ) → led_to ss p ≡ lead None ss p
led_is ss p = last_none (starts_below (suc p) ss) ∙ lead_filter None ss p

-- starts without those that lead where the one before leads, after one that leads to a node or after none

abbrev pub joined_after : Option ℕ → List Start → List Start
joined_after o [] = []
joined_after o (s ∷ ss) = cond (repeats o s.node) (joined_after o ss) (s ∷ joined_after (Some s.node) ss)

runs_after_is : (m : ℕ) (ss : List Start) → joined_after (Some m) ss ≡ runs_after m ss
runs_after_is m [] = refl
runs_after_is m (s ∷ ss) = both (nat_eq s.node m) (runs_after_is m ss) (ap (λ l. s ∷ l) (runs_after_is s.node ss))
  where
    both : (b : Bool) {u v x y : List Start} → u ≡ x → v ≡ y → cond b u v ≡ cond b x y
    both true e f = e
    both false e f = f

pub runs_is : (ss : List Start) → joined_after None ss ≡ runs ss
runs_is [] = refl
runs_is (s ∷ ss) = ap (λ l. s ∷ l) (runs_after_is s.node ss)

-- the starts of a directory, joined
pub starts_joined : (cs : List ℕ) → starts_of cs ≡ joined_after None (slice_starts (width_of cs) 0 cs)
starts_joined cs = sym (runs_is _)

-- what joining keeps

repeats_is : (o : Option ℕ) (m : ℕ) → repeats o m ≡ true → o ≡ Some m
repeats_is None m h = absurd (differ refl h)
repeats_is (Some k) m h = ap (λ n. Some n) (sym (eqb-true _ _ h))

bool_cases : (b : Bool) → (b ≡ true) ⊎ (b ≡ false)
bool_cases true = inl refl
bool_cases false = inr refl

all_joined : (P : Start → Type 0) (o : Option ℕ) (ss : List Start) → All P ss → All P (joined_after o ss)
all_joined P o [] a = a
all_joined P o (s ∷ ss) a = elim (bool_cases (repeats o s.node)) [
  | inl e ↦ rw e (all_joined P o ss (All-tail P s ss a))
  | inr e ↦ rw e (All-cons P s (joined_after (Some s.node) ss) (All-head P s ss a) (all_joined P (Some s.node) ss (All-tail P s ss a)))
]

pub asc_joined : (o : Option ℕ) (ss : List Start) → Ascends (λ s. s.low) ss → Ascends (λ s. s.low) (joined_after o ss)
asc_joined o [] a = a
asc_joined o (s ∷ ss) a = elim (bool_cases (repeats o s.node)) [
  | inl e ↦ rw e (asc_joined o ss (asc_tail (λ s. s.low) s ss a))
  | inr e ↦ rw e (asc_cons (λ s. s.low) s (joined_after (Some s.node) ss) (all_joined (λ t. s.low < t.low) (Some s.node) ss (asc_head (λ s. s.low) s ss a)) (asc_joined (Some s.node) ss (asc_tail (λ s. s.low) s ss a)))
]

pub joined_le : (o : Option ℕ) (ss : List Start) → length (joined_after o ss) ≤ length ss
joined_le o [] = omega arith
joined_le o (s ∷ ss) = elim (bool_cases (repeats o s.node)) [
  | inl e ↦ (let less = joined_le o ss in rw e (omega arith))
  | inr e ↦ (let less = joined_le (Some s.node) ss in rw e (omega arith))
]

joined_twice : (o : Option ℕ) (ss : List Start) → joined_after o (joined_after o ss) ≡ joined_after o ss
joined_twice o [] = refl
joined_twice o (s ∷ ss) = elim (bool_cases (repeats o s.node)) [
  | inl e ↦ rw e (joined_twice o ss)
  | inr e ↦ rw (e, e) (ap (λ l. s ∷ l) (joined_twice (Some s.node) ss))
]

lead_above : (o : Option ℕ) (ss : List Start) (p : ℕ) → All (λ s. p < s.low) ss → lead o ss p ≡ o
lead_above o [] p a = refl
lead_above o (s ∷ ss) p a =
    let here : p < s.low = All-head (λ s. p < s.low) s ss a in
    let test : nat_lt s.low (suc p) ≡ false = le-ltb _ _ (omega arith) in
    rw test (lead_above o ss p (All-tail (λ s. p < s.low) s ss a))

lead_joined : (o : Option ℕ) (ss : List Start) (p : ℕ) → Ascends (λ s. s.low) ss → lead o (joined_after o ss) p ≡ lead o ss p
lead_joined o [] p a = refl
lead_joined o (s ∷ ss) p a = elim (bool_cases (repeats o s.node)) [
  | inl e ↦ (
      let same : o ≡ Some s.node = repeats_is o s.node e in
      let rest : lead o (joined_after o ss) p ≡ lead o ss p = lead_joined o ss p (asc_tail (λ s. s.low) s ss a) in
      rw e (rest ∙ sym (same_both (nat_lt s.low (suc p)) (lead o ss p) (lead (Some s.node) ss p) (ap (λ q. lead q ss p) (sym same)))))
  | inr e ↦ (
      let rest : lead (Some s.node) (joined_after (Some s.node) ss) p ≡ lead (Some s.node) ss p = lead_joined (Some s.node) ss p (asc_tail (λ s. s.low) s ss a) in
      rw e (by_test (nat_lt s.low (suc p)) rest (λ f. above p (All-weaker (λ t. s.low < t.low) (λ t. p < t.low) (λ t l. test_far s.low t.low p f l) ss (asc_head (λ s. s.low) s ss a)))))
]
  where
    same_both : (b : Bool) (x y : Option ℕ) → y ≡ x → cond b y x ≡ x
    same_both true x y e = e
    same_both false x y e = refl

    by_test : (b : Bool) {x y u v : Option ℕ} → x ≡ y → (b ≡ false → u ≡ v) → cond b x u ≡ cond b y v
    by_test true e f = e
    by_test false e f = f refl

    above : (p : ℕ) → All (λ t. p < t.low) ss → lead o (joined_after (Some s.node) ss) p ≡ lead o ss p
    above p h = lead_above o (joined_after (Some s.node) ss) p (all_joined (λ t. p < t.low) (Some s.node) ss h) ∙ sym (lead_above o ss p h)

    test_far : (a b p : ℕ) → nat_lt a (suc p) ≡ false → a < b → p < b
    test_far a b p e l = elim (leb_tells (suc p) a) [ inl h ↦ omega arith | inr h ↦ absurd (differ e (lt-ltb _ _ (omega arith))) ]

-- slices as starts

slices_from : (width low : ℕ) (cs : List ℕ) → All (λ s. low ≤ s.low) (slice_starts width low cs)
slices_from width low [] = All-nil (λ s. low ≤ s.low)
slices_from width low (c ∷ cs) =
    All-cons (λ s. low ≤ s.low) (record { low = low; node = c }) (slice_starts width (low + width) cs) (omega arith)
    (All-weaker (λ s. low + width ≤ s.low) (λ s. low ≤ s.low) (λ s h. omega arith) _ (slices_from width (low + width) cs))

slices_ascend : (width low : ℕ) (cs : List ℕ) → 0 < width → Ascends (λ s. s.low) (slice_starts width low cs)
slices_ascend width low [] h = asc_nil (λ s. s.low)
slices_ascend width low (c ∷ cs) h =
    asc_cons (λ s. s.low) (record { low = low; node = c }) (slice_starts width (low + width) cs)
    (All-weaker (λ s. low + width ≤ s.low) (λ s. low < s.low) (λ s l. omega arith) _ (slices_from width (low + width) cs))
    (slices_ascend width (low + width) cs h)

pub slices_length : (width low : ℕ) (cs : List ℕ) → length (slice_starts width low cs) ≡ length cs
slices_length width low [] = refl
slices_length width low (c ∷ cs) = ap suc (slices_length width (low + width) cs)

-- a place in slice i is led to its child
lead_slice : (o : Option ℕ) (width low : ℕ) (cs : List ℕ) (i p d : ℕ) → i < length cs → low + i * width ≤ p → p < low + suc i * width →
    lead o (slice_starts width low cs) p ≡ Some (get_or cs i d)
lead_slice o width low [] i p d h a b = absurd (omega arith)
lead_slice o width low (c ∷ cs) zero p d h a b =
    let test : nat_lt low (suc p) ≡ true = lt-ltb _ _ (omega arith) in
    rw test (lead_above (Some c) (slice_starts width (low + width) cs) p (All-weaker (λ s. low + width ≤ s.low) (λ s. p < s.low) (λ s l. omega arith) _ (slices_from width (low + width) cs)))
lead_slice o width low (c ∷ cs) (suc i) p d h a b =
    let test : nat_lt low (suc p) ≡ true = lt-ltb _ _ (omega arith) in
    rw test (lead_slice (Some c) width (low + width) cs i p d (omega arith) (omega arith) (omega arith))

pub led_slice : (cs : List ℕ) (p d : ℕ) → IsTrue (is_size (length cs)) → p < 2 ^ 64 → led_to (starts_of cs) p ≡ Some (get_or cs (p / width_of cs) d)
led_slice cs p d size h =
    let within : p / width_of cs < length cs = slice_within (length cs) size p h in
    let pos : 0 < width_of cs = width_pos (length cs) size in
    led_is (starts_of cs) p
    ∙ ap (λ l. lead None l p) (starts_joined cs)
    ∙ lead_joined None (slice_starts (width_of cs) 0 cs) p (slices_ascend (width_of cs) 0 cs pos)
    ∙ lead_slice None (width_of cs) 0 cs (p / width_of cs) p d within (floor_le p (width_of cs) pos) (floor_lt p (width_of cs) pos)
  where
    floor_le : (p w : ℕ) → 0 < w → 0 + (p / w) * w ≤ p
    floor_le p w h = omega arith

    floor_lt : (p w : ℕ) → 0 < w → p < 0 + suc (p / w) * w
    floor_lt p w h = omega arith

-- where a run begins

pub begins_none : (cut : ℕ) (ss : List Start) → All (λ s. s.low ≡ cut → ⊥) ss → begins cut ss ≡ false
begins_none cut [] a = refl
begins_none cut (s ∷ ss) a =
    let other : nat_eq s.low cut ≡ false = ne_eqb _ _ (All-head (λ s. s.low ≡ cut → ⊥) s ss a) in
    rw other (begins_none cut ss (All-tail (λ s. s.low ≡ cut → ⊥) s ss a))

child_ahead : (o : Option ℕ) (c : ℕ) (cs : List ℕ) (j : ℕ) → o ≡ Some c → cond (nat_eq j 0) o (Some (get_or cs (j - 1) 0)) ≡ Some (get_or (c ∷ cs) j 0)
child_ahead o c cs zero e = e
child_ahead o c cs (suc k) e =
    let later : nat_eq (suc k) 0 ≡ false = ne_eqb _ _ (λ q. omega arith) in
    let step : suc k - 1 ≡ k = omega arith in
    rw (later, step) refl

-- at a slice, unless it leads where the one before it leads
begins_slice : (o : Option ℕ) (width low : ℕ) (cs : List ℕ) (i : ℕ) → 0 < width → i < length cs →
    begins (low + i * width) (joined_after o (slice_starts width low cs)) ≡ not (repeats (cond (nat_eq i 0) o (Some (get_or cs (i - 1) 0))) (get_or cs i 0))
begins_slice o width low [] i pos h = absurd (omega arith)
begins_slice o width low (c ∷ cs) zero pos h =
    let rest : List Start = slice_starts width (low + width) cs in
    let here : nat_eq low (low + zero * width) ≡ true = eq-eqb _ _ (omega arith) in
    elim (bool_cases (repeats o c)) [
      | inl e ↦ rw e (begins_none (low + zero * width) (joined_after o rest) (all_joined (λ s. s.low ≡ low + zero * width → ⊥) o rest
          (All-weaker (λ s. low + width ≤ s.low) (λ s. s.low ≡ low + zero * width → ⊥) (λ s l q. omega arith) rest (slices_from width (low + width) cs))))
      | inr e ↦ rw (e, here) refl
    ]
begins_slice o width low (c ∷ cs) (suc j) pos h =
    let next : low + suc j * width ≡ low + width + j * width = omega arith in
    let step : suc j - 1 ≡ j = omega arith in
    let later : nat_eq (suc j) 0 ≡ false = ne_eqb _ _ (λ q. omega arith) in
    let rest : List Start = slice_starts width (low + width) cs in
    ap (λ n. begins n (cond (repeats o c) (joined_after o rest) (record { low = low; node = c } ∷ joined_after (Some c) rest))) next
    ∙ elim (bool_cases (repeats o c)) [
      | inl e ↦ rw (e, later, step) (begins_slice o width (low + width) cs j pos (omega arith) ∙ ap (λ q. not (repeats q (get_or cs j 0))) (child_ahead o c cs j (repeats_is o c e)))
      | inr e ↦ (let other : nat_eq low (low + width + j * width) ≡ false = ne_eqb _ _ (λ q. omega arith) in
          rw (e, later, step, other) (begins_slice (Some c) width (low + width) cs j pos (omega arith) ∙ ap (λ q. not (repeats q (get_or cs j 0))) (child_ahead (Some c) c cs j refl)))
    ]

pub begins_run : (cs : List ℕ) (p : ℕ) → IsTrue (is_size (length cs)) → p < 2 ^ 64 → p % width_of cs ≡ 0 →
    begins p (starts_of cs) ≡ not (repeats (before_at (p / width_of cs) cs) (get_or cs (p / width_of cs) 0))
begins_run cs p size h whole =
    let w : ℕ = width_of cs in
    let pos : 0 < w = width_pos (length cs) size in
    ap (begins p) (starts_joined cs)
    ∙ ap (λ n. begins n (joined_after None (slice_starts w 0 cs))) (at_slice p w pos whole)
    ∙ begins_slice None w 0 cs (p / w) pos (slice_within (length cs) size p h)
  where
    at_slice : (p w : ℕ) → 0 < w → p % w ≡ 0 → p ≡ 0 + (p / w) * w
    at_slice p w h e = omega arith

slices_whole : (width low : ℕ) (cs : List ℕ) → ((n : ℕ) → n % width ≡ 0 → (n + width) % width ≡ 0) → low % width ≡ 0 → All (λ s. s.low % width ≡ 0) (slice_starts width low cs)
slices_whole width low [] next e = All-nil (λ s. s.low % width ≡ 0)
slices_whole width low (c ∷ cs) next e =
    All-cons (λ s. s.low % width ≡ 0) (record { low = low; node = c }) (slice_starts width (low + width) cs) e (slices_whole width (low + width) cs next (next low e))

next_whole : (n : ℕ) → IsTrue (is_size n) → (p : ℕ) → p % (2 ^ 64 / n) ≡ 0 → (p + 2 ^ 64 / n) % (2 ^ 64 / n) ≡ 0
next_whole n h = by_size (λ n. (p : ℕ) → p % (2 ^ 64 / n) ≡ 0 → (p + 2 ^ 64 / n) % (2 ^ 64 / n) ≡ 0)
    (λ p e. omega arith) (λ p e. omega arith) (λ p e. omega arith) (λ p e. omega arith) (λ p e. omega arith) (λ p e. omega arith) n h

pub begins_no_slice : (cs : List ℕ) (p : ℕ) → IsTrue (is_size (length cs)) → (p % width_of cs ≡ 0 → ⊥) → begins p (starts_of cs) ≡ false
begins_no_slice cs p size other =
    let w : ℕ = width_of cs in
    ap (begins p) (starts_joined cs)
    ∙ begins_none p _ (all_joined (λ s. s.low ≡ p → ⊥) None (slice_starts w 0 cs)
    (All-weaker (λ s. s.low % w ≡ 0) (λ s. s.low ≡ p → ⊥) (λ s whole q. other (subst (λ n. n % w ≡ 0) q whole)) _ (slices_whole w 0 cs (next_whole (length cs) size) (by_size (λ n. 0 % (2 ^ 64 / n) ≡ 0) refl refl refl refl refl refl (length cs) size))))

-- the child of all runs is that of all slices
all_runs : (c width low : ℕ) (cs : List ℕ) → list_all (λ s. nat_eq s.node c) (runs_after c (slice_starts width low cs)) ≡ list_all (λ d. nat_eq d c) cs
all_runs c width low [] = refl
all_runs c width low (d ∷ cs) = elim (bool_cases (nat_eq d c)) [
  | inl e ↦ rw e (all_runs c width (low + width) cs)
  | inr e ↦ rw (e, e) refl
]

pub sole_starts : (cs : List ℕ) → 0 < length cs → sole (starts_of cs) ≡ cond (list_all (λ d. nat_eq d (get_or cs 0 0)) cs) (Some (get_or cs 0 0)) None
sole_starts [] h = absurd (omega arith)
sole_starts (c ∷ cs) h =
    let again : nat_eq c c ≡ true = eq-eqb c c refl in
    rw again (ap (λ b. cond b (Some c) None) (all_runs c (width_of (c ∷ cs)) (0 + width_of (c ∷ cs)) cs))

-- what the starts of a directory are like

pub starts_ascend : (cs : List ℕ) → IsTrue (is_size (length cs)) → Ascends (λ s. s.low) (starts_of cs)
starts_ascend cs size = subst (Ascends (λ s. s.low)) (runs_is (slice_starts (width_of cs) 0 cs)) (asc_joined None _ (slices_ascend (width_of cs) 0 cs (width_pos (length cs) size)))

pub starts_few : (cs : List ℕ) → length (starts_of cs) ≤ length cs
starts_few cs = let n = slices_length (width_of cs) 0 cs in let m = joined_le None (slice_starts (width_of cs) 0 cs) in omega (arith, ap length (runs_is (slice_starts (width_of cs) 0 cs)))

pub starts_zero : (cs : List ℕ) → 0 < length cs → IsTrue (starts_at_zero (starts_of cs))
starts_zero [] h = absurd (omega arith)
starts_zero (c ∷ cs) h = refl

-- doubling

doubled_starts : (o : Option ℕ) (width low : ℕ) (cs : List ℕ) →
    joined_after o (slice_starts width low (doubled cs)) ≡ joined_after o (slice_starts (width + width) low cs)
doubled_starts o width low [] = refl
doubled_starts o width low (c ∷ cs) =
    let place : low + width + width ≡ low + (width + width) = omega arith in
    let again : nat_eq c c ≡ true = eq-eqb _ _ refl in
    elim (bool_cases (repeats o c)) [
      | inl e ↦ rw (e, place) (doubled_starts o width (low + (width + width)) cs)
      | inr e ↦ rw (e, again, place) (ap (λ l. record { low = low; node = c } ∷ l) (doubled_starts (Some c) width (low + (width + width)) cs))
    ]

pub doubled_length : (cs : List ℕ) → length (doubled cs) ≡ length cs + length cs
doubled_length [] = refl
doubled_length (c ∷ cs) = let n = doubled_length cs in omega arith

half_width : (n : ℕ) → IsTrue (is_size n) → n < 64 → 2 ^ 64 / (n + n) + 2 ^ 64 / (n + n) ≡ 2 ^ 64 / n
half_width n h = by_size (λ n. n < 64 → 2 ^ 64 / (n + n) + 2 ^ 64 / (n + n) ≡ 2 ^ 64 / n) (λ l. refl) (λ l. refl) (λ l. refl) (λ l. refl) (λ l. refl) (λ l. absurd (omega arith)) n h

pub doubled_size : (n : ℕ) → IsTrue (is_size n) → n < 64 → IsTrue (is_size (n + n))
doubled_size n h = by_size (λ n. n < 64 → IsTrue (is_size (n + n))) (λ l. refl) (λ l. refl) (λ l. refl) (λ l. refl) (λ l. refl) (λ l. absurd (omega arith)) n h

pub starts_doubled : (cs : List ℕ) → IsTrue (is_size (length cs)) → length cs < 64 → starts_of (doubled cs) ≡ starts_of cs
starts_doubled cs size h =
    starts_joined (doubled cs)
    ∙ ap (λ n. joined_after None (slice_starts (2 ^ 64 / n) 0 (doubled cs))) (doubled_length cs)
    ∙ doubled_starts None _ 0 cs
    ∙ ap (λ w. joined_after None (slice_starts w 0 cs)) (half_width (length cs) size h)
    ∙ sym (starts_joined cs)

-- starts in two parts

joined_append : (o : Option ℕ) (ss ts : List Start) → joined_after o (ss ++ ts) ≡ joined_after o ss ++ joined_after (last_or o ss) ts
joined_append o [] ts = refl
joined_append o (s ∷ ss) ts = elim (bool_cases (repeats o s.node)) [
  | inl e ↦ rw e (joined_append o ss ts ∙ ap (λ q. joined_after o ss ++ joined_after (last_or q ss) ts) (repeats_is o s.node e))
  | inr e ↦ rw e (ap (λ l. s ∷ l) (joined_append (Some s.node) ss ts))
]

last_joined : (o : Option ℕ) (ss : List Start) → last_or o (joined_after o ss) ≡ last_or o ss
last_joined o [] = refl
last_joined o (s ∷ ss) = elim (bool_cases (repeats o s.node)) [
  | inl e ↦ rw e (last_joined o ss ∙ ap (λ q. last_or q ss) (repeats_is o s.node e))
  | inr e ↦ rw e (last_joined (Some s.node) ss)
]

slices_append : (width low : ℕ) (cs ds : List ℕ) → slice_starts width low (cs ++ ds) ≡ slice_starts width low cs ++ slice_starts width (low + length cs * width) ds
slices_append width low [] ds = ap (λ n. slice_starts width n ds) (none low width)
  where
    none : (low width : ℕ) → low ≡ low + 0 * width
    none low width = omega arith
slices_append width low (c ∷ cs) ds =
    ap (λ l. record { low = low; node = c } ∷ l) (slices_append width (low + width) cs ds ∙ ap (λ n. slice_starts width (low + width) cs ++ slice_starts width n ds) (more low width (length cs)))
  where
    more : (low width n : ℕ) → low + width + n * width ≡ low + suc n * width
    more low width n = omega arith

slices_below : (width low : ℕ) (cs : List ℕ) → 0 < width → All (λ s. s.low < low + length cs * width) (slice_starts width low cs)
slices_below width low [] h = All-nil (λ s. s.low < low + 0 * width)
slices_below width low (c ∷ cs) h =
    All-cons (λ s. s.low < low + suc (length cs) * width) (record { low = low; node = c }) (slice_starts width (low + width) cs) (here low width (length cs) h)
    (All-weaker (λ s. s.low < low + width + length cs * width) (λ s. s.low < low + suc (length cs) * width) (λ s l. further s.low low width (length cs) l) _ (slices_below width (low + width) cs h))
  where
    here : (low width n : ℕ) → 0 < width → low < low + suc n * width
    here low width n h = omega arith

    further : (p low width n : ℕ) → p < low + width + n * width → p < low + suc n * width
    further p low width n h = omega arith

below_all : (cut : ℕ) (ss : List Start) → All (λ s. s.low < cut) ss → starts_below cut ss ≡ ss
below_all cut [] a = refl
below_all cut (s ∷ ss) a = rw (lt-ltb s.low cut (All-head (λ s. s.low < cut) s ss a)) (ap (λ l. s ∷ l) (below_all cut ss (All-tail (λ s. s.low < cut) s ss a)))

pub below_none : (cut : ℕ) (ss : List Start) → All (λ s. cut ≤ s.low) ss → starts_below cut ss ≡ []
below_none cut [] a = refl
below_none cut (s ∷ ss) a = rw (le-ltb s.low cut (All-head (λ s. cut ≤ s.low) s ss a)) (below_none cut ss (All-tail (λ s. cut ≤ s.low) s ss a))

pub from_all : (cut : ℕ) (ss : List Start) → All (λ s. cut ≤ s.low) ss → starts_from cut ss ≡ ss
from_all cut [] a = refl
from_all cut (s ∷ ss) a = rw (le-leb cut s.low (All-head (λ s. cut ≤ s.low) s ss a)) (ap (λ l. s ∷ l) (from_all cut ss (All-tail (λ s. cut ≤ s.low) s ss a)))

from_none : (cut : ℕ) (ss : List Start) → All (λ s. s.low < cut) ss → starts_from cut ss ≡ []
from_none cut [] a = refl
from_none cut (s ∷ ss) a = rw (lt-leb cut s.low (All-head (λ s. s.low < cut) s ss a)) (from_none cut ss (All-tail (λ s. s.low < cut) s ss a))

below_parts : (cut : ℕ) (ss ts : List Start) → All (λ s. s.low < cut) ss → All (λ s. cut ≤ s.low) ts → starts_below cut (ss ++ ts) ≡ ss
below_parts cut ss ts a b = filter-append _ ss ts ∙ rw (below_all cut ss a, below_none cut ts b) (append-nil ss)

from_parts : (cut : ℕ) (ss ts : List Start) → All (λ s. s.low < cut) ss → All (λ s. cut ≤ s.low) ts → starts_from cut (ss ++ ts) ≡ ts
from_parts cut ss ts a b = filter-append _ ss ts ∙ rw (from_none cut ss a, from_all cut ts b) refl

-- a run led to another child

led_length : (child to : ℕ) (cs : List ℕ) → length (led_over child to cs) ≡ length cs
led_length child to [] = refl
led_length child to (c ∷ cs) = step (nat_eq c child) (led_length child to cs)
  where
    step : (b : Bool) → length (led_over child to cs) ≡ length cs → length (cond b (to ∷ led_over child to cs) (c ∷ cs)) ≡ suc (length cs)
    step true e = ap suc e
    step false e = refl

pub run_length : (i to : ℕ) (cs : List ℕ) → length (run_led i to cs) ≡ length cs
run_length i to cs = length-append (take i cs) _ ∙ ap (λ n. length (take i cs) + n) (led_length _ to (drop i cs)) ∙ sym (length-append (take i cs) (drop i cs)) ∙ ap length (take-append-drop i cs)

led_joined : (child to width low : ℕ) (cs : List ℕ) →
    joined_after (Some to) (slice_starts width low (led_over child to cs)) ≡ joined_after (Some to) (joined_after (Some child) (slice_starts width low cs))
led_joined child to width low [] = refl
led_joined child to width low (c ∷ cs) =
    let again : nat_eq to to ≡ true = eq-eqb to to refl in
    elim (bool_cases (nat_eq c child)) [
      | inl e ↦ rw (e, again) (led_joined child to width (low + width) cs)
      | inr e ↦ rw e (sym (joined_twice_head (low + width)))
    ]
  where
    joined_twice_head : (next : ℕ) → joined_after (Some to) (record { low = low; node = c } ∷ joined_after (Some c) (slice_starts width next cs)) ≡ joined_after (Some to) (record { low = low; node = c } ∷ slice_starts width next cs)
    joined_twice_head next = elim (bool_cases (nat_eq c to)) [
      | inl e ↦ (let same : c ≡ to = eqb-true c to e in rw e (ap (λ n. joined_after (Some to) (joined_after (Some n) (slice_starts width next cs))) same ∙ joined_twice (Some to) (slice_starts width next cs)))
      | inr e ↦ rw e (ap (λ l. record { low = low; node = c } ∷ l) (joined_twice (Some c) (slice_starts width next cs)))
    ]

-- slices in two parts: a cut at the first place of the second

joined_parts : (width : ℕ) (cs ds : List ℕ) → joined_after None (slice_starts width 0 (cs ++ ds)) ≡
    joined_after None (slice_starts width 0 cs) ++ joined_after (last_or None (slice_starts width 0 cs)) (slice_starts width (length cs * width) ds)
joined_parts width cs ds =
    ap (joined_after None) (slices_append width 0 cs ds)
    ∙ joined_append None (slice_starts width 0 cs) _
    ∙ ap (λ n. joined_after None (slice_starts width 0 cs) ++ joined_after (last_or None (slice_starts width 0 cs)) (slice_starts width n ds)) (zero_plus (length cs * width))
  where
    zero_plus : (n : ℕ) → 0 + n ≡ n
    zero_plus n = omega arith

front_below : (width : ℕ) (cs : List ℕ) → 0 < width → All (λ s. s.low < length cs * width) (joined_after None (slice_starts width 0 cs))
front_below width cs h = all_joined (λ s. s.low < length cs * width) None _ (All-weaker (λ s. s.low < 0 + length cs * width) (λ s. s.low < length cs * width) (λ s l. omega arith) _ (slices_below width 0 cs h))

back_from : (o : Option ℕ) (width low : ℕ) (ds : List ℕ) → All (λ s. low ≤ s.low) (joined_after o (slice_starts width low ds))
back_from o width low ds = all_joined (λ s. low ≤ s.low) o _ (slices_from width low ds)

-- the run of the second part, which goes on from the first, is led to another child
adopt_parts : (width id child : ℕ) (cs ds : List ℕ) → 0 < width → last_or None (slice_starts width 0 cs) ≡ Some child →
    (ss : List Start) → ss ≡ joined_after None (slice_starts width 0 (cs ++ child ∷ ds)) →
    joined_after None (slice_starts width 0 (cs ++ led_over child id (child ∷ ds))) ≡
    joined_after None (starts_below (length cs * width) ss ++ record { low = length cs * width; node = id } ∷ starts_from (length cs * width) ss)
adopt_parts width id child cs ds pos last ss is =
    let cut : ℕ = length cs * width in
    let again : nat_eq child child ≡ true = eq-eqb child child refl in
    let front : List Start = joined_after None (slice_starts width 0 cs) in
    let back : List Start = joined_after (Some child) (slice_starts width cut (child ∷ ds)) in
    let whole : ss ≡ front ++ back = is ∙ joined_parts width cs (child ∷ ds) ∙ ap (λ o. front ++ joined_after o (slice_starts width cut (child ∷ ds))) last in
    let low : starts_below cut ss ≡ front = ap (starts_below cut) whole ∙ below_parts cut front back (front_below width cs pos) (back_from (Some child) width cut (child ∷ ds)) in
    let high : starts_from cut ss ≡ back = ap (starts_from cut) whole ∙ from_parts cut front back (front_below width cs pos) (back_from (Some child) width cut (child ∷ ds)) in
    let left : joined_after None (slice_starts width 0 (cs ++ led_over child id (child ∷ ds))) ≡ front ++ joined_after (Some child) (slice_starts width cut (led_over child id (child ∷ ds))) =
    joined_parts width cs (led_over child id (child ∷ ds)) ∙ ap (λ o. front ++ joined_after o (slice_starts width cut (led_over child id (child ∷ ds)))) last in
    let right : joined_after None (front ++ record { low = cut; node = id } ∷ back) ≡ front ++ joined_after (Some child) (record { low = cut; node = id } ∷ back) =
    joined_append None front (record { low = cut; node = id } ∷ back)
    ∙ ap (λ l. l ++ joined_after (last_or None front) (record { low = cut; node = id } ∷ back)) (joined_twice None (slice_starts width 0 cs))
    ∙ ap (λ o. front ++ joined_after o (record { low = cut; node = id } ∷ back)) (last_joined None (slice_starts width 0 cs) ∙ last) in
    rw (low, high) (left ∙ ap (λ l. front ++ l) (adopt_back width cut id child ds) ∙ sym right)
  where
    adopt_back : (width cut id child : ℕ) (ds : List ℕ) →
        joined_after (Some child) (slice_starts width cut (led_over child id (child ∷ ds))) ≡
        joined_after (Some child) (record { low = cut; node = id } ∷ joined_after (Some child) (slice_starts width cut (child ∷ ds)))
    adopt_back width cut id child ds =
        let again : nat_eq child child ≡ true = eq-eqb child child refl in
        elim (bool_cases (nat_eq id child)) [
          | inl e ↦ (let same : id ≡ child = eqb-true id child e in
              rw (again, e) (ap (λ n. joined_after (Some n) (slice_starts width (cut + width) (led_over child id ds))) (sym same) ∙ led_joined child id width (cut + width) ds ∙ ap (λ n. joined_after (Some n) (joined_after (Some child) (slice_starts width (cut + width) ds))) same))
          | inr e ↦ rw (again, e) (ap (λ l. record { low = cut; node = id } ∷ l) (led_joined child id width (cut + width) ds))
        ]

-- what has no start at a node before a first one there
without_parts : (id : ℕ) (ss ts : List Start) (s : Start) → All (λ t. t.node ≡ id → ⊥) ss → s.node ≡ id → without id (ss ++ s ∷ ts) ≡ ss ++ ts
without_parts id ss ts s none here =
    let whole : List Start = ss ++ s ∷ ts in
    let long : length whole ≡ length ss + suc (length ts) = length-append ss (s ∷ ts) in
    let found : position_or_len (λ t. nat_eq t.node id) whole ≡ length ss =
    position_or_len_is (λ t. nat_eq t.node id) whole (length ss) s (omega arith)
    (λ k h. ap (λ t. nat_eq t.node id) (get_or_append_left ss (s ∷ ts) s k h) ∙ ne_eqb _ _ (none k s h))
    (λ h. ap (λ t. nat_eq t.node id) (get_or-append_seam ss s ts s) ∙ eq-eqb _ _ here) in
    let inside : nat_lt (length ss) (length whole) ≡ true = lt-ltb _ _ (omega arith) in
    let at : position (λ t. nat_eq t.node id) whole ≡ Some (length ss) = rw (found, inside) refl in
    ap (λ o. without_at o whole) at
    ∙ ap (λ l. l ++ drop (suc (length ss)) whole) (take-append_seam ss (s ∷ ts))
    ∙ ap (λ l. ss ++ l) (ap (λ n. drop n whole) (after (length ss)) ∙ drop-append-add ss (s ∷ ts) 1)
  where
    after : (n : ℕ) → suc n ≡ n + 1
    after n = omega arith

nodes_other : (id width low : ℕ) (cs : List ℕ) → All (λ c. c ≡ id → ⊥) cs → All (λ t. t.node ≡ id → ⊥) (slice_starts width low cs)
nodes_other id width low [] a = All-nil (λ t. t.node ≡ id → ⊥)
nodes_other id width low (c ∷ cs) a = All-cons (λ t. t.node ≡ id → ⊥) (record { low = low; node = c }) (slice_starts width (low + width) cs) (All-head (λ c. c ≡ id → ⊥) c cs a) (nodes_other id width (low + width) cs (All-tail (λ c. c ≡ id → ⊥) c cs a))

-- the first run that leads to a child, but not the first of all, is led where the one before it leads
forget_parts : (width id before : ℕ) (cs ds : List ℕ) → 0 < width → last_or None (slice_starts width 0 cs) ≡ Some before →
    All (λ c. c ≡ id → ⊥) cs → (id ≡ before → ⊥) →
    joined_after None (slice_starts width 0 (cs ++ led_over id before (id ∷ ds))) ≡
    joined_after None (without id (joined_after None (slice_starts width 0 (cs ++ id ∷ ds))))
forget_parts width id before cs ds pos last none other =
    let cut : ℕ = length cs * width in
    let again : nat_eq id id ≡ true = eq-eqb id id refl in
    let differs : nat_eq id before ≡ false = ne_eqb id before other in
    let stays : nat_eq before before ≡ true = eq-eqb before before refl in
    let front : List Start = joined_after None (slice_starts width 0 cs) in
    let rest : List Start = joined_after (Some id) (slice_starts width (cut + width) ds) in
    let whole : joined_after None (slice_starts width 0 (cs ++ id ∷ ds)) ≡ front ++ record { low = cut; node = id } ∷ rest =
    joined_parts width cs (id ∷ ds) ∙ ap (λ o. front ++ joined_after o (slice_starts width cut (id ∷ ds))) last ∙ rw differs refl in
    let left : joined_after None (slice_starts width 0 (cs ++ led_over id before (id ∷ ds))) ≡ front ++ joined_after (Some before) (slice_starts width (cut + width) (led_over id before ds)) =
    joined_parts width cs (led_over id before (id ∷ ds)) ∙ ap (λ o. front ++ joined_after o (slice_starts width cut (led_over id before (id ∷ ds)))) last ∙ rw (again, stays) refl in
    let right : joined_after None (front ++ rest) ≡ front ++ joined_after (Some before) rest =
    joined_append None front rest
    ∙ ap (λ l. l ++ joined_after (last_or None front) rest) (joined_twice None (slice_starts width 0 cs))
    ∙ ap (λ o. front ++ joined_after o rest) (last_joined None (slice_starts width 0 cs) ∙ last) in
    left ∙ ap (λ l. front ++ l) (led_joined id before width (cut + width) ds) ∙ sym right
    ∙ ap (joined_after None) (sym (ap (without id) whole ∙ without_parts id front rest (record { low = cut; node = id }) (all_joined (λ t. t.node ≡ id → ⊥) None _ (nodes_other id width 0 cs none)) refl))

last_slice : (o : Option ℕ) (width low : ℕ) (cs : List ℕ) (i d : ℕ) → i < length cs → last_or o (slice_starts width low (take (suc i) cs)) ≡ Some (get_or cs i d)
last_slice o width low [] i d h = absurd (omega arith)
last_slice o width low (c ∷ cs) zero d h = refl
last_slice o width low (c ∷ cs) (suc i) d h = last_slice (Some c) width (low + width) cs i d (omega arith)

begins_mid : (cut : ℕ) (ss : List Start) (s : Start) (ts : List Start) → s.low ≡ cut → begins cut (ss ++ s ∷ ts) ≡ true
begins_mid cut [] s ts e = rw (eq-eqb s.low cut e) refl
begins_mid cut (t ∷ ss) s ts e = some_either (nat_eq t.low cut) t _ (begins_mid cut ss s ts e)
  where
    some_either : (b : Bool) (x : Start) (o : Option Start) → is_some o ≡ true → is_some (cond b (Some x) o) ≡ true
    some_either true x o e = refl
    some_either false x o e = e

-- the adopted cut begins a slice, and no run
pub starts_adopted : (cs : List ℕ) (i id : ℕ) → IsTrue (is_size (length cs)) → 0 < i → i < length cs → begins (i * width_of cs) (starts_of cs) ≡ false →
    starts_of (run_led i id cs) ≡ runs (starts_below (i * width_of cs) (starts_of cs) ++ record { low = i * width_of cs; node = id } ∷ starts_from (i * width_of cs) (starts_of cs))
starts_adopted cs zero id size pos within free = absurd (omega arith)
starts_adopted cs (suc j) id size pos within free =
    let i : ℕ = suc j in
    let w : ℕ = width_of cs in
    let child : ℕ = get_or cs i 0 in
    let front : List ℕ = take i cs in
    let ds : List ℕ = drop (suc i) cs in
    let some : 0 < w = width_pos (length cs) size in
    let long : length front ≡ i = length-take-le i cs (omega arith) in
    let back : drop i cs ≡ child ∷ ds = drop-cons cs i 0 within in
    let whole : cs ≡ front ++ child ∷ ds = sym (ap (λ l. front ++ l) (sym back) ∙ take-append-drop i cs) in
    let last : last_or None (slice_starts w 0 front) ≡ Some (get_or cs j 0) = last_slice None w 0 cs j 0 (omega arith) in
    let joined : starts_of cs ≡ joined_after None (slice_starts w 0 (front ++ child ∷ ds)) = starts_joined cs ∙ ap (λ l. joined_after None (slice_starts w 0 l)) whole in
    let same : child ≡ get_or cs j 0 = no_start w i (get_or cs j 0) child front ds long last (ap (begins (i * w)) (sym joined) ∙ free) in
    let led : run_led i id cs ≡ front ++ led_over child id (child ∷ ds) = ap (λ l. front ++ led_over child id l) back in
    starts_joined (run_led i id cs)
    ∙ ap (λ n. joined_after None (slice_starts (2 ^ 64 / n) 0 (run_led i id cs))) (run_length i id cs)
    ∙ ap (λ l. joined_after None (slice_starts w 0 l)) led
    ∙ adopt_parts w id child front ds some (last ∙ ap (λ n. Some n) (sym same)) (starts_of cs) joined
    ∙ ap (λ n. joined_after None (starts_below (n * w) (starts_of cs) ++ record { low = n * w; node = id } ∷ starts_from (n * w) (starts_of cs))) long
    ∙ runs_is _
  where
    no_start : (w i before child : ℕ) (cs ds : List ℕ) → length cs ≡ i → last_or None (slice_starts w 0 cs) ≡ Some before →
        begins (i * w) (joined_after None (slice_starts w 0 (cs ++ child ∷ ds))) ≡ false → child ≡ before
    no_start w i before child cs ds long last free = elim (eqb_tells child before) [
      | inl e ↦ e.1
      | inr e ↦ absurd (differ free (ap (begins (i * w)) (joined_parts w cs (child ∷ ds) ∙ ap (λ o. joined_after None (slice_starts w 0 cs) ++ joined_after o (slice_starts w (length cs * w) (child ∷ ds))) last ∙ rw e.0 refl)
          ∙ begins_mid (i * w) (joined_after None (slice_starts w 0 cs)) (record { low = length cs * w; node = child }) (joined_after (Some child) (slice_starts w (length cs * w + w) ds)) (ap (λ n. n * w) long)))
    ]

-- the node forgotten leads from the first slice at position i, where another leads before
pub starts_forgot : (cs : List ℕ) (i id : ℕ) → IsTrue (is_size (length cs)) → 0 < i → position (λ c. nat_eq c id) cs ≡ Some i →
    starts_of (run_led i (get_or cs (i - 1) 0) cs) ≡ runs (without id (starts_of cs))
starts_forgot cs zero id size pos at = absurd (omega arith)
starts_forgot cs (suc j) id size pos at =
    let found = position-Some (λ c. nat_eq c id) cs (suc j) 0 at in
    let i : ℕ = suc j in
    let w : ℕ = width_of cs in
    let front : List ℕ = take i cs in
    let ds : List ℕ = drop (suc i) cs in
    let within : i < length cs = found.0 in
    let some : 0 < w = width_pos (length cs) size in
    let child : get_or cs i 0 ≡ id = eqb-true _ _ found.1 in
    let step : i - 1 ≡ j = omega arith in
    let back : drop i cs ≡ id ∷ ds = drop-cons cs i 0 within ∙ ap (λ n. n ∷ ds) child in
    let whole : cs ≡ front ++ id ∷ ds = sym (ap (λ l. front ++ l) (sym back) ∙ take-append-drop i cs) in
    let last : last_or None (slice_starts w 0 front) ≡ Some (get_or cs j 0) = last_slice None w 0 cs j 0 (omega arith) in
    let led : run_led i (get_or cs (i - 1) 0) cs ≡ front ++ led_over id (get_or cs j 0) (id ∷ ds) =
    ap (λ n. front ++ led_over (get_or cs i 0) (get_or cs n 0) (drop i cs)) step ∙ ap (λ n. front ++ led_over n (get_or cs j 0) (drop i cs)) child ∙ ap (λ l. front ++ led_over id (get_or cs j 0) l) back in
    starts_joined (run_led i (get_or cs (i - 1) 0) cs)
    ∙ ap (λ n. joined_after None (slice_starts (2 ^ 64 / n) 0 (run_led i (get_or cs (i - 1) 0) cs))) (run_length i (get_or cs (i - 1) 0) cs)
    ∙ ap (λ l. joined_after None (slice_starts w 0 l)) led
    ∙ forget_parts w id (get_or cs j 0) front ds some last (others j found.0 found.2) (λ e. differ (found.2 j (omega arith)) (eq-eqb _ _ (sym e)))
    ∙ ap (λ l. joined_after None (without id (joined_after None (slice_starts w 0 l)))) (sym whole)
    ∙ ap (λ l. joined_after None (without id l)) (sym (starts_joined cs))
    ∙ runs_is _
  where
    others : (j : ℕ) → suc j < length cs → ((k : ℕ) → k < suc j → nat_eq (get_or cs k 0) id ≡ false) → All (λ c. c ≡ id → ⊥) (take (suc j) cs)
    others j within none k d h e =
        let long : length (take (suc j) cs) ≡ suc j = length-take-le (suc j) cs (omega arith) in
        let less : k < suc j = omega arith in
        let read : get_or (take (suc j) cs) k d ≡ get_or cs k d = get_or-take (suc j) cs k d less in
        let plain : get_or cs k d ≡ get_or cs k 0 = get_or_default_zero cs k d (omega arith) in
        differ (none k less) (eq-eqb _ _ (sym plain ∙ sym read ∙ e))

-- a node that no slice leads to is not forgotten
pub starts_unforgot : (cs : List ℕ) (id : ℕ) → position (λ c. nat_eq c id) cs ≡ None → runs (without id (starts_of cs)) ≡ starts_of cs
starts_unforgot cs id none =
    let front : List Start = starts_of cs in
    let others : All (λ t. t.node ≡ id → ⊥) front = subst (All (λ t. t.node ≡ id → ⊥)) (runs_is _) (all_joined (λ t. t.node ≡ id → ⊥) None _ (nodes_other id (width_of cs) 0 cs (none_is cs none))) in
    let end : position_or_len (λ t. nat_eq t.node id) front ≡ length front =
    position_or_len_is (λ t. nat_eq t.node id) front (length front) (record { low = 0; node = 0 }) (omega arith)
    (λ k h. ne_eqb _ _ (others k (record { low = 0; node = 0 }) h)) (λ h. absurd (omega arith)) in
    let outside : nat_lt (length front) (length front) ≡ false = le-ltb _ _ (omega arith) in
    let at : position (λ t. nat_eq t.node id) front ≡ None = rw (end, outside) refl in
    ap (λ o. runs (without_at o front)) at
    ∙ ap runs (starts_joined cs) ∙ sym (runs_is _) ∙ joined_twice None _ ∙ runs_is _
  where
    before_is : (i n : ℕ) → i < n → cond (nat_lt i n) (Some i) None ≡ Some i
    before_is i n h = rw (lt-ltb i n h) refl

    some_none : (i : ℕ) → Some i ≡ None → ⊥
    some_none i e = cc

    none_is : (cs : List ℕ) → position (λ c. nat_eq c id) cs ≡ None → All (λ c. c ≡ id → ⊥) cs
    none_is cs none k d h e = elim (leb_tells (length cs) (position_or_len (λ c. nat_eq c id) cs)) [
      | inl past ↦ differ (fails_before_first (λ c. nat_eq c id) cs k d (omega arith)) (eq-eqb _ _ e)
      | inr before ↦ some_none _ (sym (before_is (position_or_len (λ c. nat_eq c id) cs) (length cs) (before.1)) ∙ none)
    ]

pub starts_places : (cs : List ℕ) → IsTrue (is_size (length cs)) → All (λ s. s.low ≤ top) (starts_of cs)
starts_places cs size =
    let all : length cs * width_of cs ≡ 2 ^ 64 = mul_comm (length cs) (width_of cs) ∙ width_whole (length cs) size in
    subst (All (λ s. s.low ≤ top)) (runs_is _) (all_joined (λ s. s.low ≤ top) None _
    (All-weaker (λ s. s.low < 0 + length cs * width_of cs) (λ s. s.low ≤ top) (λ s l. omega arith) _ (slices_below (width_of cs) 0 cs (width_pos (length cs) size))))

-- the runs up to the slice of a place, and those past it

slices_upto : (width low n : ℕ) (cs : List ℕ) → length cs ≤ suc n → All (λ s. s.low ≤ low + n * width) (slice_starts width low cs)
slices_upto width low n [] h = All-nil (λ s. s.low ≤ low + n * width)
slices_upto width low zero (c ∷ []) h =
    All-cons (λ s. s.low ≤ low + 0 * width) (record { low = low; node = c }) [] (omega arith) (All-nil (λ s. s.low ≤ low + 0 * width))
slices_upto width low zero (c ∷ d ∷ cs) h = absurd (omega arith)
slices_upto width low (suc n) (c ∷ cs) h =
    All-cons (λ s. s.low ≤ low + suc n * width) (record { low = low; node = c }) (slice_starts width (low + width) cs) (here low width n)
    (All-weaker (λ s. s.low ≤ low + width + n * width) (λ s. s.low ≤ low + suc n * width) (λ s l. further s.low low width n l) _ (slices_upto width (low + width) n cs (omega arith)))
  where
    here : (low width n : ℕ) → low ≤ low + suc n * width
    here low width n = omega arith

    further : (p low width n : ℕ) → p ≤ low + width + n * width → p ≤ low + suc n * width
    further p low width n h = omega arith

module _ (cs : List ℕ) (p : ℕ) (size : IsTrue (is_size (length cs))) (h : p < 2 ^ 64) where
  abbrev pub slice_at : ℕ
  slice_at = p / width_of cs

  abbrev pub runs_front : List Start
  runs_front = joined_after None (slice_starts (width_of cs) 0 (take (suc slice_at) cs))

  abbrev pub runs_back : List Start
  runs_back = joined_after (Some (get_or cs slice_at 0)) (slice_starts (width_of cs) (suc slice_at * width_of cs) (drop (suc slice_at) cs))

  pub slice_lies : slice_at < length cs
  slice_lies = slice_within (length cs) size p h

  pub front_long : length (take (suc slice_at) cs) ≡ suc slice_at
  front_long = length-take-le (suc slice_at) cs slice_lies

  pub runs_split : starts_of cs ≡ runs_front ++ runs_back
  runs_split =
      let w : ℕ = width_of cs in
      let front : List ℕ = take (suc slice_at) cs in
      let ds : List ℕ = drop (suc slice_at) cs in
      let last : last_or None (slice_starts w 0 front) ≡ Some (get_or cs slice_at 0) = last_slice None w 0 cs slice_at 0 slice_lies in
      starts_joined cs
      ∙ ap (λ l. joined_after None (slice_starts w 0 l)) (sym (take-append-drop (suc slice_at) cs))
      ∙ joined_parts w front ds
      ∙ ap (λ o. runs_front ++ joined_after o (slice_starts w (length front * w) ds)) last
      ∙ ap (λ n. runs_front ++ joined_after (Some (get_or cs slice_at 0)) (slice_starts w (n * w) ds)) front_long

  front_upto : All (λ s. s.low < suc p) runs_front
  front_upto =
      let w : ℕ = width_of cs in
      all_joined (λ s. s.low < suc p) None _
      (All-weaker (λ s. s.low ≤ 0 + slice_at * w) (λ s. s.low < suc p) (λ s l. upto s.low p w (width_pos (length cs) size) l) _
      (slices_upto w 0 slice_at (take (suc slice_at) cs) (omega (arith, front_long))))
    where
      upto : (n p w : ℕ) → 0 < w → n ≤ 0 + (p / w) * w → n < suc p
      upto n p w pos l = omega arith

  back_past : All (λ s. suc p ≤ s.low) runs_back
  back_past =
      let w : ℕ = width_of cs in
      all_joined (λ s. suc p ≤ s.low) (Some (get_or cs slice_at 0)) _
      (All-weaker (λ s. suc slice_at * w ≤ s.low) (λ s. suc p ≤ s.low) (λ s l. past s.low p w (width_pos (length cs) size) l) _
      (slices_from w (suc slice_at * w) (drop (suc slice_at) cs)))
    where
      past : (n p w : ℕ) → 0 < w → suc (p / w) * w ≤ n → suc p ≤ n
      past n p w pos l = omega arith

  pub runs_upto : starts_below (suc p) (starts_of cs) ≡ runs_front
  runs_upto = ap (starts_below (suc p)) runs_split ∙ below_parts (suc p) runs_front runs_back front_upto back_past

  pub runs_past : starts_from (suc p) (starts_of cs) ≡ runs_back
  runs_past = ap (starts_from (suc p)) runs_split ∙ from_parts (suc p) runs_front runs_back front_upto back_past

-- slices that lead to one child are one run, or go on with it
joined_none : (c width low : ℕ) (ds : List ℕ) → ((k : ℕ) → k < length ds → get_or ds k 0 ≡ c) → joined_after (Some c) (slice_starts width low ds) ≡ []
joined_none c width low [] same = refl
joined_none c width low (d ∷ ds) same =
    let here : nat_eq d c ≡ true = eq-eqb d c (same 0 (omega arith)) in
    rw here (joined_none c width (low + width) ds (λ k h. same (suc k) (omega arith)))

joined_one : (o : Option ℕ) (c width low : ℕ) (ds : List ℕ) → 0 < length ds → repeats o c ≡ false → ((k : ℕ) → k < length ds → get_or ds k 0 ≡ c) →
    joined_after o (slice_starts width low ds) ≡ record { low = low; node = c } ∷ []
joined_one o c width low [] h other same = absurd (omega arith)
joined_one o c width low (d ∷ ds) h other same =
    let here : d ≡ c = same 0 (omega arith) in
    let new : repeats o d ≡ false = ap (repeats o) here ∙ other in
    rw new (ap (λ l. record { low = low; node = d } ∷ l) (joined_none d width (low + width) ds (λ k h. same (suc k) (omega arith) ∙ sym here))
    ∙ ap (λ n. record { low = low; node = n } ∷ []) here)

last_front : (o : Option ℕ) (width : ℕ) (cs : List ℕ) (n b : ℕ) → b ≤ n → n ≤ length cs →
    last_or None (slice_starts width 0 (take b (take n cs))) ≡ before_at b cs
last_front o width cs n zero h l = refl
last_front o width cs n (suc j) h l =
    let step : suc j - 1 ≡ j = omega arith in
    let later : nat_eq (suc j) 0 ≡ false = ne_eqb _ _ (λ q. omega arith) in
    let long : length (take n cs) ≡ n = length-take-le n cs l in
    last_slice None width 0 (take n cs) j 0 (omega arith) ∙ ap (λ m. Some m) (get_or-take n cs j 0 (omega arith)) ∙ sym (rw (later, step) refl)

-- the run in which a slice lies is the last up to it
pub front_run : (width : ℕ) (cs : List ℕ) (i b : ℕ) → i < length cs → IsRunBegin cs i b →
    joined_after None (slice_starts width 0 (take (suc i) cs)) ≡
    joined_after None (slice_starts width 0 (take b (take (suc i) cs))) ++ record { low = b * width; node = get_or cs i 0 } ∷ []
front_run width cs i b h r =
    let front : List ℕ = take (suc i) cs in
    let long : length front ≡ suc i = length-take-le (suc i) cs h in
    let few : length (take b front) ≡ b = length-take-le b front (omega (arith, r.within)) in
    let rest : length (drop b front) ≡ length front - b = length-drop b front in
    let before : last_or None (slice_starts width 0 (take b front)) ≡ before_at b cs = last_front None width cs (suc i) b (omega (arith, r.within)) (omega arith) in
    ap (λ l. joined_after None (slice_starts width 0 l)) (sym (take-append-drop b front))
    ∙ joined_parts width (take b front) (drop b front)
    ∙ ap (λ o. joined_after None (slice_starts width 0 (take b front)) ++ joined_after o (slice_starts width (length (take b front) * width) (drop b front))) before
    ∙ ap (λ n. joined_after None (slice_starts width 0 (take b front)) ++ joined_after (before_at b cs) (slice_starts width (n * width) (drop b front))) few
    ∙ ap (λ l. joined_after None (slice_starts width 0 (take b front)) ++ l)
    (joined_one (before_at b cs) (get_or cs i 0) width (b * width) (drop b front) (omega (arith, r.within)) r.other
    (λ k l. get_or-drop b front k 0 ∙ get_or-take (suc i) cs (b + k) 0 (omega arith) ∙ r.same (b + k) (omega arith) (omega arith)))

-- the first run after one leads to the first other child
other_first : (c width low : ℕ) (ds : List ℕ) → first_node (joined_after (Some c) (slice_starts width low ds)) ≡ find (λ d. not (nat_eq d c)) ds
other_first c width low [] = refl
other_first c width low (d ∷ ds) = elim (bool_cases (nat_eq d c)) [
  | inl e ↦ rw e (other_first c width (low + width) ds)
  | inr e ↦ rw e refl
]

pub run_past : (cs : List ℕ) (p : ℕ) → IsTrue (is_size (length cs)) → p < 2 ^ 64 →
    first_node (starts_from (suc p) (starts_of cs)) ≡ find (λ d. not (nat_eq d (get_or cs (p / width_of cs) 0))) (drop (suc (p / width_of cs)) cs)
run_past cs p size h =
    ap first_node (runs_past cs p size h)
    ∙ other_first (get_or cs (p / width_of cs) 0) (width_of cs) (suc (p / width_of cs) * width_of cs) (drop (suc (p / width_of cs)) cs)

-- the slices of whole runs fit
pub slices_fit : (n : ℕ) → IsTrue (is_size n) → (k : ℕ) → k < n → k * (2 ^ 64 / n) + 2 ^ 64 / n ≤ 2 ^ 64
slices_fit n h = by_size (λ n. (k : ℕ) → k < n → k * (2 ^ 64 / n) + 2 ^ 64 / n ≤ 2 ^ 64)
    (λ k h. omega arith) (λ k h. omega arith) (λ k h. omega arith) (λ k h. omega arith) (λ k h. omega arith) (λ k h. omega arith) n h
