-- The bits of the free words, as the words, the turns and the marks of the views change.
use Rattle.std.proofs.Common.{◌≡◌, ◌≢◌, ℕ, zero, suc, ◌+◌, ◌*◌, ◌/◌, ◌%◌, ◌^◌, ◌<◌, ◌⊎◌, bit_or, w64, List, [], ◌∷◌, ◌++◌, length, get_or, set, sym, refl, ap, ◌∙◌, subst, inl, inr, ⊎_elim, arith, get_or-set_other, get_or-set_same}
use mathlib.Core.Option.{some, some-injective, some-ne-none}
use mathlib.Core.Logic.{dite}
use native.Mathlib.Decide.{ℕ_discrete}
use lib.ListN.{get_elem?}
use Rattle.atomic_table.proofs.Lists.{at_set, set_here, set_else, at_longer}
use Rattle.ks_history.specs.declared.Event.{Event}
use Rattle.ks_history.specs.Trace.{free, held, turn_after}
use Rattle.ks_history.specs.Passes.{Has}
use Rattle.ks_arena.specs.declared.view.Mark.{Mark}
use Rattle.ks_arena.specs.declared.view.Mark.TheVariants.{Quiet}
use Rattle.ks_arena.specs.declared.view.View.{View}
use Rattle.ks_arena.specs.Spots.{turn_at, free_at}
use Rattle.ks_arena.specs.Rule.{FirstBits, callers_in, all_callers, Views, Marks, SomeMarks, free_bit, FreeBits}
use Rattle.ks_arena.specs.Plays.{with_seen, marked}
use Rattle.std.proofs.lemmas.Nat.Bits.{bit_at-lt, bit_at_set_same, bit_at_set_other}
use Rattle.std.specs.Int.{bit_at}
use Rattle.ks_arena.proofs.Apart.{frees_apart, turn_no_free}
use Rattle.ks_arena.proofs.Seen.{has_left}

pub inside : {A : Type 0} (l : List A) (i : ℕ) (a : A) → get_elem? l i ≡ some a → i < length l
inside [] i a e = absurd (some-ne-none a (sym e))
inside (x ∷ xs) zero a e = omega arith
inside (x ∷ xs) (suc i) a e = let h = inside xs i a e in omega arith

pub bit_two : (x b : ℕ) → (bit_at x b ≡ 0) ⊎ (bit_at x b ≡ 1)
bit_two x b = let low = bit_at-lt x b in dite (ℕ_discrete (bit_at x b) 0) (λ z. inl z) (λ z. inr (omega arith))

-- other words and other traces with the same bits and turns
pub bits_words : (h k : List Event) (vs : List View) (n : ℕ) (ws us : List ℕ) → ((w : ℕ) → get_or us (free_at n w) 0 ≡ get_or ws (free_at n w) 0) → ((i : ℕ) → turn_after k i ≡ turn_after h i) → FreeBits h vs n ws → FreeBits k vs n us
bits_words h k vs n ws us words turns bits = record {
  sets = λ w b low on. let so = bits.sets w b low (ap (λ (z : ℕ). bit_at z b) (sym (words w)) ∙ on) in (so.0, ⊎_elim (λ e. inl (turns (64 * w + b) ∙ e)) (λ e. inr e) so.1);
  clears = λ w b low near off. let so = bits.clears w b low near (ap (λ (z : ℕ). bit_at z b) (sym (words w)) ∙ off) in ((λ e. so.0 (sym (turns (64 * w + b)) ∙ e)), so.1);
  marks = λ j i v at mark. let so = bits.marks j i v at mark in (so.0, so.1, turns i ∙ so.2);
}

-- other views with the same marks
pub bits_views : (h : List Event) (vs us : List View) (n : ℕ) (ws : List ℕ) → ((i : ℕ) → SomeMarks vs i → SomeMarks us i) → ((i : ℕ) → SomeMarks us i → SomeMarks vs i)
    → ((j i : ℕ) (v : View) → get_elem? us j ≡ some v → Marks v.mark i → (c : ℕ) × Has v.callers c × (turn_after h i ≡ held c)) → FreeBits h vs n ws → FreeBits h us n ws
bits_views h vs us n ws fore back marks bits = record {
  sets = λ w b low on. let so = bits.sets w b low on in (so.0, ⊎_elim (λ e. inl e) (λ e. inr (fore (64 * w + b) e)) so.1);
  clears = λ w b low near off. let so = bits.clears w b low near off in (so.0, λ m. so.1 (back (64 * w + b) m));
  marks = marks;
}

module _ (h : List Event) (vs : List View) (id : ℕ) (v x : View) (n : ℕ) (ws : List ℕ) (at : get_elem? vs id ≡ some v) (same : x.mark ≡ v.mark) (callers : (i c : ℕ) → Marks v.mark i → Has v.callers c → Has x.callers c) where
  -- a view with the same mark and no fewer callers
  pub bits_view : FreeBits h vs n ws → FreeBits h (set vs id x) n ws
  bits_view bits = bits_views h vs (set vs id x) n ws
      (λ i m. dite (ℕ_discrete m.0 id)
      (λ e. let is : m.1 ≡ v = some-injective m.1 v (sym m.2 ∙ ap (get_elem? vs) e ∙ at) in (id, x, set_here vs id x (inside vs id v at), subst (λ (k : Mark). Marks k i) (ap (λ (z : View). z.mark) is ∙ sym same) m.3))
      (λ ne. (m.0, m.1, set_else vs id m.0 x ne ∙ m.2, m.3)))
      (λ i m. ⊎_elim (λ (t : (m.0 ≡ id) × (x ≡ m.1)). (id, v, at, subst (λ (k : Mark). Marks k i) (ap (λ (z : View). z.mark) (sym t.1) ∙ same) m.3)) (λ (t : (m.0 ≢ id) × (get_elem? vs m.0 ≡ some m.1)). (m.0, m.1, t.1, m.3)) (at_set vs id m.0 x m.1 m.2))
      (λ j i u there m. ⊎_elim
      (λ (t : (j ≡ id) × (x ≡ u)). let m' : Marks v.mark i = subst (λ (k : Mark). Marks k i) (ap (λ (z : View). z.mark) (sym t.1) ∙ same) m in let so = bits.marks id i v at m' in (so.0, subst (λ (z : View). Has z.callers so.0) t.1 (callers i so.0 m' so.1), so.2))
      (λ (t : (j ≢ id) × (get_elem? vs j ≡ some u)). bits.marks j i u t.1 m) (at_set vs id j x u there))
      bits

at_end : {A : Type 0} (l : List A) (a b : A) (j : ℕ) → get_elem? (l ++ a ∷ []) j ≡ some b → (get_elem? l j ≡ some b) ⊎ (a ≡ b)
at_end [] a b zero e = inr (some-injective a b e)
at_end [] a b (suc j) e = absurd (some-ne-none b (sym e))
at_end (x ∷ xs) a b zero e = inl e
at_end (x ∷ xs) a b (suc j) e = at_end xs a b j e

-- one more view, without a mark
pub bits_longer : (h : List Event) (vs : List View) (x : View) (n : ℕ) (ws : List ℕ) → x.mark ≡ Quiet → FreeBits h vs n ws → FreeBits h (vs ++ x ∷ []) n ws
bits_longer h vs x n ws quiet bits = bits_views h vs (vs ++ x ∷ []) n ws
    (λ i m. (m.0, m.1, at_longer vs (x ∷ []) m.0 m.1 m.2, m.3))
    (λ i m. ⊎_elim (λ old. (m.0, m.1, old, m.3)) (λ new. absurd (subst (λ (k : Mark). Marks k i) (ap (λ (z : View). z.mark) (sym new) ∙ quiet) m.3)) (at_end vs x m.1 m.0 m.2))
    (λ j i u there m. ⊎_elim (λ old. bits.marks j i u old m) (λ new. absurd (subst (λ (k : Mark). Marks k i) (ap (λ (z : View). z.mark) (sym new) ∙ quiet) m)) (at_end vs x u j there))
    bits

same_node : (w b v a : ℕ) → b < 64 → a < 64 → 64 * w + b ≡ 64 * v + a → (w ≡ v) × (b ≡ a)
same_node w b v a low low' e = (omega arith, omega arith)

-- whose marks name node i
module _ (h : List Event) (vs : List View) (n : ℕ) (ws : List ℕ) (bits : FreeBits h vs n ws) (i : ℕ) where
  pub marks_held : SomeMarks vs i → (c : ℕ) × (turn_after h i ≡ held c)
  marks_held m = let so = bits.marks m.0 i m.1 m.2 m.3 in (so.0, so.2)

  -- a node that c holds is named only by the view of c
  pub mark_own : (views : Views h vs) (id c : ℕ) (v : View) → get_elem? vs id ≡ some v → Has v.callers c → turn_after h i ≡ held c → (j : ℕ) (u : View) → j ≢ id → get_elem? vs j ≡ some u → ¬ Marks u.mark i
  mark_own views id c v at has now j u ne there m = let so = bits.marks j i u there m in let same : so.0 ≡ c = (let e : held so.0 ≡ held c = sym so.2 ∙ now in (cc)) in
      ne (views.apart j id c u v there at (subst (λ (z : ℕ). Has (all_callers u) z) same (has_left u.callers (callers_in u.absorbed) so.0 so.1)) (has_left v.callers (callers_in v.absorbed) c has))

  pub bit_off : (w b : ℕ) → b < 64 → 64 * w + b ≡ i → turn_after h i ≢ free → ¬ SomeMarks vs i → free_bit n ws w b ≡ 0
  bit_off w b low is taken unmarked = ⊎_elim (λ z. z) (λ on. let so = bits.sets w b low on in absurd (⊎_elim (λ e. taken (ap (turn_after h) (sym is) ∙ e)) (λ m. unmarked (subst (SomeMarks vs) is m)) so.1)) (bit_two (get_or ws (free_at n w) 0) b)

  pub bit_on : (w b : ℕ) → b < 64 → 64 * w + b ≡ i → i < n → (turn_after h i ≡ free) ⊎ SomeMarks vs i → free_bit n ws w b ≡ 1
  bit_on w b low is near ready = ⊎_elim (λ off. let so = bits.clears w b low (omega arith) off in absurd (⊎_elim (λ e. so.0 (ap (turn_after h) is ∙ e)) (λ m. so.1 (subst (SomeMarks vs) (sym is) m)) ready)) (λ z. z) (bit_two (get_or ws (free_at n w) 0) b)

-- the bit, the turn and the mark of one node change
module _ (h k : List Event) (vs : List View) (id : ℕ) (v x : View) (n : ℕ) (ws us : List ℕ) (i : ℕ) (bits : FreeBits h vs n ws) (at : get_elem? vs id ≡ some v)
    (words : (w b : ℕ) → b < 64 → 64 * w + b ≢ i → free_bit n us w b ≡ free_bit n ws w b)
    (turns : (j : ℕ) → j ≢ i → turn_after k j ≡ turn_after h j)
    (was : (j : ℕ) → Marks v.mark j → j ≡ i) (is : (j : ℕ) → Marks x.mark j → j ≡ i)
    (others : (j : ℕ) (u : View) → j ≢ id → get_elem? vs j ≡ some u → ¬ Marks u.mark i)
    (near : i < n)
    (here : (w b : ℕ) → b < 64 → 64 * w + b ≡ i → ((free_bit n us w b ≡ 1) × ((turn_after k i ≡ free) ⊎ Marks x.mark i)) ⊎ ((free_bit n us w b ≡ 0) × (turn_after k i ≢ free) × (¬ Marks x.mark i)))
    (holds : Marks x.mark i → (c : ℕ) × Has x.callers c × (turn_after k i ≡ held c)) where
  now_named : (j : ℕ) → j ≢ i → SomeMarks vs j → SomeMarks (set vs id x) j
  now_named j ne m = dite (ℕ_discrete m.0 id)
      (λ e. absurd (ne (was j (subst (λ (z : View). Marks z.mark j) (some-injective m.1 v (sym m.2 ∙ ap (get_elem? vs) e ∙ at)) m.3))))
      (λ other. (m.0, m.1, set_else vs id m.0 x other ∙ m.2, m.3))

  then_named : (j : ℕ) → j ≢ i → SomeMarks (set vs id x) j → SomeMarks vs j
  then_named j ne m = ⊎_elim (λ (t : (m.0 ≡ id) × (x ≡ m.1)). absurd (ne (is j (subst (λ (z : View). Marks z.mark j) (sym t.1) m.3)))) (λ (t : (m.0 ≢ id) × (get_elem? vs m.0 ≡ some m.1)). (m.0, m.1, t.1, m.3)) (at_set vs id m.0 x m.1 m.2)

  named_here : SomeMarks (set vs id x) i → Marks x.mark i
  named_here m = ⊎_elim (λ (t : (m.0 ≡ id) × (x ≡ m.1)). subst (λ (z : View). Marks z.mark i) (sym t.1) m.3) (λ (t : (m.0 ≢ id) × (get_elem? vs m.0 ≡ some m.1)). absurd (others m.0 m.1 t.0 t.1 m.3)) (at_set vs id m.0 x m.1 m.2)

  Open : ℕ → Type 0
  Open j = (j < n) × ((turn_after k j ≡ free) ⊎ SomeMarks (set vs id x) j)

  Shut : ℕ → Type 0
  Shut j = (turn_after k j ≢ free) × (¬ SomeMarks (set vs id x) j)

  sets_now : (w b : ℕ) → b < 64 → free_bit n us w b ≡ 1 → Open (64 * w + b)
  unfolding Open
  sets_now w b low on = dite (ℕ_discrete (64 * w + b) i)
      (λ e. subst Open (sym e) (near, ⊎_elim (λ t. ⊎_elim (λ f. inl f) (λ m. inr (id, x, set_here vs id x (inside vs id v at), m)) t.1) (λ t. absurd (omega (arith, t.0, on))) (here w b low e)))
      (λ ne. let so = bits.sets w b low (sym (words w b low ne) ∙ on) in (so.0, ⊎_elim (λ f. inl (turns (64 * w + b) ne ∙ f)) (λ m. inr (now_named (64 * w + b) ne m)) so.1))

  clears_now : (w b : ℕ) → b < 64 → 64 * w + b < n → free_bit n us w b ≡ 0 → Shut (64 * w + b)
  unfolding Shut
  clears_now w b low inside_it off = dite (ℕ_discrete (64 * w + b) i)
      (λ e. subst Shut (sym e) (⊎_elim (λ t. absurd (omega (arith, t.0, off))) (λ t. (t.1, λ m. t.2 (named_here m))) (here w b low e)))
      (λ ne. let so = bits.clears w b low inside_it (sym (words w b low ne) ∙ off) in ((λ f. so.0 (sym (turns (64 * w + b) ne) ∙ f)), λ m. so.1 (then_named (64 * w + b) ne m)))

  pub bits_at : FreeBits k (set vs id x) n us
  unfolding Open Shut
  bits_at = record {
    sets = sets_now;
    clears = clears_now;
    marks = λ j l u there m. ⊎_elim
        (λ (t : (j ≡ id) × (x ≡ u)). let m' : Marks x.mark l = subst (λ (z : View). Marks z.mark l) (sym t.1) m in let e : l ≡ i = is l m' in let so = holds (subst (Marks x.mark) e m') in
        (so.0, subst (λ (z : View). Has z.callers so.0) t.1 so.1, ap (turn_after k) e ∙ so.2))
        (λ (t : (j ≢ id) × (get_elem? vs j ≡ some u)). let so = bits.marks j l u t.1 m in let ne : l ≢ i = λ e. others j u t.0 t.1 (subst (Marks u.mark) e m) in (so.0, so.1, turns l ne ∙ so.2)) (at_set vs id j x u there);
  }

-- node i is free or marked both before the event and after it, or neither
abbrev pub Lasting : List Event → Event → List View → Mark → ℕ → Type 0
Lasting h e vs k i =
    (((turn_after h i ≡ free) ⊎ SomeMarks vs i) × ((turn_after (e ∷ h) i ≡ free) ⊎ Marks k i))
    ⊎ ((turn_after h i ≢ free) × (¬ SomeMarks vs i) × (turn_after (e ∷ h) i ≢ free) × (¬ Marks k i))

-- a step on the turn word of node i
module _ (h : List Event) (e : Event) (vs : List View) (id : ℕ) (v : View) (k : Mark) (n : ℕ) (ws : List ℕ) (i new : ℕ) (bits : FreeBits h vs n ws) (at : get_elem? vs id ≡ some v) (near : i < n)
    (turns : (j : ℕ) → j ≢ i → turn_after (e ∷ h) j ≡ turn_after h j)
    (was : (j : ℕ) → Marks v.mark j → j ≡ i) (is : (j : ℕ) → Marks k j → j ≡ i)
    (others : (j : ℕ) (u : View) → j ≢ id → get_elem? vs j ≡ some u → ¬ Marks u.mark i)
    (holds : Marks k i → (c : ℕ) × Has v.callers c × (turn_after (e ∷ h) i ≡ held c)) where
  pub turn_bits : Lasting h e vs k i → FreeBits (e ∷ h) (set vs id (with_seen (marked k v) (e ∷ h))) n (set ws (turn_at i) new)
  turn_bits lasts = let same : (w : ℕ) → get_or (set ws (turn_at i) new) (free_at n w) 0 ≡ get_or ws (free_at n w) 0 = λ w. get_or-set_other ws (turn_at i) (free_at n w) new 0 (λ y. turn_no_free i n w near (sym y)) in
      bits_at h (e ∷ h) vs id v (with_seen (marked k v) (e ∷ h)) n ws (set ws (turn_at i) new) i bits at (λ w b low ne. ap (λ (z : ℕ). bit_at z b) (same w)) turns was is others near
      (λ w b low eq. ⊎_elim (λ t. inl (ap (λ (z : ℕ). bit_at z b) (same w) ∙ bit_on h vs n ws bits i w b low eq near t.0, t.1)) (λ t. inr (ap (λ (z : ℕ). bit_at z b) (same w) ∙ bit_off h vs n ws bits i w b low eq t.0 t.1, t.2, t.3)) lasts)
      holds

-- a step on the free word of node i, which its caller holds
module _ (h : List Event) (vs : List View) (id : ℕ) (v : View) (k : Mark) (n : ℕ) (ws : List ℕ) (i c new : ℕ) (views : Views h vs) (bits : FreeBits h vs n ws) (at : get_elem? vs id ≡ some v) (near : i < n)
    (own : Has v.callers c) (now : turn_after h i ≡ held c)
    (was : (j : ℕ) → Marks v.mark j → j ≡ i) (is : (j : ℕ) → Marks k j → j ≡ i) (wide : free_at n (i / 64) < length ws)
    (rest : (b : ℕ) → b < 64 → b ≢ i % 64 → bit_at new b ≡ bit_at (get_or ws (free_at n (i / 64)) 0) b)
    (here : ((bit_at new (i % 64) ≡ 1) × Marks k i) ⊎ ((bit_at new (i % 64) ≡ 0) × (¬ Marks k i))) where
  taken : turn_after h i ≢ free
  taken f = let e : held c ≡ free = sym now ∙ f in (cc)

  here_at : (b : ℕ) → i % 64 ≡ b → ((bit_at new b ≡ 1) × Marks k i) ⊎ ((bit_at new b ≡ 0) × (¬ Marks k i))
  here_at b e = subst (λ (z : ℕ). ((bit_at new z ≡ 1) × Marks k i) ⊎ ((bit_at new z ≡ 0) × (¬ Marks k i))) e here

  pub free_word_bits : FreeBits h (set vs id (with_seen (marked k v) h)) n (set ws (free_at n (i / 64)) new)
  free_word_bits = let q : ℕ = i / 64 in let us : List ℕ = set ws (free_at n q) new in let there : get_or us (free_at n q) 0 ≡ new = get_or-set_same ws (free_at n q) new 0 wide in
      bits_at h h vs id v (with_seen (marked k v) h) n ws us i bits at
      (λ w b low ne. dite (ℕ_discrete w q)
      (λ e. ap (λ (z : ℕ). bit_at (get_or us (free_at n z) 0) b) e ∙ ap (λ (z : ℕ). bit_at z b) there ∙ rest b low (λ f. ne (omega arith)) ∙ ap (λ (z : ℕ). bit_at (get_or ws (free_at n z) 0) b) (sym e))
      (λ d. ap (λ (z : ℕ). bit_at z b) (get_or-set_other ws (free_at n q) (free_at n w) new 0 (frees_apart n q w d))))
      (λ j ne. refl) was is (mark_own h vs n ws bits i views id c v at own now) near
      (λ w b low eq. let word : w ≡ q = omega arith in let bit : i % 64 ≡ b = omega arith in let same : free_bit n us w b ≡ bit_at new b = ap (λ (z : ℕ). bit_at (get_or us (free_at n z) 0) b) word ∙ ap (λ (z : ℕ). bit_at z b) there in
      ⊎_elim (λ t. inl (same ∙ t.0, inr t.1)) (λ t. inr (same ∙ t.0, taken, t.1)) (here_at b bit))
      (λ m. (c, own, now))

-- the bit of node m is set, after those of the nodes before it
pub first_more : (n m : ℕ) (ws : List ℕ) → 0 < m → free_at n (m / 64) < length ws → FirstBits n m ws → FirstBits n (m + 1) (set ws (free_at n (m / 64)) (bit_or (get_or ws (free_at n (m / 64)) 0) (1 * 2 ^ (m % 64) % 2 ^ 64)))
first_more n m ws pos wide bits = let q : ℕ = m / 64 in let a : ℕ = m % 64 in let low' : a < 64 = omega arith in let old : ℕ = get_or ws (free_at n q) 0 in let new : ℕ = bit_or old (1 * 2 ^ a % 2 ^ 64) in let us : List ℕ = set ws (free_at n q) new in
    let there : get_or us (free_at n q) 0 ≡ new = get_or-set_same ws (free_at n q) new 0 wide in
    let here : (w b : ℕ) → w ≡ q → free_bit n us w b ≡ bit_at new b = λ w b e. ap (λ (z : ℕ). bit_at (get_or us (free_at n z) 0) b) e ∙ ap (λ (z : ℕ). bit_at z b) there in
    let other : (w b : ℕ) → b < 64 → 64 * w + b ≢ m → free_bit n us w b ≡ free_bit n ws w b = λ w b low ne. dite (ℕ_discrete w q)
    (λ e. here w b e ∙ bit_at_set_other w64 old a low' b (λ f. ne (omega arith)) ∙ ap (λ (z : ℕ). bit_at (get_or ws (free_at n z) 0) b) (sym e))
    (λ d. ap (λ (z : ℕ). bit_at z b) (get_or-set_other ws (free_at n q) (free_at n w) new 0 (frees_apart n q w d))) in record {
      sets = λ w b low on. dite (ℕ_discrete (64 * w + b) m)
          (λ e. (omega arith, omega arith))
          (λ ne. let so = bits.sets w b low (sym (other w b low ne) ∙ on) in (so.0, omega (arith, so.1)));
      clears = λ w b low off near. dite (ℕ_discrete (64 * w + b) m)
          (λ e. let word : w ≡ q = omega arith in let bit : b ≡ a = omega arith in let on : free_bit n us w b ≡ 1 = here w b word ∙ ap (bit_at new) bit ∙ bit_at_set_same w64 old a low' in absurd (omega (arith, on, off)))
          (λ ne. bits.clears w b low (sym (other w b low ne) ∙ off) (omega arith));
    }
