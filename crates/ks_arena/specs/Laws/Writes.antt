-- A put and a del do to ascending pairs what their calls write; and a search ends at no branch.
use Rattle.std.specs.Prelude.{◌≡◌, ℕ, suc, ◌<◌, ◌≤◌, ◌==◌, Bool, true, false, cond, is_some, nat_lt, List, [], ◌∷◌, All, None, refl}
use Rattle.std.proofs.Common.{arith, ap, ◌∙◌, sym, inl, inr}
use Rattle.std.proofs.lemmas.Bool.{lt-ltb, le-ltb}
use Rattle.std.proofs.lemmas.Bool.Decides.{leb_tells, eqb_tells}
use Rattle.ks_keysets.specs.declared.Pair.{Pair}
use Rattle.ks_keysets.specs.Record.{first_value}
use Rattle.ks_history.specs.Write.{sets, pairs_with, pairs_without, with_new, with_value}
use Rattle.ks_node.specs.declared.start.Start.{Start}
use Rattle.ks_node.specs.declared.start.Next.TheVariants.{Here}
use Rattle.ks_node.specs.Asks.{IsBelowOwn}
use Rattle.ks_node.specs.Body.{Body, content_of, first_of, is_branch, last_of, next_at}
use Rattle.ks_node.specs.Keyed.{Ascends}
use Rattle.ks_node.specs.Laws.Ascend.{asc_head, asc_tail}
use Rattle.ks_node.specs.Effect.{pairs_put, pairs_del}
use Rattle.ks_node.specs.Sound.{Sound, starts_at_zero}
use Rattle.ks_node.specs.Laws.Ways.{below_own}
use Rattle.ks_node.specs.Laws.Puts.{put_here, put_before, put_after, del_here, del_before, del_after}

differs : (p : ℕ) (x : Pair) → x.place < p → (x.place == p) ≡ false
differs p x lt = elim (eqb_tells x.place p) [ inl e ↦ absurd (omega (arith, lt, e.1)) | inr n ↦ n.0 ]

-- a put

none_above : (p : ℕ) (xs : List Pair) → All (λ x. p < x.place) xs → first_value xs p ≡ None
none_above p [] a = refl
none_above p (x ∷ xs) a = elim (eqb_tells x.place p) [
  | inl e ↦ (let above : p < x.place = a 0 x (omega arith) in absurd (omega (arith, e.1, above)))
  | inr n ↦ rw n.0 (none_above p xs (λ k d l. a (suc k) d (omega arith)))
]

set_rest : (p v : ℕ) (x : Pair) (xs : List Pair) → x.place < p → pairs_with (x ∷ xs) (sets p v) ≡ x ∷ pairs_with xs (sets p v)
set_rest p v x xs lt = rw (differs p x lt, stays) (either (is_some (first_value xs p)))
  where
    stays : nat_lt p x.place ≡ false
    stays = le-ltb _ _ (omega arith)

    either : (b : Bool) → cond b (x ∷ with_value xs p v) (x ∷ with_new xs p v) ≡ x ∷ cond b (with_value xs p v) (with_new xs p v)
    either true = refl
    either false = refl

pub put_sets : (p v : ℕ) (xs : List Pair) → Ascends (λ x. x.place) xs → pairs_with xs (sets p v) ≡ pairs_put p v xs
put_sets p v [] up = refl
put_sets p v (x ∷ xs) up = elim (eqb_tells x.place p) [
  | inl e ↦ rw e.0 (sym (put_here p v x xs e.1 up))
  | inr n ↦ elim (leb_tells (suc p) x.place) [
    | inl lt ↦ (
        let none : first_value xs p ≡ None = none_above p xs (λ k d l. let y = asc_head (λ x. x.place) x xs up k d l in omega (arith, y, lt.1)) in
        let before : nat_lt p x.place ≡ true = lt-ltb _ _ (omega (arith, lt.1)) in
        let first : pairs_with (x ∷ xs) (sets p v) ≡ record { place = p; value = v } ∷ x ∷ xs = rw (n.0, none, before) refl in
        first ∙ sym (put_before p v x xs (omega (arith, lt.1)) up))
    | inr ge ↦ (
        let lt : x.place < p = omega (arith, n.1, ge.1) in
        set_rest p v x xs lt ∙ ap (λ ys. x ∷ ys) (put_sets p v xs (asc_tail (λ x. x.place) x xs up)) ∙ sym (put_after p v x xs lt))
  ]
]

-- a del

without_above : (p : ℕ) (xs : List Pair) → All (λ x. p < x.place) xs → pairs_without xs p ≡ xs
without_above p [] a = refl
without_above p (x ∷ xs) a = elim (eqb_tells x.place p) [
  | inl e ↦ (let above : p < x.place = a 0 x (omega arith) in absurd (omega (arith, e.1, above)))
  | inr n ↦ rw n.0 (ap (λ ys. x ∷ ys) (without_above p xs (λ k d l. a (suc k) d (omega arith))))
]

pub del_removes : (p : ℕ) (xs : List Pair) → Ascends (λ x. x.place) xs → pairs_without xs p ≡ pairs_del p xs
del_removes p [] up = refl
del_removes p (x ∷ xs) up = elim (eqb_tells x.place p) [
  | inl e ↦ rw e.0 (del_removes p xs (asc_tail (λ x. x.place) x xs up) ∙ sym (del_here p 0 x xs e.1))
  | inr n ↦ elim (leb_tells (suc p) x.place) [
    | inl lt ↦ (
        let none : pairs_without xs p ≡ xs = without_above p xs (λ k d l. let y = asc_head (λ x. x.place) x xs up k d l in omega (arith, y, lt.1)) in
        rw n.0 (ap (λ ys. x ∷ ys) none ∙ sym (del_before p 0 x xs (omega (arith, lt.1)) up)))
    | inr ge ↦ rw n.0 (ap (λ ys. x ∷ ys) (del_removes p xs (asc_tail (λ x. x.place) x xs up)) ∙ sym (del_after p 0 x xs (omega (arith, n.1, ge.1))))
  ]
]

-- a search that ends at a place of the range

-- edges that cover all places carry each of them
covered : (p : ℕ) (ss : List Start) → starts_at_zero ss ≡ true → All (λ s. p < s.low) ss → ⊥
covered p [] z above = cc
covered p (s ∷ ss) z above = elim (eqb_tells s.low 0) [
  | inl e ↦ (let low : p < s.low = above 0 s (omega arith) in absurd (omega (arith, low, e.1)))
  | inr n ↦ (let w : false ≡ true = sym n.0 ∙ z in cc)
]

module _ (b : Body) (p : ℕ) (sound : Sound (content_of b)) (first : first_of b.range ≤ p) (last : p ≤ last_of b.range) (here : next_at b p ≡ Here) where
  pub ends_below_own : IsBelowOwn b p
  ends_below_own = below_own b p sound first last here

  pub ends_at_no_branch : is_branch b ≡ false
  ends_at_no_branch = go (is_branch b) refl
    where
      go : (k : Bool) → is_branch b ≡ k → is_branch b ≡ false
      go false e = e
      go true e = absurd (covered p b.starts (sound.branch_covers e) ends_below_own)
