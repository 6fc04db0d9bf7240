-- What a shift by one place makes of a list: room for an element, or one element less.
use Rattle.std.specs.Prelude.{◌≡◌, ℕ, zero, suc, ◌+◌, ◌-◌, ◌<◌, ◌≤◌, List, [], ◌∷◌, ◌++◌, length, take, drop, refl}
use Rattle.std.specs.List.{insert, remove, refill, copy_within}
use Rattle.std.proofs.Common.{arith, ap, ◌∙◌, set, append-nil, length-append, length-drop}
use Rattle.std.proofs.Math.Seq.{paste}
use Rattle.std.proofs.lemmas.List.{take_all, drop_all}
use Rattle.std.proofs.lemmas.List.Edits.{take-paste, length-insert}
use Rattle.ks_pairs.proofs.Lists.{refill_same}

module _ {X : Type 0} where
  take_front : (xs : List X) (n : ℕ) (x : X) → n ≡ length xs → take n (xs ++ x ∷ []) ≡ xs
  take_front [] zero x e = refl
  take_front [] (suc n) x e = absurd (omega arith)
  take_front (y ∷ ys) zero x e = absurd (omega arith)
  take_front (y ∷ ys) (suc n) x e = ap (λ l. y ∷ l) (take_front ys n x (omega arith))

  drop_front : (xs : List X) (k : ℕ) (x : X) → k ≡ suc (length xs) → drop k (xs ++ x ∷ []) ≡ []
  drop_front [] zero x e = absurd (omega arith)
  drop_front [] (suc k) x e = drop_all k [] (omega arith)
  drop_front (y ∷ ys) zero x e = absurd (omega arith)
  drop_front (y ∷ ys) (suc k) x e = drop_front ys k x (omega arith)

  first_set : (xs rest : List X) (x : X) → set ((take 1 (xs ++ x ∷ []) ++ rest) ++ []) 0 x ≡ x ∷ rest
  first_set [] rest x = ap (λ l. x ∷ l) (append-nil rest)
  first_set (y ∷ ys) rest x = ap (λ l. x ∷ l) (append-nil rest)

  shifted_up : (xs : List X) (at n j k : ℕ) (x : X) → at + n ≡ length xs → j ≡ suc at → k ≡ suc (length xs) → set ((take j (xs ++ x ∷ []) ++ take n (drop at (xs ++ x ∷ []))) ++ drop k (xs ++ x ∷ [])) at x ≡ insert xs at x
  shifted_up xs zero n j k x e j_is k_is = rw (j_is, take_front xs n x (omega arith), drop_front xs k x k_is) (first_set xs xs x)
  shifted_up [] (suc at) n j k x e j_is k_is = absurd (omega arith)
  shifted_up (y ∷ ys) (suc at) n zero k x e j_is k_is = absurd (omega arith)
  shifted_up (y ∷ ys) (suc at) n (suc j) zero x e j_is k_is = absurd (omega arith)
  shifted_up (y ∷ ys) (suc at) n (suc j) (suc k) x e j_is k_is =
      ap (λ l. y ∷ l) (shifted_up ys at n j k x (omega arith) (omega arith) (omega arith))

  -- one is put behind all, those from an index on move up by one, and the index is written over
  pub inserted : (xs d moved : List X) (at count : ℕ) (x : X) → at ≤ length xs → count ≡ length xs → d ≡ xs ++ x ∷ [] → moved ≡ copy_within d at count (at + 1) → refill (length d) d (set moved at x) ≡ insert xs at x
  inserted xs d moved at count x h count_is d_is moved_is =
      let same : set moved at x ≡ insert xs at x =
      rw (moved_is, d_is) (shifted_up xs at (count - at) (at + 1) (at + 1 + (count - at)) x (omega arith) (omega arith) (omega arith)) in
      refill_same (length d) d (set moved at x) (omega (arith, ap length same, length-insert xs at x h, ap length d_is, length-append xs (x ∷ []))) ∙ same

  shifted_down : (xs : List X) (at n j k : ℕ) → j ≡ suc at → n + j ≡ length xs → k ≡ at + n → take k (paste xs at (drop j xs) n) ≡ remove xs at
  shifted_down xs at n j k j_is n_is k_is =
      rw (k_is, j_is)
      (take-paste xs at (drop (suc at) xs) n (omega arith) (omega (arith, length-drop (suc at) xs))
      ∙ ap (λ l. take at xs ++ l) (take_all n (drop (suc at) xs) (omega (arith, length-drop (suc at) xs))))

  -- those behind an index move down by one, and the last is left out
  pub removed : (xs moved : List X) (at count : ℕ) → at < length xs → count ≡ length xs → length moved ≡ length xs → moved ≡ copy_within xs (at + 1) count at → take (length (refill (length xs) xs moved) - 1) (refill (length xs) xs moved) ≡ remove xs at
  removed xs moved at count h count_is long moved_is =
      rw (refill_same (length xs) xs moved long)
      (ap (λ l. take (length moved - 1) l) moved_is
      ∙ shifted_down xs at (count - (at + 1)) (at + 1) (length moved - 1) (omega arith) (omega arith) (omega arith))
