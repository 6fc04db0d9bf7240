-- A run of places and the place beside it.
use Rattle.std.proofs.Common.{◌≡◌, ℕ, zero, suc, ◌+◌, ◌<◌, ◌≤◌, List, [], ◌∷◌, ◌++◌, length, take, drop, get_or, refl, ap, ◌∙◌, arith, length-append, length-take, length-drop, get_or-drop}
use lib.Seq.{drop-cons}
use Rattle.std.specs.Prelude.{Option, None}
use Rattle.ks_block.specs.Places.{run, spliced}

take_more : {X : Type 0} (xs : List X) (n : ℕ) (d : X) → n < length xs → take (suc n) xs ≡ take n xs ++ get_or xs n d ∷ []
take_more [] n d h = absurd (omega arith)
take_more (x ∷ xs) zero d h = refl
take_more (x ∷ xs) (suc n) d h = ap (λ l. x ∷ l) (take_more xs n d (omega arith))

module _ {X : Type 0} (cs : List (Option X)) (at n : ℕ) where
  pub length-run : at + n ≤ length cs → length (run cs at n) ≡ n
  length-run h = omega (arith, length-take n (drop at cs), length-drop at cs)

  pub length-spliced : (ds : List (Option X)) → at + n ≤ length cs → length ds ≡ n → length (spliced cs at n ds) ≡ length cs
  length-spliced ds h e = omega (arith, length-append (take at cs) (ds ++ drop (at + n) cs), length-append ds (drop (at + n) cs), length-take at cs, length-drop (at + n) cs)

  -- a run and the place behind it
  pub run_behind : at + n < length cs → run cs at (n + 1) ≡ run cs at n ++ get_or cs (at + n) None ∷ []
  run_behind h =
      let more : n + 1 ≡ suc n = omega arith in
      ap (λ (k : ℕ). take k (drop at cs)) more ∙ take_more (drop at cs) n None (omega (arith, length-drop at cs)) ∙ ap (λ c. run cs at n ++ c ∷ []) (get_or-drop at cs n None)

  -- a run and the place before it
  pub run_before : at < length cs → run cs at (n + 1) ≡ get_or cs at None ∷ run cs (at + 1) n
  run_before h =
      let more : n + 1 ≡ suc n = omega arith in let next : suc at ≡ at + 1 = omega arith in
      ap (λ (k : ℕ). take k (drop at cs)) more ∙ ap (take (suc n)) (drop-cons cs at None h) ∙ ap (λ (k : ℕ). get_or cs at None ∷ take n (drop k cs)) next
