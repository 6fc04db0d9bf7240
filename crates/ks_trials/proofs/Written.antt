-- A vector whose elements were all written through a slice.
use Rattle.std.proofs.Common.{◌≡◌, ℕ, List, ◌++◌, length, take, drop, ◌∙◌, sym, ap}
use Rattle.std.proofs.Math.Seq.{take-append_seam}

pub written : {X : Type 0} (n : ℕ) (xs ys : List X) → n ≡ length xs → length ys ≡ length xs → take n (ys ++ drop (length ys) xs) ≡ ys
written n xs ys is same = ap (λ k. take k (ys ++ drop (length ys) xs)) (is ∙ sym same) ∙ take-append_seam ys (drop (length ys) xs)
