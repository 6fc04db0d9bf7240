-- What is at a position of a list.
use Rattle.std.proofs.Common.{ℕ, zero, suc, ◌≡◌, ◌<◌, List, [], ◌∷◌, length, refl, arith}
use mathlib.Core.Option.{some}
use lib.ListN.{get_elem?}

pub there : {A : Type 0} (l : List A) (k : ℕ) → k < length l → (a : A) × (get_elem? l k ≡ some a)
there [] k lt = absurd (omega arith)
there (x ∷ l) zero lt = (x, refl)
there (x ∷ l) (suc k) lt = there l k (omega arith)
