-- The one element of a list that a pop leaves empty.
use Rattle.std.proofs.Common.{◌≡◌, List, [], ◌∷◌, ◌++◌, length, ap, arith}
use Rattle.std.proofs.lemmas.List.{length-append}
use mathlib.Core.Option.{some}
use lib.ListN.{get_elem?}

pub one_of : {X : Type 0} (ps one : List X) (a : X) → length ps ≡ 1 → ps ≡ one ++ a ∷ [] → get_elem? ps 0 ≡ some a
one_of ps [] a long last = ap (λ l. get_elem? l 0) last
one_of ps (x ∷ xs) a long last =
    let n : length ps ≡ length ((x ∷ xs) ++ a ∷ []) = ap length last in
    absurd (omega (arith, long, n, length-append (x ∷ xs) (a ∷ [])))
