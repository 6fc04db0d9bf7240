-- The two elements of a list that two pops leave empty.
use Rattle.std.proofs.Common.{◌≡◌, List, [], ◌∷◌, ◌++◌, length, ◌∙◌, ap, arith}
use Rattle.std.proofs.lemmas.List.{length-append}
use mathlib.Core.Option.{some}
use lib.ListN.{get_elem?}

both : {X : Type 0} (ps one two : List X) (a b : X) → length ps ≡ 2 → ps ≡ one ++ b ∷ [] → one ≡ two ++ a ∷ [] → ps ≡ a ∷ b ∷ []
both ps one [] a b long last first = last ∙ ap (λ l. l ++ b ∷ []) first
both ps one (x ∷ xs) a b long last first =
    let n : length ps ≡ length (one ++ b ∷ []) = ap length last in
    let m : length one ≡ length ((x ∷ xs) ++ a ∷ []) = ap length first in
    absurd (omega (arith, long, n, m, length-append one (b ∷ []), length-append (x ∷ xs) (a ∷ [])))

pub popped : {X : Type 0} (ps one two : List X) (a b : X) → length ps ≡ 2 → ps ≡ one ++ b ∷ [] → one ≡ two ++ a ∷ [] → (get_elem? ps 0 ≡ some a) × (get_elem? ps 1 ≡ some b)
popped ps one two a b long last first = let e = both ps one two a b long last first in (ap (λ l. get_elem? l 0) e, ap (λ l. get_elem? l 1) e)
