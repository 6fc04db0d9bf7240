-- The two elements of a list that two pops leave empty.
use Rattle.std.proofs.Common.{ℕ, zero, suc, ◌≡◌, ◌<◌, List, [], ◌∷◌, ◌++◌, length, sym, ◌∙◌, ap, subst, arith}
use Rattle.std.proofs.lemmas.List.{length-append}
use mathlib.Core.Option.{some}
use lib.ListN.{get_elem?}

pub two_of : {X : Type 0} (ps one two : List X) (a b : X) → length ps ≡ 2 → ps ≡ one ++ b ∷ [] → one ≡ two ++ a ∷ [] → ps ≡ a ∷ b ∷ []
two_of ps one [] a b long last first = last ∙ ap (λ l. l ++ b ∷ []) first
two_of ps one (x ∷ xs) a b long last first =
    let n : length ps ≡ length (one ++ b ∷ []) = ap length last in
    let m : length one ≡ length ((x ∷ xs) ++ a ∷ []) = ap length first in
    absurd (omega (arith, long, n, m, length-append one (b ∷ []), length-append (x ∷ xs) (a ∷ [])))

-- and the one of a list that one pop leaves empty
pub one_of : {X : Type 0} (ps one : List X) (a : X) → length ps ≡ 1 → ps ≡ one ++ a ∷ [] → get_elem? ps 0 ≡ some a
one_of ps [] a long last = ap (λ l. get_elem? l 0) last
one_of ps (x ∷ xs) a long last =
    let n : length ps ≡ length ((x ∷ xs) ++ a ∷ []) = ap length last in
    absurd (omega (arith, long, n, length-append (x ∷ xs) (a ∷ [])))

pub first_is : {X : Type 0} (ps : List X) (a b : X) → ps ≡ a ∷ b ∷ [] → get_elem? ps 0 ≡ some a
first_is ps a b e = ap (λ l. get_elem? l 0) e

pub second_is : {X : Type 0} (ps : List X) (a b : X) → ps ≡ a ∷ b ∷ [] → get_elem? ps 1 ≡ some b
second_is ps a b e = ap (λ l. get_elem? l 1) e

-- what holds of both holds of each
pub each_of : {X : Type 0} (P : X → Type 0) (ps : List X) (a b : X) → ps ≡ a ∷ b ∷ [] → P a → P b → (j : ℕ) (p : X) → get_elem? ps j ≡ some p → P p
each_of P ps a b e pa pb j p is = go j (sym (ap (λ l. get_elem? l j) e) ∙ is)
  where
    go : (j : ℕ) → get_elem? (a ∷ b ∷ []) j ≡ some p → P p
    go zero q = let same : a ≡ p = cc in subst P same pa
    go (suc zero) q = let same : b ≡ p = cc in subst P same pb
    go (suc (suc j)) q = cc

-- each number below 2 is that of one of the two
pub all_of : {X : Type 0} (f : X → ℕ) (ps : List X) (a b : X) → ps ≡ a ∷ b ∷ [] → f a ≡ 0 → f b ≡ 1 → (c : ℕ) → c < 2 → (j : ℕ) × (p : X) × (get_elem? ps j ≡ some p) × (f p ≡ c)
all_of f ps a b e fa fb zero lt = (0, a, first_is ps a b e, fa)
all_of f ps a b e fa fb (suc zero) lt = (1, b, second_is ps a b e, fb)
all_of f ps a b e fa fb (suc (suc c)) lt = absurd (omega arith)
