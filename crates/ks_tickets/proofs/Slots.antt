-- The slots that a desk carries, and those of a table at its start and its end.
use Rattle.std.proofs.Common.{zero, suc, ◌≡◌, ℕ, ◌+◌, ◌<◌, List, [], ◌∷◌, ◌++◌, length, length-append, get_or, set, get_or-set_other, Bool, true, false, ◌≤◌, map, replicate, refl, sym, ap, ◌∙◌, subst, arith}
use Rattle.std.specs.Prelude.{Option, Some, None}
use mathlib.Core.Option.{some, some-injective}
use mathlib.Core.Logic.{dite}
use native.Mathlib.Decide.{ℕ_discrete}
use lib.ListN.{get_elem?}
use Rattle.atomic_table.proofs.Lists.{at_longer, at_last, at_map}
use Rattle.ks_tickets.specs.Clauses.{EachAs, AreHome}
use Rattle.atomic_table.specs.Table.{rest}

module _ {S : Type 0} where
  pub top_rest : (xs : List (ℕ × S)) (x : ℕ × S) (ys : List (ℕ × S)) → xs ≡ x ∷ ys → xs ≡ x ∷ rest xs
  top_rest xs x ys e = e ∙ ap (λ (z : List (ℕ × S)). x ∷ rest z) (sym e)

  pub rest_is : (k : ℕ) (a : S) (xs : List (ℕ × S)) (x : ℕ × S) (ys : List (ℕ × S)) → xs ≡ x ∷ ys → (k, a) ∷ rest xs ≡ (k, a) ∷ ys
  rest_is k a xs x ys e = ap (λ (z : List (ℕ × S)). (k, a) ∷ rest z) e

module _ {J : Type 0} (meets : J → ℕ → Type 0) where
  pub next_done : (xs : List (Option J)) (i : ℕ) (x : Option J) (j : J) → AreHome meets xs → i < length xs → get_elem? xs i ≡ some x → x ≡ Some j → meets j i
  next_done xs i x j so near at is = let d = so i near in let e : Some d.0 ≡ Some j = some-injective (Some d.0) x (sym d.1 ∙ at) ∙ is in let b : d.0 ≡ j = cc in subst (λ (z : J). meets z i) b d.2

  pub never_none : (xs : List (Option J)) (i : ℕ) (x : Option J) → AreHome meets xs → i < length xs → get_elem? xs i ≡ some x → ¬ (x ≡ None)
  never_none xs i x so near at is = let d = so i near in let e : Some d.0 ≡ x = some-injective (Some d.0) x (sym d.1 ∙ at) in let q : ⊥ = cc in q

  pub one_more : (js : List J) (j : J) → EachAs meets js → meets j (length js) → EachAs meets (js ++ j ∷ [])
  one_more js j so fin t near = dite (ℕ_discrete t (length js))
      (λ e. (j, at_last js j t (sym e), subst (meets j) (sym e) fin))
      (λ ne. let l : length (js ++ j ∷ []) ≡ length js + 1 = length-append js (j ∷ []) in let x = so t (omega arith) in (x.0, at_longer js (j ∷ []) t x.0 x.1, x.2))

  pub maps_long : (js : List J) → length (map Some js) ≡ length js
  maps_long [] = refl
  maps_long (x ∷ xs) = omega (arith, maps_long xs)

  -- the slots of jobs
  pub in_slots : (js : List J) → EachAs meets js → (t : ℕ) → t < length (map Some js) → (b : J) × (get_elem? (map Some js) t ≡ some (Some b)) × meets b t
  in_slots js so t near = let l = maps_long js in let x = so t (omega arith) in (x.0, at_map Some js t x.0 x.1, x.2)

pub all_same : (z n i : ℕ) → get_or (replicate n z) i z ≡ z
all_same z zero i = refl
all_same z (suc n) zero = refl
all_same z (suc n) (suc i) = all_same z n i

set_false : (f : List Bool) (i : ℕ) → get_or (set f i false) i false ≡ false
set_false [] i = refl
set_false (x ∷ f) zero = refl
set_false (x ∷ f) (suc i) = set_false f i

-- the slots from the next on are full, and those before it empty
pub full_on : (f g : List Bool) (i n m : ℕ) → g ≡ set f i false → m ≡ n → ((k : ℕ) → i ≤ k → k < n → get_or f k false ≡ true) → (k : ℕ) → i + 1 ≤ k → k < m → get_or g k false ≡ true
full_on f g i n m e l so k le near = ap (λ (z : List Bool). get_or z k false) e ∙ get_or-set_other f i k false false (λ x. omega arith) ∙ so k (omega arith) (omega arith)

pub empty_to : (f g : List Bool) (i : ℕ) → g ≡ set f i false → ((k : ℕ) → k < i → get_or f k false ≡ false) → (k : ℕ) → k < i + 1 → get_or g k false ≡ false
empty_to f g i e so k near = ap (λ (z : List Bool). get_or z k false) e ∙ dite (ℕ_discrete k i) (λ x. ap (λ (z : ℕ). get_or (set f i false) z false) x ∙ set_false f i) (λ ne. get_or-set_other f i k false false ne ∙ so k (omega arith))
