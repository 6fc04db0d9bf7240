-- The passes of a dictionary of one caller.
use Rattle.std.proofs.Common.{◌≡◌, ℕ, zero, suc, List, [], ◌∷◌, ◌++◌, length, ◌∙◌, sym, refl, ap, subst, arith}
use Rattle.std.proofs.lemmas.List.{length-append}
use mathlib.Core.Option.{some}
use lib.ListN.{get_elem?}
use Rattle.ks_arena.specs.declared.held.Pass.{Pass}
use Rattle.ks_shape.specs.Idle.{IsIdle, Site}
use Rattle.ks_dictionary.specs.Crew.{AreAll}

-- the one element of a list that a pop leaves empty
pub one_of : {X : Type 0} (ps one : List X) (a : X) → length ps ≡ 1 → ps ≡ one ++ a ∷ [] → get_elem? ps 0 ≡ some a
one_of ps [] a long last = ap (λ l. get_elem? l 0) last
one_of ps (x ∷ xs) a long last =
    let n : length ps ≡ length ((x ∷ xs) ++ a ∷ []) = ap length last in
    absurd (omega (arith, long, n, length-append (x ∷ xs) (a ∷ [])))

-- all passes, if there is one
module _ {N D : Type 0} (a : Site) (p : Pass N D) (idle : IsIdle a p) (callers : a.callers ≡ 1) (caller : p.caller ≡ 0) where
  each_one : (j : ℕ) (p' : Pass N D) → get_elem? (p ∷ []) j ≡ some p' → IsIdle a p'
  each_one zero p' is = let same : p ≡ p' = cc in subst (IsIdle a) same idle
  each_one (suc j) p' is = absurd (let q : ⊥ = cc in q)

  pub all_one : (ps : List (Pass N D)) → ps ≡ p ∷ [] → AreAll a ps
  all_one ps is = subst (AreAll a) (sym is) (record {
    each = each_one;
    all = λ c low. let zero_is : 0 ≡ c = omega (arith, low, callers) in (0, p, refl, caller ∙ zero_is);
  })
