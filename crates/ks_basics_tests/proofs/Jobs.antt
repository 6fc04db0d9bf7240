-- A job more in a list of jobs, and the one desk of a table.
use Rattle.std.proofs.Common.{zero, suc, ◌≡◌, ℕ, ◌+◌, List, [], ◌∷◌, ◌++◌, length, length-append, get_or, set, sym, ap, subst, arith}
use mathlib.Core.Option.{some, some-injective, some-ne-none}
use mathlib.Core.Logic.{dite}
use native.Mathlib.Decide.{ℕ_discrete}
use lib.ListN.{get_elem?}
use Rattle.atomic_table.specs.Seated.{TableId}
use Rattle.atomic_table.proofs.Lists.{at_longer, at_last}
use Rattle.ks_tickets.specs.declared.desk.Desk.{Desk}
use Rattle.ks_tickets.specs.Clauses.{EachAs, parts_of, HasEndedAt, AreFreeAt, HaveEndedAt}

module _ {J : Type 0} where
  pub one_more : (meets : J → ℕ → Type 0) (js : List J) (j : J) → EachAs meets js → meets j (length js) → EachAs meets (js ++ j ∷ [])
  one_more meets js j so fin t near = dite (ℕ_discrete t (length js))
      (λ e. (j, at_last js j t (sym e), subst (meets j) (sym e) fin))
      (λ ne. let l : length (js ++ j ∷ []) ≡ length js + 1 = length-append js (j ∷ []) in let x = so t (omega arith) in (x.0, at_longer js (j ∷ []) t x.0 x.1, x.2))

  only : (P : Desk J → Type 0) (a : Desk J) → P a → (i : ℕ) (d : Desk J) → get_elem? (a ∷ []) i ≡ some d → P d
  only P a so zero d e = subst P (some-injective a d e) so
  only P a so (suc i) d e = absurd (some-ne-none d (sym e))

  -- the one desk of a table has ended, with the parts that it had
  pub one_ended : (t : TableId) (xs : List (Desk J)) (a b : Desk J) → AreFreeAt t xs → length xs ≡ 1 → b ≡ get_or xs 0 b → HasEndedAt t a → parts_of a ≡ parts_of b → HaveEndedAt t (set xs 0 a)
  one_ended t [] a b free one is ended parts = absurd (omega arith)
  one_ended t (x ∷ []) a b free one is ended parts = record {
    each = only (HasEndedAt t) a ended;
    all = let p = free.all in let q : parts_of b ≡ parts_of x = ap parts_of is in omega arith;
  }
  one_ended t (x ∷ y ∷ xs) a b free one is ended parts = absurd (omega arith)
