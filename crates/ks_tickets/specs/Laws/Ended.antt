-- That all desks have ended once each has: for a worker that uses all of them at once.
use Rattle.std.proofs.Common.{zero, suc, ◌≡◌, ℕ, ◌<◌, List, [], ◌∷◌, length, get_or, sym, refl, ◌∙◌, subst, arith}
use Rattle.std.specs.Prelude.{All}
use mathlib.Core.Option.{some, some-injective, some-ne-none}
use lib.ListN.{get_elem?}
use Rattle.atomic_table.specs.Seated.{TableId}
use Rattle.ks_tickets.specs.declared.desk.Desk.{Desk}
use Rattle.ks_tickets.specs.Rule.{total}
use Rattle.ks_tickets.specs.Clauses.{parts_of, IsSameDesk, IsFreeAt, HasEndedAt, AreFreeAt, HaveEndedAt}

module _ {J : Type 0} where
  inside : (l : List (Desk J)) (i : ℕ) (a : Desk J) → get_elem? l i ≡ some a → i < length l
  inside [] i a e = absurd (some-ne-none a (sym e))
  inside (x ∷ xs) zero a e = omega arith
  inside (x ∷ xs) (suc i) a e = let p = inside xs i a e in omega arith

  index_is : (l : List (Desk J)) (i : ℕ) (a d : Desk J) → get_elem? l i ≡ some a → get_or l i d ≡ a
  index_is [] i a d e = absurd (some-ne-none a (sym e))
  index_is (x ∷ xs) zero a d e = some-injective x a e
  index_is (x ∷ xs) (suc i) a d e = index_is xs i a d e

  total_same : (xs ys : List (Desk J)) → length ys ≡ length xs → ((i : ℕ) (d : Desk J) → i < length xs → parts_of (get_or ys i d) ≡ parts_of (get_or xs i d)) → total parts_of ys ≡ total parts_of xs
  total_same [] [] long so = refl
  total_same [] (y ∷ ys) long so = absurd (omega arith)
  total_same (x ∷ xs) [] long so = absurd (omega arith)
  total_same (x ∷ xs) (y ∷ ys) long so = let a : parts_of y ≡ parts_of x = so 0 x (omega arith) in let b = total_same xs ys (omega arith) (λ i d near. so (suc i) d (omega arith)) in omega arith

  at_or : (l : List (Desk J)) (i : ℕ) (d : Desk J) → i < length l → get_elem? l i ≡ some (get_or l i d)
  at_or [] i d lt = absurd (omega (arith, lt))
  at_or (x ∷ xs) zero d lt = refl
  at_or (x ∷ xs) (suc i) d lt = at_or xs i d (omega (arith, lt))

  -- each desk of a table is free
  pub all_free : (t : TableId) (xs : List (Desk J)) → AreFreeAt t xs → All (λ d. IsFreeAt t d) xs
  all_free t xs free i d lt = free.each i (get_or xs i d) (at_or xs i d lt)

  -- each desk of ys has ended, and is the one that it was in xs
  pub each_ended : (t : TableId) (xs ys : List (Desk J)) → length ys ≡ length xs → AreFreeAt t xs → ((i : ℕ) (d : Desk J) → i < length xs → HasEndedAt t (get_or ys i d))
      → ((i : ℕ) (d : Desk J) → i < length xs → IsSameDesk (get_or xs i d) (get_or ys i d)) → HaveEndedAt t ys
  each_ended t xs ys long free ended same = record {
    each = λ i d e. let near = inside ys i d e in subst (HasEndedAt t) (index_is ys i d d e) (ended i d (omega arith));
    all = total_same xs ys long (λ i d near. (same i d near).parts) ∙ free.all;
  }
