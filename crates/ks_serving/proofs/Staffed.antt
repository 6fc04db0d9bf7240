-- Workers and their desks.
use Rattle.std.proofs.Common.{◌≡◌, ℕ, zero, suc, ◌<◌, List, [], ◌∷◌, map, length, get_or, refl, sym, ap, ◌∙◌, arith}
use Rattle.std.proofs.lemmas.List.{length-map}
use Rattle.atomic_table.specs.Seated.{TableId}
use Rattle.ks_lines.specs.Lines.{AllBoth}
use Rattle.ks_tickets.specs.declared.desk.Desk.{Desk}
use Rattle.ks_tickets.specs.Clauses.{AreFreeAt, HasEndedAt, HaveEndedAt, IsSameDesk}
use Rattle.ks_tickets.specs.Laws.Ended.{each_ended}
use Rattle.ks_jobs.specs.declared.worker.Worker.{Worker}

-- what holds of each element of a list, seen through f, holds of each of what f makes of it
each_mapped : {X Y : Type 0} (f : X → Y) (P : Y → Type 0) (xs : List X) → ((i : ℕ) (d : X) → i < length xs → P (f (get_or xs i d)))
    → (i : ℕ) (d : Y) → i < length xs → P (get_or (map f xs) i d)
each_mapped f P [] so i d lt = absurd (omega (arith, lt))
each_mapped f P (x ∷ xs) so zero d lt = so 0 x (omega arith)
each_mapped f P (x ∷ xs) so (suc i) d lt = each_mapped f P xs (λ j e near. so (suc j) e (omega (arith, near))) i d (omega (arith, lt))

both_mapped : {X Y : Type 0} (f : X → Y) (R : Y → Y → Type 0) (xs ys : List X) → length ys ≡ length xs
    → ((i : ℕ) (d : X) → i < length xs → R (f (get_or xs i d)) (f (get_or ys i d)))
    → (i : ℕ) (d : Y) → i < length xs → R (get_or (map f xs) i d) (get_or (map f ys) i d)
both_mapped f R [] ys long so i d lt = absurd (omega (arith, lt))
both_mapped f R (x ∷ xs) [] long so i d lt = absurd (omega (arith, long))
both_mapped f R (x ∷ xs) (y ∷ ys) long so zero d lt = so 0 x (omega arith)
both_mapped f R (x ∷ xs) (y ∷ ys) long so (suc i) d lt =
    both_mapped f R xs ys (omega (arith, long)) (λ j e near. so (suc j) e (omega (arith, near))) i d (omega (arith, lt))

-- two lists of which each element is of that in the same place of the other
both_long : {X Y : Type 0} (Of : X → Y → Type 0) (xs : List X) (ys : List Y) → AllBoth Of xs ys → length ys ≡ length xs
both_long Of [] [] all = refl
both_long Of [] (y ∷ ys) all = absurd all
both_long Of (x ∷ xs) [] all = absurd all
both_long Of (x ∷ xs) (y ∷ ys) all = ap suc (both_long Of xs ys all.1)

both_each : {X Y : Type 0} (Of : X → Y → Type 0) (xs : List X) (ys : List Y) → AllBoth Of xs ys → (i : ℕ) (d : X) (e : Y) → i < length xs → Of (get_or xs i d) (get_or ys i e)
both_each Of [] ys all i d e lt = absurd (omega (arith, lt))
both_each Of (x ∷ xs) [] all i d e lt = absurd all
both_each Of (x ∷ xs) (y ∷ ys) all zero d e lt = all.0
both_each Of (x ∷ xs) (y ∷ ys) all (suc i) d e lt = both_each Of xs ys all.1 i d e (omega (arith, lt))

module _ {J H : Type 0} where
  -- there is a worker at each desk
  pub staff_long : (ds : List (Desk J)) (ws : List (Worker J H)) → AllBoth IsSameDesk ds (map (λ w. w.desk) ws) → length ws ≡ length ds
  staff_long ds ws same = sym (length-map ws (λ w. w.desk)) ∙ both_long IsSameDesk ds (map (λ w. w.desk) ws) same

  -- the desks of workers that have all ended
  pub staff_ended : (t : TableId) (ds : List (Desk J)) (ws vs : List (Worker J H)) → AreFreeAt t ds → AllBoth IsSameDesk ds (map (λ w. w.desk) ws) → length vs ≡ length ws
      → ((i : ℕ) (d : Worker J H) → i < length ws → HasEndedAt t (get_or vs i d).desk)
      → ((i : ℕ) (d : Worker J H) → i < length ws → IsSameDesk (get_or ws i d).desk (get_or vs i d).desk) → HaveEndedAt t (map (λ w. w.desk) vs)
  staff_ended t ds ws vs free drawn count ended same =
      let long = staff_long ds ws drawn in
      let new = length-map vs (λ w. w.desk) in
      each_ended t ds (map (λ w. w.desk) vs) (new ∙ count ∙ long) free
      (λ i d lt. each_mapped (λ w. w.desk) (HasEndedAt t) vs (λ j e near. ended j e (omega (arith, near, count))) i d (omega (arith, lt, long, count)))
      (λ i d lt.
      let first = both_each IsSameDesk ds (map (λ w. w.desk) ws) drawn i d d lt in
      let then = both_mapped (λ w. w.desk) IsSameDesk ws vs count same i d (omega (arith, lt, long)) in
      record { numbers = then.numbers ∙ first.numbers; parts = then.parts ∙ first.parts })
