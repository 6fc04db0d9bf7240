-- What a change of places and one of values make of the pairs.
use Rattle.std.specs.Prelude.{◌≡◌, ℕ, zero, suc, ◌<◌, ◌≤◌, Bool, true, false, nat_eq, List, [], ◌∷◌, ◌++◌, length, take, drop, get_or, find, Some, None, Result, Ok, Err, IsOk, OnOk, refl}
use Rattle.std.specs.List.{insert, remove, refill}
use Rattle.std.specs.Option.{option_map}
use Rattle.std.proofs.Common.{arith, ap, sym, subst, ◌∙◌, set}
use Rattle.std.proofs.Math.Seq.{take-append_seam}
use Rattle.std.proofs.lemmas.List.{set_split, get_or_default}
use Rattle.std.proofs.lemmas.Bool.{eqb-true}
use Rattle.ks_keysets.specs.declared.Pair.{Pair}
use Rattle.ks_node.specs.Keyed.{Ascends, IsRank, IsFound, IsMissing}
use Rattle.ks_node.specs.Body.{value_at, pairs_below, pairs_from}
use Rattle.ks_node.specs.Effect.{pairs_put, pairs_del}
use Rattle.ks_node.specs.Laws.Cuts.{found, missing, below_is_take, from_is_drop}
use Rattle.ks_keysets.specs.Paired.{paired}

pub length-paired : (ps vs : List ℕ) → length ps ≡ length vs → length (paired ps vs) ≡ length ps
length-paired [] vs e = refl
length-paired (p ∷ ps) [] e = absurd (omega arith)
length-paired (p ∷ ps) (v ∷ vs) e = ap suc (length-paired ps vs (omega arith))

pub get-paired : (ps vs : List ℕ) (i p v : ℕ) (d : Pair) → length ps ≡ length vs → i < length ps → get_or (paired ps vs) i d ≡ record { place = get_or ps i p; value = get_or vs i v }
get-paired [] vs i p v d e h = absurd (omega arith)
get-paired (q ∷ ps) [] i p v d e h = absurd (omega arith)
get-paired (q ∷ ps) (w ∷ vs) zero p v d e h = refl
get-paired (q ∷ ps) (w ∷ vs) (suc i) p v d e h = get-paired ps vs i p v d (omega arith) (omega arith)

pub take-paired : (i : ℕ) (ps vs : List ℕ) → paired (take i ps) (take i vs) ≡ take i (paired ps vs)
take-paired zero ps vs = refl
take-paired (suc i) [] vs = refl
take-paired (suc i) (p ∷ ps) [] = refl
take-paired (suc i) (p ∷ ps) (v ∷ vs) = ap (λ l. record { place = p; value = v } ∷ l) (take-paired i ps vs)

pub drop-paired : (i : ℕ) (ps vs : List ℕ) → length ps ≡ length vs → paired (drop i ps) (drop i vs) ≡ drop i (paired ps vs)
drop-paired zero ps vs e = refl
drop-paired (suc i) [] vs e = refl
drop-paired (suc i) (p ∷ ps) [] e = absurd (omega arith)
drop-paired (suc i) (p ∷ ps) (v ∷ vs) e = drop-paired i ps vs (omega arith)

pub append-paired : (ps vs qs ws : List ℕ) → length ps ≡ length vs → paired (ps ++ qs) (vs ++ ws) ≡ paired ps vs ++ paired qs ws
append-paired [] [] qs ws e = refl
append-paired [] (v ∷ vs) qs ws e = absurd (omega arith)
append-paired (p ∷ ps) [] qs ws e = absurd (omega arith)
append-paired (p ∷ ps) (v ∷ vs) qs ws e = ap (λ l. record { place = p; value = v } ∷ l) (append-paired ps vs qs ws (omega arith))

pub insert-paired : (ps vs : List ℕ) (i p v : ℕ) → length ps ≡ length vs → paired (insert ps i p) (insert vs i v) ≡ insert (paired ps vs) i (record { place = p; value = v })
insert-paired ps vs zero p v e = refl
insert-paired [] [] (suc i) p v e = refl
insert-paired [] (w ∷ vs) (suc i) p v e = absurd (omega arith)
insert-paired (q ∷ ps) [] (suc i) p v e = absurd (omega arith)
insert-paired (q ∷ ps) (w ∷ vs) (suc i) p v e = ap (λ l. record { place = q; value = w } ∷ l) (insert-paired ps vs i p v (omega arith))

pub remove-paired : (ps vs : List ℕ) (i : ℕ) → length ps ≡ length vs → paired (remove ps i) (remove vs i) ≡ remove (paired ps vs) i
remove-paired [] [] zero e = refl
remove-paired [] [] (suc i) e = refl
remove-paired [] (w ∷ vs) i e = absurd (omega arith)
remove-paired (q ∷ ps) [] i e = absurd (omega arith)
remove-paired (q ∷ ps) (w ∷ vs) zero e = refl
remove-paired (q ∷ ps) (w ∷ vs) (suc i) e = ap (λ l. record { place = q; value = w } ∷ l) (remove-paired ps vs i (omega arith))

-- a value set in place
pub set-paired : (ps vs : List ℕ) (i p v : ℕ) → length ps ≡ length vs → i < length ps → get_or ps i p ≡ p → paired ps (set vs i v) ≡ set (paired ps vs) i (record { place = p; value = v })
set-paired [] vs i p v e h at = absurd (omega arith)
set-paired (q ∷ ps) [] i p v e h at = absurd (omega arith)
set-paired (q ∷ ps) (w ∷ vs) zero p v e h at = ap (λ n. record { place = n; value = v } ∷ paired ps vs) at
set-paired (q ∷ ps) (w ∷ vs) (suc i) p v e h at = ap (λ l. record { place = q; value = w } ∷ l) (set-paired ps vs i p v (omega arith) (omega arith) at)

no : false ≡ true → ⊥
no e = cc

-- what holds if a result is a success holds of one that is
pub on_ok : {T E : Type 0} (r : Result T E) (P : Type 0) → IsOk r → OnOk r P → P
on_ok (Ok x) P h p = p
on_ok (Err e) P h p = absurd (no h)

-- a list written over by one as long
pub refill_same : {X : Type 0} (n : ℕ) (xs ws : List X) → length ws ≡ n → refill n xs ws ≡ ws
refill_same n xs ws e = ap (λ m. take m (ws ++ drop (length ws) xs)) (sym e) ∙ take-append_seam ws (drop (length ws) xs)

-- what is found passes
find_passes : {X : Type 0} (p : X → Bool) (xs : List X) (x : X) → find p xs ≡ Some x → p x ≡ true
find_passes p [] x e = absurd cc
find_passes p (y ∷ ys) x e = by_head (p y) refl (find_passes p ys x)
  where
    by_head : (b : Bool) → p y ≡ b → (find p ys ≡ Some x → p x ≡ true) → p x ≡ true
    by_head true h later = let same : Some y ≡ Some x = rw h at e in let y_is : y ≡ x = cc in subst (λ z. p z ≡ true) y_is h
    by_head false h later = later (rw h at e)

pub missing_value : {place i : ℕ} {xs : List Pair} → IsMissing (λ x. x.place) place xs i → value_at xs place ≡ None
missing_value m = ap (option_map (λ x. x.value)) m.element

module _ (ps vs : List ℕ) {xs : List Pair} (same : length ps ≡ length vs) (is : paired ps vs ≡ xs) where
  pub places_length : length ps ≡ length xs
  places_length = sym (length-paired ps vs same) ∙ ap length is

  pub values_length : length vs ≡ length xs
  values_length = sym same ∙ places_length

  pub pair_is : (i p v : ℕ) (d : Pair) → i < length xs → p ≡ get_or ps i p → v ≡ get_or vs i v → record { place = p; value = v } ≡ get_or xs i d
  pair_is i p v d h at_p at_v =
      ap (λ n. record { place = n; value = v }) at_p ∙ ap (λ n. record { place = get_or ps i p; value = n }) at_v
      ∙ sym (get-paired ps vs i p v d same (omega (arith, places_length))) ∙ ap (λ l. get_or l i d) is

  place_is : (i : ℕ) (d : Pair) (p : ℕ) → i < length xs → (get_or xs i d).place ≡ get_or ps i p
  place_is i d p h = ap (λ l. (get_or l i d).place) (sym is) ∙ ap (λ x. x.place) (get-paired ps vs i p 0 d same (omega (arith, places_length)))

  pub places_ascend : Ascends (λ x. x.place) xs → Ascends (λ p. p) ps
  places_ascend up i j d h l =
      let none : Pair = record { place = 0; value = 0 } in
      let long = places_length in
      let low = place_is i none d (omega arith) in
      let high = place_is j none d (omega arith) in
      let rise = up i j none h (omega arith) in
      omega arith

  pub rank_is : (place i : ℕ) → IsRank (λ p. p) place ps i → IsRank (λ x. x.place) place xs i
  rank_is place i r =
      let long = places_length in
      record {
        within = omega (arith, r.within);
        before = λ k d h l. let at = place_is k d 0 l in let low = r.before k 0 h (omega arith) in omega arith;
        after = λ k d h l. let at = place_is k d 0 l in let high = r.after k 0 h (omega arith) in omega arith;
      }

  module _ {place i : ℕ} (up : Ascends (λ x. x.place) xs) (r : IsRank (λ x. x.place) place xs i) where
    pub found_here : (p : ℕ) → i < length ps → p ≡ get_or ps i p → p ≡ place → IsFound (λ x. x.place) place xs i
    found_here p h at e =
        let none : Pair = record { place = 0; value = 0 } in
        let long = places_length in
        let here : Pair = get_or xs i none in
        found (λ x. x.place) place xs i here up r (omega arith) (get_or_default xs i none here (omega arith)) (place_is i none p (omega arith) ∙ sym at ∙ e)

    pub missing_here : (p : ℕ) → p ≡ get_or ps i p → (p ≡ place → ⊥) → IsMissing (λ x. x.place) place xs i
    missing_here p at other = missing (λ x. x.place) place xs i up r (λ d l e. other (at ∙ sym (place_is i d p l) ∙ e))

    pub missing_past : length ps ≤ i → IsMissing (λ x. x.place) place xs i
    missing_past h = let long = places_length in missing (λ x. x.place) place xs i up r (λ d l e. absurd (omega arith))

  module _ {place i : ℕ} (f : IsFound (λ x. x.place) place xs i) where
    pub value_found : (v : ℕ) → v ≡ get_or vs i v → Some v ≡ value_at xs place
    value_found v at =
        let none : Pair = record { place = 0; value = 0 } in
        let there : (get_or xs i none).value ≡ get_or vs i v =
        ap (λ l. (get_or l i none).value) (sym is) ∙ ap (λ x. x.value) (get-paired ps vs i 0 v none same (omega (arith, places_length, f.within))) in
        ap (λ n. Some n) (at ∙ sym there) ∙ sym (ap (option_map (λ x. x.value)) (f.element none))

    at_place : (p : ℕ) → get_or ps i p ≡ place
    at_place p =
        let none : Pair = record { place = 0; value = 0 } in
        sym (place_is i none p f.within) ∙ eqb-true _ _ (find_passes (λ x. nat_eq x.place place) xs (get_or xs i none) (f.element none))

    pub put_found : (v : ℕ) → paired ps (set vs i v) ≡ pairs_put place v xs
    put_found v =
        set-paired ps vs i place v same (omega (arith, places_length, f.within)) (at_place place)
        ∙ ap (λ l. set l i (record { place = place; value = v })) is
        ∙ set_split xs i _ f.within
        ∙ rw (f.lower, f.higher) refl

    pub del_found : paired (remove ps i) (remove vs i) ≡ pairs_del place xs
    del_found = remove-paired ps vs i same ∙ ap (λ l. remove l i) is ∙ rw (f.lower, f.higher) refl

  pub put_missing : {place i : ℕ} → IsMissing (λ x. x.place) place xs i → (v : ℕ) → paired (insert ps i place) (insert vs i v) ≡ pairs_put place v xs
  put_missing {place} {i} m v = insert-paired ps vs i place v same ∙ ap (λ l. insert l i (record { place = place; value = v })) is ∙ rw (m.lower, m.higher) refl

  pub below_rank : {cut i : ℕ} → IsRank (λ x. x.place) cut xs i → paired (take i ps) (take i vs) ≡ pairs_below cut xs
  below_rank {cut} {i} r = take-paired i ps vs ∙ ap (take i) is ∙ sym (below_is_take (λ x. x.place) cut xs i r.before r.after)

  pub from_rank : {cut i : ℕ} → IsRank (λ x. x.place) cut xs i → paired (drop i ps) (drop i vs) ≡ pairs_from cut xs
  from_rank {cut} {i} r = drop-paired i ps vs same ∙ ap (drop i) is ∙ sym (from_is_drop (λ x. x.place) cut xs i r.before r.after)
