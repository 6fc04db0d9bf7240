-- The pairs of a span, of a list in ascending order that is read from its front on.
use Rattle.std.specs.Prelude.{◌≡◌, ℕ, zero, suc, ◌+◌, ◌<◌, ◌≤◌, Bool, true, false, not, cond, nat_lt, nat_le, List, [], ◌∷◌, ◌++◌, length, take, filter, get_or, refl}
use Rattle.std.proofs.Common.{arith, ap, sym, ◌∙◌}
use Rattle.std.proofs.lemmas.Bool.{lt-ltb, le-ltb, lt-leb, le-leb}
use Rattle.std.proofs.lemmas.List.{take_more, length-take}
use Rattle.std.proofs.lemmas.List.Elements.{filter-append}
use Rattle.std.proofs.lemmas.List.Filters.{length-filter_both}
use Rattle.ks_keysets.specs.declared.Pair.{Pair}
use Rattle.ks_node.specs.Body.{pairs_below, pairs_from}
use Rattle.ks_node.specs.Effect.{pairs_within}
use Rattle.ks_node.specs.Laws.Cuts.{filter_front}

-- what fails the second test is left out, whatever the first says
left_out : (p : Pair → Bool) (x : Pair) (xs : List Pair) (b : Bool) → p x ≡ false → filter p xs ≡ [] → filter p (cond b (x ∷ xs) xs) ≡ []
left_out p x xs true fails none = rw fails none
left_out p x xs false fails none = none

-- of the pairs at the front that lie below the span there is none in it
pub none_below : (low last n : ℕ) (xs : List Pair) → ((k : ℕ) (d : Pair) → k < n → k < length xs → (get_or xs k d).place < low) → pairs_within low last (take n xs) ≡ []
none_below low last zero xs below = refl
none_below low last (suc n) [] below = refl
none_below low last (suc n) (x ∷ xs) below =
    left_out (λ y. nat_le low y.place) x (pairs_below (suc last) (take n xs)) (nat_lt x.place (suc last)) (lt-leb _ _ (below 0 x (omega arith) (omega arith)))
    (none_below low last n xs (λ k d h l. below (suc k) d (omega arith) (omega arith)))

within_append : (low last : ℕ) (xs ys : List Pair) → pairs_within low last (xs ++ ys) ≡ pairs_within low last xs ++ pairs_within low last ys
within_append low last xs ys =
    ap (pairs_from low) (filter-append (λ x. nat_lt x.place (suc last)) xs ys)
    ∙ filter-append (λ x. nat_le low x.place) (pairs_below (suc last) xs) (pairs_below (suc last) ys)

kept : (p q : Pair → Bool) (x : Pair) → p x ≡ true → q x ≡ true → filter q (filter p (x ∷ [])) ≡ x ∷ []
kept p q x first second = rw first (rw second refl)

-- a pair more, which is in the span
pub one_more : (low last : ℕ) (xs : List Pair) (i : ℕ) (x : Pair) → i < length xs → x ≡ get_or xs i x → low ≤ (get_or xs i x).place → x.place ≤ last → pairs_within low last (take (i + 1) xs) ≡ pairs_within low last (take i xs) ++ x ∷ []
one_more low last xs i x l at above upto =
    let same : x.place ≡ (get_or xs i x).place = ap (λ y. y.place) at in
    ap (pairs_within low last) (take_more xs i x l ∙ ap (λ y. take i xs ++ y ∷ []) (sym at))
    ∙ within_append low last (take i xs) (x ∷ [])
    ∙ ap (λ ys. pairs_within low last (take i xs) ++ ys) (kept (λ y. nat_lt y.place (suc last)) (λ y. nat_le low y.place) x (lt-ltb _ _ (omega arith)) (le-leb _ _ (omega arith)))

below_front : (cut n : ℕ) (xs : List Pair) → ((k : ℕ) (d : Pair) → n ≤ k → k < length xs → cut ≤ (get_or xs k d).place) → pairs_below cut (take n xs) ≡ pairs_below cut xs
below_front cut zero xs above = sym (filter_front (λ x. nat_lt x.place cut) xs 0 (λ k d h l. absurd (omega arith)) (λ k d h l. le-ltb _ _ (above k d h l)))
below_front cut (suc n) [] above = refl
below_front cut (suc n) (x ∷ xs) above = ap (λ ys. cond (nat_lt x.place cut) (x ∷ ys) ys) (below_front cut n xs (λ k d h l. above (suc k) d (omega arith) (omega arith)))

-- where all from position n on lie above the span
pub all_before : (low last n : ℕ) (xs : List Pair) → ((k : ℕ) (d : Pair) → n ≤ k → k < length xs → suc last ≤ (get_or xs k d).place) → pairs_within low last (take n xs) ≡ pairs_within low last xs
all_before low last n xs above = ap (pairs_from low) (below_front (suc last) n xs above)

-- they are no more than the list is long
pub within_few : (low last n : ℕ) (xs : List Pair) → n ≤ length xs → length (pairs_within low last (take n xs)) ≤ n
within_few low last n xs l =
    let below : List Pair = pairs_below (suc last) (take n xs) in
    let first = length-filter_both (λ x. nat_lt x.place (suc last)) (λ x. not (nat_lt x.place (suc last))) (λ x. refl) (take n xs) in
    let second = length-filter_both (λ x. nat_le low x.place) (λ x. not (nat_le low x.place)) (λ x. refl) below in
    omega (arith, length-take n xs)
