-- Lists of pairs that are what a map has from one place to another.
use Rattle.std.proofs.Common.{ℕ, suc, ◌≡◌, ◌<◌, ◌≤◌, ◌+◌, ◌==◌, Bool, true, List, [], ◌∷◌, length, get_or, drop, length-drop, map, Some, None, refl, sym, ◌∙◌, ap, subst, arith, ⊎_elim, add-one, drop-cons}
use Rattle.std.specs.Prelude.{◌↔◌, All, AllPairs}
use Rattle.std.specs.Ordering.{nat_cmp}
use Rattle.std.specs.List.Sorted.{IsStrictlySortedBy}
use Rattle.std.specs.Map.{keys_of, lookup}
use Rattle.std.specs.BTreeMap.{BTreeMap, IsOrdered, get, is_at}
use Rattle.std.specs.BTreeMap.Range.{entries_between, range_contains}
use Rattle.std.specs.declared.ops.Bound.TheVariants.{Included}
use Rattle.std.proofs.lemmas.Bool.{cases_order}
use Rattle.std.proofs.lemmas.Bool.Decides.{nat_tests}
use Rattle.std.proofs.lemmas.List.{get_or-map, length-map}
use Rattle.std.proofs.lemmas.List.Elements.{All-nil, All-cons, All-head, All-tail, All-map, All-weaker, filter_passes}
use Rattle.std.proofs.lemmas.List.Kept.{AllPairs-filter}
use Rattle.std.proofs.lemmas.Map.Keys.{below_from_sorted}
use Rattle.std.proofs.lemmas.Map.Entries.{length-keys_of, lookup-filter-keys}
use Rattle.std.proofs.Math.ListN.{drop_of_length-le}
use Rattle.ks_keysets.specs.declared.Pair.{Pair}
use Rattle.ks_keysets.specs.Record.{first_value}
use Rattle.ks_history.specs.Write.{Map}
use Rattle.ks_history.specs.Map.{ListsSpan}

-- a place is below another's
abbrev pub IsBelow : Pair → Pair → Type 0
IsBelow x y = x.place < y.place

abbrev pub IsBetween : ℕ → ℕ → Pair → Type 0
IsBetween low last x = (low ≤ x.place) × (x.place ≤ last)

-- an entry of a map as a pair
abbrev pub pair_of : ℕ × ℕ → Pair
pair_of e = record { place = e.0; value = e.1 }

abbrev pub pairs_of : List (ℕ × ℕ) → List Pair
pairs_of es = map pair_of es

-- the entries of a map from low to last
abbrev pub span_of : ℕ → ℕ → List (ℕ × ℕ) → List (ℕ × ℕ)
span_of low last es = entries_between nat_cmp (Included low) (Included last) es

-- ---- lists in order that have the same values are the same
pub ascend-head : (x : Pair) (xs : List Pair) → AllPairs IsBelow (x ∷ xs) → All (IsBelow x) xs
ascend-head x xs up k d lt = up 0 (suc k) d (omega arith) (omega arith)

pub ascend-tail : (x : Pair) (xs : List Pair) → AllPairs IsBelow (x ∷ xs) → AllPairs IsBelow xs
ascend-tail x xs up i j d lt in' = up (suc i) (suc j) d (omega arith) (omega arith)

pub within-tail : (low last : ℕ) (x : Pair) (xs : List Pair) → AllPairs IsBelow (x ∷ xs) → All (IsBetween low last) (x ∷ xs) → All (IsBetween (suc x.place) last) xs
within-tail low last x xs up within k d lt =
    let above : x.place < (get_or xs k d).place = ascend-head x xs up k d lt in
    let in' : IsBetween low last (get_or xs k d) = All-tail (IsBetween low last) x xs within k d lt in
    (omega arith, in'.1)

-- a place below all others has no value
pub first_value-below : (p : ℕ) (xs : List Pair) → All (λ x. p < x.place) xs → first_value xs p ≡ None
first_value-below p [] above = refl
first_value-below p (x ∷ xs) above =
    let here : p < x.place = All-head (λ y. p < y.place) x xs above in
    let rest : first_value xs p ≡ None = first_value-below p xs (All-tail (λ y. p < y.place) x xs above) in
    grind (arith, nat_tests)

pub first_value-head : (x : Pair) (xs : List Pair) → first_value (x ∷ xs) x.place ≡ Some x.value
first_value-head x xs = grind (arith, nat_tests)

pub first_value-tail : (x : Pair) (xs : List Pair) (p : ℕ) → x.place < p → first_value (x ∷ xs) p ≡ first_value xs p
first_value-tail x xs p lt = grind (arith, nat_tests)

-- a place below the head of a list in order has no value
pub first_value-before : (p : ℕ) (x : Pair) (xs : List Pair) → AllPairs IsBelow (x ∷ xs) → p < x.place → first_value (x ∷ xs) p ≡ None
first_value-before p x xs up lt = first_value-below p (x ∷ xs)
    (All-cons (λ y. p < y.place) x xs lt (All-weaker (IsBelow x) (λ y. p < y.place) (λ y h. omega arith) xs (ascend-head x xs up)))

-- two lists in order, between low and last, with the same value at each place there
pub record AreAlike (low last : ℕ) (xs ys : List Pair) : Type 0 where
  pub ascend : AllPairs IsBelow xs
  pub within : All (IsBetween low last) xs
  pub ascend_other : AllPairs IsBelow ys
  pub within_other : All (IsBetween low last) ys
  pub same : (p : ℕ) → low ≤ p → p ≤ last → first_value xs p ≡ first_value ys p

-- their heads are at the same place
pub alike_place : (low last : ℕ) (x : Pair) (xs : List Pair) (y : Pair) (ys : List Pair) → AreAlike low last (x ∷ xs) (y ∷ ys) → x.place ≡ y.place
alike_place low last x xs y ys h = ⊎_elim (λ e. e) (⊎_elim above below) (cases_order x.place y.place)
  where
    above : x.place < y.place → x.place ≡ y.place
    above lt =
        let in' : IsBetween low last x = All-head (IsBetween low last) x xs h.within in
        let a : first_value (x ∷ xs) x.place ≡ Some x.value = first_value-head x xs in
        let b : first_value (y ∷ ys) x.place ≡ None = first_value-before x.place y ys h.ascend_other lt in
        let c : first_value (x ∷ xs) x.place ≡ first_value (y ∷ ys) x.place = h.same x.place in'.0 in'.1 in
        absurd (cc)

    below : y.place < x.place → x.place ≡ y.place
    below lt =
        let in' : IsBetween low last y = All-head (IsBetween low last) y ys h.within_other in
        let a : first_value (y ∷ ys) y.place ≡ Some y.value = first_value-head y ys in
        let b : first_value (x ∷ xs) y.place ≡ None = first_value-before y.place x xs h.ascend lt in
        let c : first_value (x ∷ xs) y.place ≡ first_value (y ∷ ys) y.place = h.same y.place in'.0 in'.1 in
        absurd (cc)

-- and have the same value
pub alike_value : (low last : ℕ) (x : Pair) (xs : List Pair) (y : Pair) (ys : List Pair) → AreAlike low last (x ∷ xs) (y ∷ ys) → x.place ≡ y.place → x.value ≡ y.value
alike_value low last x xs y ys h e =
    let in' : IsBetween low last x = All-head (IsBetween low last) x xs h.within in
    let a : first_value (x ∷ xs) x.place ≡ Some x.value = first_value-head x xs in
    let b : first_value (y ∷ ys) x.place ≡ Some y.value = subst (λ p. first_value (y ∷ ys) p ≡ Some y.value) (sym e) (first_value-head y ys) in
    let c : first_value (x ∷ xs) x.place ≡ first_value (y ∷ ys) x.place = h.same x.place in'.0 in'.1 in
    cc

-- and their tails are alike past it
pub alike_tail : (low last : ℕ) (x : Pair) (xs : List Pair) (y : Pair) (ys : List Pair) → AreAlike low last (x ∷ xs) (y ∷ ys) → x.place ≡ y.place → AreAlike (suc x.place) last xs ys
alike_tail low last x xs y ys h e = record {
  ascend = ascend-tail x xs h.ascend;
  within = within-tail low last x xs h.ascend h.within;
  ascend_other = ascend-tail y ys h.ascend_other;
  within_other = subst (λ p. All (IsBetween (suc p) last) ys) (sym e) (within-tail low last y ys h.ascend_other h.within_other);
  same = λ p l k. sym (first_value-tail x xs p (omega arith)) ∙ h.same p (above p l) k ∙ first_value-tail y ys p (omega arith);
}
  where
    above : (p : ℕ) → suc x.place ≤ p → low ≤ p
    above p l =
        let in' : IsBetween low last x = All-head (IsBetween low last) x xs h.within in
        omega arith

pub same_from_alike : (low last : ℕ) (xs ys : List Pair) → AreAlike low last xs ys → xs ≡ ys
same_from_alike low last [] [] h = refl
same_from_alike low last [] (y ∷ ys) h =
    let in' : IsBetween low last y = All-head (IsBetween low last) y ys h.within_other in
    let at : None ≡ first_value (y ∷ ys) y.place = h.same y.place in'.0 in'.1 in
    let is : first_value (y ∷ ys) y.place ≡ Some y.value = first_value-head y ys in
    absurd (cc)
same_from_alike low last (x ∷ xs) [] h =
    let in' : IsBetween low last x = All-head (IsBetween low last) x xs h.within in
    let at : first_value (x ∷ xs) x.place ≡ None = h.same x.place in'.0 in'.1 in
    let is : first_value (x ∷ xs) x.place ≡ Some x.value = first_value-head x xs in
    absurd (cc)
same_from_alike low last (x ∷ xs) (y ∷ ys) h =
    let place : x.place ≡ y.place = alike_place low last x xs y ys h in
    let value : x.value ≡ y.value = alike_value low last x xs y ys h place in
    let rest : xs ≡ ys = same_from_alike (suc x.place) last xs ys (alike_tail low last x xs y ys h place) in
    let head : x ≡ y = ap (λ p. record { place = p; value = x.value }) place ∙ ap (λ v. record { place = y.place; value = v }) value in
    cc

-- ---- the entries of a map from low to last
pub entries_ascend : (es : List (ℕ × ℕ)) → IsStrictlySortedBy nat_cmp (keys_of es) → AllPairs (λ d e. d.0 < e.0) es
entries_ascend es ordered i j d lt in' =
    let fits : j < length (keys_of es) = omega (arith, length-keys_of es) in
    let low : i < length es = omega arith in
    let a : get_or (keys_of es) i d.0 ≡ (get_or es i d).0 = get_or-map (λ e. e.0) es i d d.0 low in
    let b : get_or (keys_of es) j d.0 ≡ (get_or es j d).0 = get_or-map (λ e. e.0) es j d d.0 in' in
    let less : get_or (keys_of es) i d.0 < get_or (keys_of es) j d.0 = below_from_sorted (keys_of es) i j d.0 ordered lt fits in
    omega (arith, a, b, less)

pub length-pairs_of : (es : List (ℕ × ℕ)) → length (pairs_of es) ≡ length es
length-pairs_of es = length-map es pair_of

pub pairs_ascend : (es : List (ℕ × ℕ)) → AllPairs (λ d e. d.0 < e.0) es → AllPairs IsBelow (pairs_of es)
pairs_ascend es up i j d lt in' =
    let fits : j < length es = omega (arith, length-pairs_of es) in
    let low : i < length es = omega arith in
    let z : ℕ × ℕ = (d.place, d.value) in
    let a : get_or (pairs_of es) i d ≡ pair_of (get_or es i z) = get_or-map pair_of es i z d low in
    let b : get_or (pairs_of es) j d ≡ pair_of (get_or es j z) = get_or-map pair_of es j z d fits in
    rw (a, b) (up i j z lt fits)

-- a test of the bounds passes just between them
pub range_contains-between : (low last q : ℕ) → low ≤ q → q ≤ last → range_contains nat_cmp (Included low) (Included last) q ≡ true
range_contains-between low last q l k = grind (arith, nat_tests)

pub between-range_contains : (low last q : ℕ) → range_contains nat_cmp (Included low) (Included last) q ≡ true → (low ≤ q) × (q ≤ last)
between-range_contains low last q is = (grind (arith, nat_tests), grind (arith, nat_tests))

pub is_at-same : (p q : ℕ) → is_at (nat_cmp p) q ≡ (q == p)
is_at-same p q = grind (arith, nat_tests)

pub first_value-pairs_of : (es : List (ℕ × ℕ)) (p : ℕ) → first_value (pairs_of es) p ≡ lookup (is_at (nat_cmp p)) es
first_value-pairs_of [] p = refl
first_value-pairs_of (e ∷ es) p = grind (arith, nat_tests, first_value-pairs_of es p)

-- the entries of a map from low to last list the span
pub lists_entries : (m : BTreeMap ℕ ℕ) (low last : ℕ) → IsOrdered nat_cmp m → ListsSpan (get nat_cmp m) low last (pairs_of (span_of low last m.entries))
lists_entries m low last ordered =
    let passes : ℕ → Bool = range_contains nat_cmp (Included low) (Included last) in
    record {
      ascend = pairs_ascend (span_of low last m.entries) (AllPairs-filter (λ d e. d.0 < e.0) (λ e. passes e.0) m.entries (entries_ascend m.entries ordered));
      within = All-map (IsBetween low last) pair_of (span_of low last m.entries)
          (All-weaker (λ e. passes e.0 ≡ true) (λ e. (low ≤ e.0) × (e.0 ≤ last)) (λ e is. between-range_contains low last e.0 is) (span_of low last m.entries) (filter_passes (λ e. passes e.0) m.entries));
      exact = λ p l k. first_value-pairs_of (span_of low last m.entries) p ∙ lookup-filter-keys (is_at (nat_cmp p)) passes true (λ q is. at_place p q l k is) m.entries;
    }
  where
    at_place : (p q : ℕ) → low ≤ p → p ≤ last → is_at (nat_cmp p) q ≡ true → range_contains nat_cmp (Included low) (Included last) q ≡ true
    at_place p q l k is =
        let e : q ≡ p = grind (arith, nat_tests, is_at-same p q) in
        range_contains-between low last q (omega arith) (omega arith)

-- and no other list does
pub lists_span_iff : (m : BTreeMap ℕ ℕ) (low last : ℕ) (xs : List Pair) → IsOrdered nat_cmp m → ListsSpan (get nat_cmp m) low last xs ↔ (xs ≡ pairs_of (span_of low last m.entries))
lists_span_iff m low last xs ordered =
    let here = lists_entries m low last ordered in (
      (λ h. same_from_alike low last xs (pairs_of (span_of low last m.entries)) (record {
        ascend = h.ascend;
        within = h.within;
        ascend_other = here.ascend;
        within_other = here.within;
        same = λ p l k. h.exact p l k ∙ sym (here.exact p l k);
      })),
      (λ e. subst (ListsSpan (get nat_cmp m) low last) (sym e) here),
    )

-- where low is above last, only the empty list does
pub lists_none_iff : (m : Map) (low last : ℕ) (xs : List Pair) → last < low → (length xs ≡ 0) ↔ ListsSpan m low last xs
lists_none_iff m low last xs lt = (there xs, back xs)
  where
    there : (xs : List Pair) → length xs ≡ 0 → ListsSpan m low last xs
    there [] e = record {
      ascend = λ i j d less in'. absurd (omega arith);
      within = All-nil (IsBetween low last);
      exact = λ p l k. absurd (omega arith);
    }
    there (x ∷ xs) e = absurd (omega arith)

    back : (xs : List Pair) → ListsSpan m low last xs → length xs ≡ 0
    back [] h = refl
    back (x ∷ xs) h =
        let in' : IsBetween low last x = All-head (IsBetween low last) x xs h.within in
        absurd (omega arith)

-- ---- the loop: S is that the pairs left are the entries left
pub span_more : {S : Type 0} (xs : List Pair) (at : ℕ) (d : Pair) (e : ℕ × ℕ) (es : List (ℕ × ℕ)) → at < length xs → get_or xs at d ≡ pair_of e → S ↔ (drop at xs ≡ pairs_of (e ∷ es)) → S ↔ (drop (at + 1) xs ≡ pairs_of es)
span_more xs at d e es lt is h =
    let c : drop at xs ≡ get_or xs at d ∷ drop (suc at) xs = drop-cons xs at d lt in
    let n : at + 1 ≡ suc at = add-one at in
    ((λ s. let a = h.0 s in cc), (λ r. h.1 (cc)))

pub span_all : {S : Type 0} (xs : List Pair) (at : ℕ) → at ≤ length xs → S ↔ (drop at xs ≡ pairs_of []) → (at ≡ length xs) ↔ S
span_all xs at le h = ((λ e. h.1 (drop_of_length-le xs (omega arith))), (λ s. all (h.0 s)))
  where
    all : drop at xs ≡ [] → at ≡ length xs
    all none =
        let l : length (drop at xs) ≡ 0 = ap length none in
        omega (arith, length-drop at xs)
