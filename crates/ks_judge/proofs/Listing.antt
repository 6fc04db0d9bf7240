-- Pairs that list a map, one pair after another.
use Rattle.std.proofs.Common.{ℕ, zero, suc, ◌≡◌, ◌==◌, ◌<◌, ◌≤◌, ◌+◌, ◌⊎◌, inl, inr, Bool, true, false, cond, List, [], ◌∷◌, length, get_or, Option, Some, None, refl, sym, ◌∙◌, ap, subst, arith}
use Rattle.std.specs.Prelude.{All, AllPairs, Contains, nat_eq, nat_lt, ◌↔◌}
use Rattle.std.specs.Map.{lookup}
use Rattle.std.proofs.lemmas.List.{get_or_default, get_or_past}
use Rattle.std.proofs.lemmas.Bool.{false≢true}
use Rattle.ks_keysets.specs.Record.{IsPlace}
use Rattle.std.proofs.lemmas.Bool.Decides.{nat_tests}
use Rattle.ks_history.specs.Write.{Map}
use Rattle.ks_history.specs.Served.{IsListing}

-- each key is below all later ones
abbrev pub Ascends : List (ℕ × ℕ) → Type 0
Ascends xs = AllPairs (λ x y. x.0 < y.0) xs

ascends_tail : (x : ℕ × ℕ) (xs : List (ℕ × ℕ)) → Ascends (x ∷ xs) → Ascends xs
ascends_tail x xs h i j d lt lt' = h (suc i) (suc j) d (omega arith) (omega arith)

above_head : (x z : ℕ × ℕ) (xs : List (ℕ × ℕ)) → Ascends (x ∷ xs) → Contains xs z → x.0 < z.0
above_head x z xs up (k, lt, is) = subst (λ (y : ℕ × ℕ). x.0 < y.0) is (up 0 (suc k) z (omega arith) (omega arith))

ascends_more : (x : ℕ × ℕ) (xs : List (ℕ × ℕ)) → Ascends xs → ((z : ℕ × ℕ) → Contains xs z → x.0 < z.0) → Ascends (x ∷ xs)
ascends_more x xs up above zero zero d lt lt' = absurd (omega arith)
ascends_more x xs up above (suc i) zero d lt lt' = absurd (omega arith)
ascends_more x xs up above zero (suc j) d lt lt' = above (get_or xs j d) (j, omega arith, sym (get_or_default xs j d (get_or xs j d) (omega arith)))
ascends_more x xs up above (suc i) (suc j) d lt lt' = up i j d (omega arith) (omega arith)

later : (x z : ℕ × ℕ) (xs : List (ℕ × ℕ)) → Contains xs z → Contains (x ∷ xs) z
later x z xs (k, lt, is) = (suc k, omega arith, is)

first : (x : ℕ × ℕ) (xs : List (ℕ × ℕ)) → Contains (x ∷ xs) x
first x xs = (0, omega arith, refl)

cases_of : (x z : ℕ × ℕ) (xs : List (ℕ × ℕ)) → Contains (x ∷ xs) z → (x ≡ z) ⊎ Contains xs z
cases_of x z xs (zero, lt, is) = inl is
cases_of x z xs (suc k, lt, is) = inr (k, omega arith, is)

nothing : (z : ℕ × ℕ) → Contains [] z → ⊥
nothing z (k, lt, is) = omega arith

eq_same : (a q : ℕ) → a ≡ q → (a == q) ≡ true
eq_same a q e = grind (arith, nat_tests)

eq_apart : (a q : ℕ) → a < q → (a == q) ≡ false
eq_apart a q lt = grind (arith, nat_tests)

eq_true : (a q : ℕ) → (a == q) ≡ true → a ≡ q
eq_true a q e = grind (arith, nat_tests)

lt_true : (a b : ℕ) → nat_lt a b ≡ true → a < b
lt_true a b e = grind (arith, nat_tests)

lt_false : (a b : ℕ) → nat_lt a b ≡ false → b ≤ a
lt_false a b e = grind (arith, nat_tests)

same_value : (v w : ℕ) → Some v ≡ Some w → v ≡ w
same_value v w e = cc

none_some : (v : ℕ) → None ≡ Some v → ⊥
none_some v e = cc

-- a listing of a map is one of each map that has the same
pub listing_along : (m k : ℕ → Option ℕ) (xs : List (ℕ × ℕ)) → ((p : ℕ) → m p ≡ k p) → IsListing m xs → IsListing k xs
listing_along m k xs same listing = record {
  exact = λ p v. (λ is. (listing.exact p v).0 (is.0, same p ∙ is.1), λ in'. let is = (listing.exact p v).1 in' in (is.0, sym (same p) ∙ is.1));
  ascend = listing.ascend;
}

-- the pairs list the map, and no key is below `least`
pub record Lists (least : ℕ) (m : Map) (pairs : List (ℕ × ℕ)) : Type 0 where
  pub listing : IsListing m pairs
  pub above : (z : ℕ × ℕ) → Contains pairs z → least ≤ z.0

-- the map k is m with nothing at the key
abbrev pub Without : ℕ → Map → Map → Type 0
Without key m k = (q : ℕ) → k q ≡ cond (key == q) None (m q)

-- the first of the pairs, and those after it

pub lists_head : (least : ℕ) (m : Map) (x : ℕ × ℕ) (xs : List (ℕ × ℕ)) → Lists least m (x ∷ xs) → (least ≤ x.0) × (m x.0 ≡ Some x.1)
lists_head least m x xs l = (l.above x (first x xs), ((l.listing.exact x.0 x.1).1 (first x xs)).1)

pub lists_tail : (least : ℕ) (m k : Map) (x : ℕ × ℕ) (xs : List (ℕ × ℕ)) → Without x.0 m k → Lists least m (x ∷ xs) → Lists (x.0 + 1) k xs
lists_tail least m k x xs gone l = record {
  listing = record {
    exact = λ q v. (λ is. by_test q v is.0 (x.0 == q) refl (sym (gone q) ∙ is.1), λ c. back q v c);
    ascend = ascends_tail x xs l.listing.ascend;
  };
  above = λ z c. let lt = above_head x z xs l.listing.ascend c in omega arith;
}
  where
    other : (q v : ℕ) → (x.0 == q) ≡ false → (x ≡ (q, v)) ⊎ Contains xs (q, v) → Contains xs (q, v)
    other q v e (inl same) = absurd (false≢true (sym e ∙ eq_same x.0 q (ap (λ (z : ℕ × ℕ). z.0) same)))
    other q v e (inr c) = c

    by_test : (q v : ℕ) → IsPlace q → (b : Bool) → (x.0 == q) ≡ b → cond b None (m q) ≡ Some v → Contains xs (q, v)
    by_test q v place true e is = absurd (none_some v is)
    by_test q v place false e is = other q v e (cases_of x (q, v) xs ((l.listing.exact q v).0 (place, is)))

    back : (q v : ℕ) → Contains xs (q, v) → IsPlace q × (k q ≡ Some v)
    back q v c =
        let y = (l.listing.exact q v).1 (later x (q, v) xs c) in
        let lt : x.0 < q = above_head x (q, v) xs l.listing.ascend c in
        (y.0, gone q ∙ ap (λ (b : Bool). cond b None (m q)) (eq_apart x.0 q lt) ∙ y.1)

pub lists_more : (least : ℕ) (m k : Map) (x : ℕ × ℕ) (xs : List (ℕ × ℕ)) → Without x.0 m k → least ≤ x.0 → IsPlace x.0 → m x.0 ≡ Some x.1 → Lists (x.0 + 1) k xs → Lists least m (x ∷ xs)
lists_more least m k x xs gone le place has l = record {
  listing = record {
    exact = λ q v. (λ is. by_test q v is.0 is.1 (x.0 == q) refl, λ c. back q v (cases_of x (q, v) xs c));
    ascend = ascends_more x xs l.listing.ascend (λ z c. let le' = l.above z c in omega arith);
  };
  above = λ z c. from_least z (cases_of x z xs c);
}
  where
    by_test : (q v : ℕ) → IsPlace q → m q ≡ Some v → (b : Bool) → (x.0 == q) ≡ b → Contains (x ∷ xs) (q, v)
    by_test q v place' is true e =
        let key : x.0 ≡ q = eq_true x.0 q e in
        let value : x.1 ≡ v = same_value x.1 v (sym has ∙ ap m key ∙ is) in
        (0, omega arith, (ap (λ (a : ℕ). (a, x.1)) key ∙ ap (λ (a : ℕ). (q, a)) value))
    by_test q v place' is false e = later x (q, v) xs ((l.listing.exact q v).0 (place', (gone q ∙ ap (λ (b : Bool). cond b None (m q)) e) ∙ is))

    back : (q v : ℕ) → (x ≡ (q, v)) ⊎ Contains xs (q, v) → IsPlace q × (m q ≡ Some v)
    back q v (inl same) = subst (λ (z : ℕ × ℕ). IsPlace z.0 × (m z.0 ≡ Some z.1)) same (place, has)
    back q v (inr c) =
        let y = (l.listing.exact q v).1 c in
        let lt : x.0 < q = let le' = l.above (q, v) c in omega arith in
        (y.0, sym (gone q ∙ ap (λ (b : Bool). cond b None (m q)) (eq_apart x.0 q lt)) ∙ y.1)

    from_least : (z : ℕ × ℕ) → (x ≡ z) ⊎ Contains xs z → least ≤ z.0
    from_least z (inl same) = subst (λ (y : ℕ × ℕ). least ≤ y.0) same le
    from_least z (inr c) = let le' = l.above z c in omega arith

-- no pairs list the map that has nothing

pub lists_none : (m : Map) → ((q : ℕ) → m q ≡ None) → IsListing m []
lists_none m none = record { exact = λ q v. (λ is. absurd (none_some v (sym (none q) ∙ is.1)), λ c. absurd (nothing (q, v) c)); ascend = λ i j d lt lt'. absurd (omega arith) }

pub none_decided : (es : List (ℕ × ℕ)) (r : Bool) → All (λ e. IsPlace e.0) es → r ≡ (length es == 0) → (r ≡ true) ↔ IsListing (λ q. lookup (nat_eq q) es) []
none_decided [] r keys e = (λ is. lists_none (λ q. None) (λ q. refl), λ listing. e)
none_decided (x ∷ es) r keys e = (
  λ is. let none : length (x ∷ es) ≡ 0 = eq_true (length (x ∷ es)) 0 (sym e ∙ is) in absurd (omega (arith, none)),
  λ listing. absurd (nothing x ((listing.exact x.0 x.1).0 (keys 0 x (omega arith), ap (λ (b : Bool). cond b (Some x.1) (lookup (nat_eq x.0) es)) (eq_same x.0 x.0 refl)))),
)

-- a map that has a value at a key is not the one of no pairs
pub not_listed : (m : Map) (k v : ℕ) → IsPlace k → m k ≡ Some v → IsListing m [] → ⊥
not_listed m k v place is listing = nothing (k, v) ((listing.exact k v).0 (place, is))

-- the map f has at keys below the length of a list what is there, and at others what the map m has
module _ (low : List (Option ℕ)) (m f : Map) (is : (k : ℕ) → f k ≡ cond (nat_lt k (length low)) (get_or low k None) (m k)) where
  by_place : (k : ℕ) (b : Bool) → nat_lt k (length low) ≡ b → f k ≡ cond b (get_or low k None) (m k)
  by_place k b e = is k ∙ ap (λ (b : Bool). cond b (get_or low k None) (m k)) e

  -- where the list has nothing, it is the map m
  pub nothing_low : ((at : ℕ) → get_or low at None ≡ None) → ((k : ℕ) → k < length low → m k ≡ None) → (k : ℕ) → f k ≡ m k
  nothing_low none apart k = by_test (nat_lt k (length low)) refl
    where
      by_test : (b : Bool) → nat_lt k (length low) ≡ b → f k ≡ m k
      by_test true e = by_place k true e ∙ none k ∙ sym (apart k (lt_true k (length low) e))
      by_test false e = by_place k false e

  -- where it has no pairs, the list has nothing
  pub none_low : ((at : ℕ) → at < length low → IsPlace at) → IsListing f [] → (at : ℕ) → get_or low at None ≡ None
  none_low places listing at = by_value (get_or low at None) refl
    where
      by_test : (v : ℕ) → get_or low at None ≡ Some v → (b : Bool) → nat_lt at (length low) ≡ b → ⊥
      by_test v e true t = not_listed f at v (places at (lt_true at (length low) t)) (by_place at true t ∙ e) listing
      by_test v e false t = none_some v (sym (get_or_past low at None (lt_false at (length low) t)) ∙ e)

      by_value : (o : Option ℕ) → get_or low at None ≡ o → get_or low at None ≡ None
      by_value None e = e
      by_value (Some v) e = absurd (by_test v e (nat_lt at (length low)) refl)
