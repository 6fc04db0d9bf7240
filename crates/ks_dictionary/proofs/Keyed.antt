-- Entries by place become entries by key.
use Rattle.std.proofs.Common.{◌≡◌, ◌≢◌, ℕ, zero, suc, ◌+◌, ◌<◌, ◌≤◌, ◌^◌, ◌⊎◌, List, [], ◌∷◌, ◌++◌, length, map, get_or, take, drop, Option, Some, refl, sym, ap, ◌∙◌, subst, inl, inr, ⊎_elim, arith, add-one, take_all}
use Rattle.std.specs.Prelude.{All, AllPairs, Contains, slice_set}
use Rattle.std.specs.List.{swap}
use Rattle.std.specs.List.Sorted.{IsPermutation, IsNonDecreasingBy}
use Rattle.std.proofs.lemmas.List.{map-append, take_more, take_more_set, drop-set-lt, length-map, get_or-map}
use Rattle.std.proofs.lemmas.List.Edits.{length-swap, swapped_from_swap}
use Rattle.std.proofs.lemmas.List.Elements.{All-contains, All-push}
use Rattle.std.proofs.lemmas.List.Sorted.{IsPermutation-keeps, IsPermutation-sym, Contains-permutation}
use Rattle.std.proofs.Math.Seq.{drop-cons, take-append_seam}
use mathlib.Core.Logic.{dite}
use native.Mathlib.Decide.{ℕ_discrete}
use Rattle.ks_keysets.specs.declared.NodeState.{NodeState}
use Rattle.ks_keysets.specs.Record.{IsPlace, top}
use Rattle.ks_keysets.specs.Keyset.{IsFound, here, nowhere}
use Rattle.ks_history.specs.Served.{IsListing}
use Rattle.ks_arena.specs.Ended.{AreFound}

-- a vector whose elements were all written through a slice
pub written : {X : Type 0} (n : ℕ) (xs ys : List X) → n ≡ length xs → length ys ≡ length xs → take n (ys ++ drop (length ys) xs) ≡ ys
written n xs ys is same = ap (λ k. take k (ys ++ drop (length ys) xs)) (is ∙ sym same) ∙ take-append_seam ys (drop (length ys) xs)

-- an entry with the key of its place
abbrev pub keyed : (ℕ → ℕ) → ℕ × ℕ → ℕ × ℕ
keyed f z = (f z.0, z.1)

-- one entry more
pub keyed_more : (f : ℕ → ℕ) (xs ys : List (ℕ × ℕ)) (i key : ℕ) → i < length xs → length ys ≡ length xs → key ≡ f (get_or ys i (0, 0)).0 →
    (take i ys ≡ map (keyed f) (take i xs)) × (drop i ys ≡ drop i xs) →
    (take (i + 1) (slice_set ys i (key, (get_or ys i (0, 0)).1)) ≡ map (keyed f) (take (i + 1) xs)) × (drop (i + 1) (slice_set ys i (key, (get_or ys i (0, 0)).1)) ≡ drop (i + 1) xs)
keyed_more f xs ys i key lt long is so =
    let d : ℕ × ℕ = (0, 0) in
    let x : ℕ × ℕ = get_or ys i d in
    let v : ℕ × ℕ = (key, x.1) in
    let lt' : i < length ys = omega (arith, lt, long) in
    let both : x ∷ drop (suc i) ys ≡ get_or xs i d ∷ drop (suc i) xs = sym (drop-cons ys i d lt') ∙ so.1 ∙ drop-cons xs i d lt in
    let same : x ≡ get_or xs i d = cc in
    let rest : drop (suc i) ys ≡ drop (suc i) xs = cc in
    let here : v ≡ keyed f x = ap (λ k. (k, x.1)) is in (
      take_more_set ys i v lt'
          ∙ ap (λ z. z ++ v ∷ []) so.0
          ∙ ap (λ z. map (keyed f) (take i xs) ++ z ∷ []) (here ∙ ap (keyed f) same)
          ∙ sym (map-append (keyed f) (take i xs) (get_or xs i d ∷ []))
          ∙ ap (map (keyed f)) (sym (take_more xs i d lt)),
      drop-set-lt (i + 1) ys i v (omega arith) ∙ ap (λ k. drop k ys) (add-one i) ∙ rest ∙ ap (λ k. drop k xs) (sym (add-one i)),
    )

-- and its key is small, as are those before
pub small_more : (ys : List (ℕ × ℕ)) (i key : ℕ) → i < length ys → key < 2 ^ 64 → All (λ z. z.0 < 2 ^ 64) (take i ys) → All (λ z. z.0 < 2 ^ 64) (take (i + 1) (slice_set ys i (key, (get_or ys i (0, 0)).1)))
small_more ys i key lt small so =
    let v : ℕ × ℕ = (key, (get_or ys i (0, 0)).1) in
    subst (All (λ (z : ℕ × ℕ). z.0 < 2 ^ 64)) (sym (take_more_set ys i v lt)) (All-push (λ (z : ℕ × ℕ). z.0 < 2 ^ 64) (take i ys) v so small)

-- once all are made
pub all_keyed : (f : ℕ → ℕ) (xs ys : List (ℕ × ℕ)) (i : ℕ) → length xs ≤ i → length ys ≡ length xs → take i ys ≡ map (keyed f) (take i xs) → ys ≡ map (keyed f) xs
all_keyed f xs ys i le long so = sym (take_all i ys (omega (arith, le, long))) ∙ so ∙ ap (map (keyed f)) (take_all i xs le)

placed : (g : ℕ → NodeState) (p v : ℕ) → IsFound g p (Some v) → IsPlace p
placed g p v (here n in' least is) = in'.0.0
placed g p v (nowhere none is) = absurd (let q : ⊥ = cc in q)

same_read : {X : Type 0} (xs : List X) (i : ℕ) (d e : X) → i < length xs → get_or xs i e ≡ get_or xs i d
same_read [] i d e lt = absurd (omega (arith, lt))
same_read (x ∷ xs) zero d e lt = refl
same_read (x ∷ xs) (suc i) d e lt = same_read xs i d e (omega (arith, lt))

-- the places of what is found are below 2 ^ 64
pub are_small : (g : ℕ → NodeState) (xs : List (ℕ × ℕ)) → AreFound g xs → All (λ z. z.0 < 2 ^ 64) xs
are_small g xs found k d lt =
    let z : ℕ × ℕ = get_or xs k d in
    let place : z.0 ≤ top = placed g z.0 z.1 ((found.exact z.0 z.1).1 (k, lt, same_read xs k d z lt)) in
    omega (arith, place)

-- the keys of no two entries are equal
abbrev pub Apart : List (ℕ × ℕ) → Type 0
Apart xs = (i j : ℕ) (d : ℕ × ℕ) → i < j → j < length xs → (get_or xs i d).0 ≢ (get_or xs j d).0

index_cases : (m n : ℕ) → (m < n) ⊎ (n ≤ m)
index_cases m n = grind arith

-- where the element at i of a list was before a and b were swapped
abbrev Source : ℕ → ℕ → ℕ → ℕ → Type 0
Source a b i k = ((i ≡ a) × (k ≡ b)) ⊎ (((i ≡ b) × (k ≡ a)) ⊎ ((i ≢ a) × (i ≢ b) × (k ≡ i)))

source : (xs : List (ℕ × ℕ)) (a b i : ℕ) (d : ℕ × ℕ) → a < length xs → b < length xs → i < length xs → (k : ℕ) × (k < length xs) × (get_or (swap xs a b) i d ≡ get_or xs k d) × Source a b i k
source xs a b i d p q r = let s = swapped_from_swap xs (swap xs a b) a b d p q refl in dite (ℕ_discrete i a)
    (λ e. (b, q, ap (λ (m : ℕ). get_or (swap xs a b) m d) e ∙ s.0, inl (e, refl)))
    (λ n. dite (ℕ_discrete i b)
    (λ e. (a, p, ap (λ (m : ℕ). get_or (swap xs a b) m d) e ∙ s.1, inr (inl (e, refl))))
    (λ m. (i, r, s.2 i n m, inr (inr (n, m, refl)))))

sources_differ : (a b i j k l : ℕ) → Source a b i k → Source a b j l → i < j → k ≢ l
sources_differ a b i j k l (inl s) (inl t) lt same = omega arith
sources_differ a b i j k l (inl s) (inr (inl t)) lt same = omega arith
sources_differ a b i j k l (inl s) (inr (inr t)) lt same = t.1 (omega arith)
sources_differ a b i j k l (inr (inl s)) (inl t) lt same = omega arith
sources_differ a b i j k l (inr (inl s)) (inr (inl t)) lt same = omega arith
sources_differ a b i j k l (inr (inl s)) (inr (inr t)) lt same = t.0 (omega arith)
sources_differ a b i j k l (inr (inr s)) (inl t) lt same = s.1 (omega arith)
sources_differ a b i j k l (inr (inr s)) (inr (inl t)) lt same = s.0 (omega arith)
sources_differ a b i j k l (inr (inr s)) (inr (inr t)) lt same = omega arith

apart_swapped : (xs : List (ℕ × ℕ)) (a b : ℕ) → a < length xs → b < length xs → Apart xs → Apart (swap xs a b)
apart_swapped xs a b p q apart i j d lt within same = let long = length-swap xs a b in let x = source xs a b i d p q (omega arith) in let y = source xs a b j d p q (omega arith) in
    let same' : (get_or xs x.0 d).0 ≡ (get_or xs y.0 d).0 = sym (ap (λ (z : ℕ × ℕ). z.0) x.2) ∙ same ∙ ap (λ (z : ℕ × ℕ). z.0) y.2 in
    ⊎_elim (λ l. apart x.0 y.0 d l y.1 same') (λ l. apart y.0 x.0 d (omega (arith, sources_differ a b i j x.0 y.0 x.3 y.3 lt)) x.1 (sym same')) (index_cases x.0 y.0)

apart_permuted : (xs ys : List (ℕ × ℕ)) → IsPermutation xs ys → Apart xs → Apart ys
apart_permuted xs ys moved apart = IsPermutation-keeps xs Apart apart (λ l i j p q h. apart_swapped l i j p q h) ys moved

less : (m n : ℕ) → m ≤ n → m ≢ n → m < n
less m n le ne = omega arith

module _ (place key : ℕ → ℕ) (back : (k : ℕ) → k < 2 ^ 64 → key (place k) ≡ k) (forth : (p : ℕ) → p < 2 ^ 64 → place (key p) ≡ p) where
  contains_keyed : (xs : List (ℕ × ℕ)) (p v : ℕ) → Contains xs (p, v) → Contains (map (keyed key) xs) (key p, v)
  contains_keyed xs p v at =
      let d : ℕ × ℕ = (p, v) in
      (at.0, omega (arith, at.1, length-map xs (keyed key)), get_or-map (keyed key) xs at.0 d (key p, v) at.1 ∙ ap (keyed key) at.2)

  record Stood (xs : List (ℕ × ℕ)) (k v : ℕ) : Type 0 where
    p : ℕ
    at : Contains xs (p, v)
    is : key p ≡ k

  stood : (xs : List (ℕ × ℕ)) (k v : ℕ) → Contains (map (keyed key) xs) (k, v) → Stood xs k v
  stood xs k v at =
      let d : ℕ × ℕ = (0, v) in
      let lt : at.0 < length xs = omega (arith, at.1, length-map xs (keyed key)) in
      let e : keyed key (get_or xs at.0 d) ≡ (k, v) = sym (get_or-map (keyed key) xs at.0 d (k, v) lt) ∙ at.2 in
      let x : ℕ × ℕ = get_or xs at.0 d in
      let w : x.1 ≡ v = ap (λ z. z.1) e in
      let whole : x ≡ (x.0, v) = ap (λ u. (x.0, u)) w in
      record { p = x.0; at = (at.0, lt, same_read xs at.0 d (x.0, v) lt ∙ whole); is = ap (λ z. z.0) e }

  apart_keyed : (xs : List (ℕ × ℕ)) → All (λ z. z.0 < 2 ^ 64) xs → AllPairs (λ x y. x.0 < y.0) xs → Apart (map (keyed key) xs)
  apart_keyed xs small up i j d lt within same =
      let e : ℕ × ℕ = (0, 0) in
      let in' : j < length xs = omega (arith, within, length-map xs (keyed key)) in
      let in'' : i < length xs = omega (arith, lt, in') in
      let p : ℕ = (get_or xs i e).0 in
      let q : ℕ = (get_or xs j e).0 in
      let keys : key p ≡ key q = sym (ap (λ z. z.0) (get_or-map (keyed key) xs i e d in'')) ∙ same ∙ ap (λ z. z.0) (get_or-map (keyed key) xs j e d in') in
      let places : p ≡ q = sym (forth p (small i e in'')) ∙ ap place keys ∙ forth q (small j e in') in
      let less' : p < q = up i j e lt in' in
      omega (arith, places, less')

  -- the entries of a map whose keys are places all, with their keys in the order of these
  pub listed_by_key : (m : ℕ → Option ℕ) (xs ys : List (ℕ × ℕ)) → ((p v : ℕ) → m p ≡ Some v → IsPlace p) → All (λ z. z.0 < 2 ^ 64) xs → All (λ z. z.0 < 2 ^ 64) (map (keyed key) xs) → IsListing m xs
      → IsPermutation (map (keyed key) xs) ys → IsNonDecreasingBy (λ z. z.0) ys → IsListing (λ k. m (place k)) ys
  listed_by_key m xs ys stands small keys are moved up = record {
    exact = λ k v. (
      λ is.
          let at : Contains xs (place k, v) = (are.exact (place k) v).0 (stands (place k) v is.1, is.1) in
          let lt : k < 2 ^ 64 = omega (arith, is.0) in
          let at' : Contains (map (keyed key) xs) (k, v) = subst (λ j. Contains (map (keyed key) xs) (j, v)) (back k lt) (contains_keyed xs (place k) v at) in
          Contains-permutation (map (keyed key) xs) ys (k, v) moved at',
      λ in'.
          let there : Contains (map (keyed key) xs) (k, v) = Contains-permutation ys (map (keyed key) xs) (k, v) (IsPermutation-sym (map (keyed key) xs) ys moved) in' in
          let s = stood xs k v there in
          let lt : s.p < 2 ^ 64 = All-contains (λ z. z.0 < 2 ^ 64) xs (s.p, v) small s.at in
          let within : k < 2 ^ 64 = All-contains (λ z. z.0 < 2 ^ 64) (map (keyed key) xs) (k, v) keys there in
          let here : place k ≡ s.p = ap place (sym s.is) ∙ forth s.p lt in
          (omega (arith, within), ap m here ∙ ((are.exact s.p v).1 s.at).1),
    );
    ascend = λ i j d lt within.
        let apart = apart_permuted (map (keyed key) xs) ys moved (apart_keyed xs small are.ascend) i j d lt within in
        let le = up i j d (omega arith) within in
        less (get_or ys i d).0 (get_or ys j d).0 le apart;
  }
