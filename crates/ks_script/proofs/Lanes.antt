-- Digits among sixteen bytes, found in one vector.
use Rattle.ks_script.proofs.Common.{ℕ, zero, suc, ◌≡◌, ◌+◌, ◌%◌, ◌^◌, ◌<◌, ◌≤◌, true, false, cond, eqb, not, ◌&&◌, List, [], ◌∷◌, map, length, take, get_or, replicate, Fits, w8, refl, sym, ap, ◌∙◌, arith, agree_below, agree_below_at, eqb_tells, inl, inr, not-false, not-true, length-map, length-take-le, prefix_len, is_ascii_digit, all_ascii_digits}
use Rattle.std.specs.Prelude.{min}
use Rattle.std.proofs.lemmas.Simd.{map-map, mask_l-mod, zip2_splat_left, first_set_mask_l, run_in_chunk_le, run_in_chunk_fails, run_in_chunk_stops}
use lib.Lanes.{zip2, mask_l, top}
use lib.Count.{count_trailing_zeros}

-- an operation on one value in all lanes, and on lanes that were computed from v
pub over : (h : ℕ → ℕ → ℕ) (y : ℕ) (f : ℕ → ℕ) (v : List ℕ) {b : List ℕ} → length v ≡ 16 → b ≡ map f v → zip2 h (replicate 16 y) b ≡ map (λ x. h y (f x)) v
over h y f v long e = ap (zip2 h (replicate 16 y)) e ∙ (zip2_splat_left h y 16 (map f v) (length-map v f ∙ long) ∙ map-map (h y) f v)

all_from : (bytes : List ℕ) (k : ℕ) → k ≤ length bytes → ((i : ℕ) → i < k → is_ascii_digit (get_or bytes i 0) ≡ true) → all_ascii_digits (take k bytes) ≡ true
all_from bytes zero le is = refl
all_from [] (suc k) le is = absurd (omega arith)
all_from (b ∷ bytes) (suc k) le is = ap (λ t. t && all_ascii_digits (take k bytes)) (is 0 (omega arith)) ∙ all_from bytes k (omega arith) (λ i lt. is (suc i) (omega arith))

-- a word of no bits has 64 zeros at its end
least : (m n : ℕ) → cond (eqb m 0) 16 (count_trailing_zeros 64 m) ≡ n → n ≤ 16 → min (count_trailing_zeros 64 m) 16 ≡ n
unfolding count_trailing_zeros
least m n e le =
    elim (eqb_tells m 0) [
      | inl none ↦ ap (λ (k : ℕ). min (count_trailing_zeros 64 k) 16) none.1 ∙ (ap (λ t. cond t 16 (count_trailing_zeros 64 m)) (sym none.0) ∙ e)
      | inr some ↦ (let found = ap (λ t. cond t 16 (count_trailing_zeros 64 m)) (sym some.0) ∙ e in omega arith)
    ]

-- the lanes that stop are those of no digits, and r is how many are before the first of them
pub first_digits : (bytes z : List ℕ) (f : ℕ → ℕ) (r : ℕ) → 16 ≤ length bytes → ((k : ℕ) → Fits w8 (get_or bytes k 0)) → z ≡ map f (take 16 bytes) → agree_below (λ x. top 7 (f x)) (λ x. not (is_ascii_digit x)) 256 ≡ true →
    r ≡ min (count_trailing_zeros 64 (mask_l (map (top 7) z) % 2 ^ 64)) 16 → record { most : r ≤ 16; digits : all_ascii_digits (take r bytes) ≡ true; stops : r < 16 → is_ascii_digit (get_or bytes r 0) ≡ false }
first_digits bytes z f r room fits lanes agree is =
    let stops = λ (x : ℕ). top 7 (f x) in
    let v : List ℕ = take 16 bytes in
    let long : length v ≡ 16 = length-take-le 16 bytes room in
    let mask = ap (λ l. mask_l l % 2 ^ 64) (ap (map (top 7)) lanes ∙ map-map (top 7) f v) ∙ mask_l-mod (map stops v) 64 (omega (arith, length-map v stops, long)) in
    let counted : r ≡ prefix_len (λ x. not (stops x)) v =
    is ∙ (ap (λ (m : ℕ). min (count_trailing_zeros 64 m) 16) mask ∙ least _ _ (first_set_mask_l stops v 16 long (omega arith)) (run_in_chunk_le stops bytes 0 16 _ 0 room refl)) in
    let digit = λ (i : ℕ). agree_below_at stops (λ x. not (is_ascii_digit x)) 256 (get_or bytes i 0) agree (fits i).fits in
    let most = run_in_chunk_le stops bytes 0 16 r 0 room counted in
    record {
      most = most;
      digits = all_from bytes r (omega arith) (λ i lt. not-false _ (sym (digit i) ∙ run_in_chunk_fails stops bytes 0 16 r 0 room counted i (omega arith) (omega arith)));
      stops = λ short. not-true _ (sym (digit r) ∙ (ap (λ k. stops (get_or bytes k 0)) (let e : r ≡ 0 + r = omega arith in e) ∙ run_in_chunk_stops stops bytes 0 16 r 0 room counted short));
    }
