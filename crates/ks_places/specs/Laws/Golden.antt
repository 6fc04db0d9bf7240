-- Multiplication by an odd factor modulo 2^64, and by its inverse.
use Rattle.std.specs.Prelude.{◌≡◌, ℕ, ◌+◌, ◌*◌, ◌%◌, ◌^◌, ◌<◌, refl}
use Rattle.std.proofs.Common.{arith, ◌∙◌, ap}
use Rattle.std.proofs.lemmas.Nat.{mul-mod_first, mod-mul-add}
use Rattle.ks_places.specs.Golden.{golden_place}
use Rattle.ks_places.specs.Inverse.{golden_key}

-- multiplying by a factor and then by its inverse modulo m leaves a number below m unchanged
undone : (a b q m k : ℕ) → a * b ≡ q * m + 1 → k < m → (k * a) % m * b % m ≡ k
undone a b q m k inverse h =
    let whole : k * (a * b) ≡ k * (q * m + 1) = ap (λ n. k * n) inverse in
    let regroup : k * a * b ≡ k * q * m + k = omega (arith, whole) in
    mul-mod_first (k * a) b m ∙ ap (λ n. n % m) regroup ∙ mod-mul-add (k * q) m k h

-- the key of the place of a key is that key
pub golden_round : (k : ℕ) → k < 2 ^ 64 → golden_key (golden_place k) ≡ k
golden_round k h = undone 0x9E3779B97F4A7C15 0xF1DE83E19937733D 10771413168148108919 (2 ^ 64) k refl h

-- the place of the key of a place is that place
pub golden_round_back : (p : ℕ) → p < 2 ^ 64 → golden_place (golden_key p) ≡ p
golden_round_back p h = undone 0xF1DE83E19937733D 0x9E3779B97F4A7C15 10771413168148108919 (2 ^ 64) p refl h
