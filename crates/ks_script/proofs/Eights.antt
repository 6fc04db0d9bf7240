-- Words of eight bytes, of which the first ones are digits.
use Rattle.ks_script.proofs.Common.{ℕ, zero, suc, ◌≡◌, ◌+◌, ◌-◌, ◌*◌, ◌/◌, ◌%◌, ◌^◌, ◌<◌, ◌≤◌, arith, ◌∙◌}
use Rattle.ks_script.specs.Eight.{word_of}

-- what the first digits are worth
abbrev pub worth : (ℕ → ℕ) → ℕ → ℕ
worth d zero = 0
worth d (suc n) = worth d n * 10 + d n

-- what the code makes of a word whose bytes are worths of digits
abbrev pub pairs_of : ℕ → ℕ
pairs_of x = (x * 10 % 2 ^ 64 + x / 256) % 2 ^ 64

abbrev pub made_of : ℕ → ℕ
made_of pairs = ((pairs % 256 + pairs / 4294967296 % 256 * 4294967296 % 2 ^ 64) * 4294967296000100 % 2 ^ 64
    + (pairs / 65536 % 256 + pairs / 281474976710656 % 256 * 4294967296 % 2 ^ 64) * 42949672960001 % 2 ^ 64) % 2 ^ 64 / 4294967296

value : (d : ℕ → ℕ) → ((i : ℕ) → i < 8 → d i < 10) → (x : ℕ) → x ≡ word_of d → made_of (pairs_of x) ≡ worth d 8
value d small x is =
    let pairs : ℕ = pairs_of x in
    let sum : pairs ≡ (10 * d 0 + d 1) + 2 ^ 8 * (10 * d 1 + d 2) + 2 ^ 16 * (10 * d 2 + d 3) + 2 ^ 24 * (10 * d 3 + d 4) + 2 ^ 32 * (10 * d 4 + d 5) + 2 ^ 40 * (10 * d 5 + d 6) + 2 ^ 48 * (10 * d 6 + d 7) + 2 ^ 56 * (10 * d 7) = omega (arith, is, small) in
    let p : pairs % 256 ≡ 10 * d 0 + d 1 = omega (arith, sum, small) in
    let q : pairs / 65536 % 256 ≡ 10 * d 2 + d 3 = omega (arith, sum, small) in
    let r : pairs / 4294967296 % 256 ≡ 10 * d 4 + d 5 = omega (arith, sum, small) in
    let s : pairs / 281474976710656 % 256 ≡ 10 * d 6 + d 7 = omega (arith, sum, small) in
    by_pairs (10 * d 0 + d 1) (10 * d 2 + d 3) (10 * d 4 + d 5) (10 * d 6 + d 7) (omega (arith, small)) (omega (arith, small)) (omega (arith, small)) (omega (arith, small)) pairs p q r s ∙ omega arith
  where
    by_pairs : (p q r s : ℕ) → p < 100 → q < 100 → r < 100 → s < 100 → (pairs : ℕ) → pairs % 256 ≡ p → pairs / 65536 % 256 ≡ q → pairs / 4294967296 % 256 ≡ r → pairs / 281474976710656 % 256 ≡ s →
        made_of pairs ≡ 1000000 * p + 10000 * q + 100 * r + s
    by_pairs p q r s hp hq hr hs pairs ip iq ir is =
        let odd : (pairs % 256 + pairs / 4294967296 % 256 * 4294967296 % 2 ^ 64) * 4294967296000100 % 2 ^ 64 ≡ 100 * p + 4294967296 * (1000000 * p + 100 * r) = omega (arith, ip, ir) in
        let even : (pairs / 65536 % 256 + pairs / 281474976710656 % 256 * 4294967296 % 2 ^ 64) * 42949672960001 % 2 ^ 64 ≡ q + 4294967296 * (10000 * q + s) = omega (arith, iq, is) in
        omega (arith, odd, even)

-- the first digits, with zeros before them
abbrev shifted : ℕ → ℕ → ℕ
shifted word k = (word + 14974415777481871312) % 2 ^ 64 * 2 ^ (64 - 8 * k) % 2 ^ 64

-- the digits behind m zeros
abbrev behind : ℕ → (ℕ → ℕ) → ℕ → ℕ
behind zero d i = d i
behind (suc m) d zero = 0
behind (suc m) d (suc i) = behind m d i

behind_small : (m k : ℕ) (d : ℕ → ℕ) → ((i : ℕ) → i < k → d i < 10) → (i : ℕ) → i < m + k → behind m d i < 10
behind_small zero k d small i lt = small i (omega arith)
behind_small (suc m) k d small zero lt = omega arith
behind_small (suc m) k d small (suc i) lt = behind_small m k d small i (omega arith)

pub eight_value : (k : ℕ) → 0 < k → k ≤ 8 → (d byte : ℕ → ℕ) → ((i : ℕ) → byte i < 256) → ((i : ℕ) → i < k → byte i ≡ 48 + d i) → ((i : ℕ) → i < k → d i < 10) → (word : ℕ) → word ≡ word_of byte → made_of (pairs_of (shifted word k)) ≡ worth d k
eight_value zero some most d byte fits are small word is = absurd (omega arith)
eight_value (suc zero) some most d byte fits are small word is = value (behind 7 d) (behind_small 7 1 d small) (shifted word 1) (omega (arith, is, fits, are, small)) ∙ omega arith
eight_value (suc (suc zero)) some most d byte fits are small word is = value (behind 6 d) (behind_small 6 2 d small) (shifted word 2) (omega (arith, is, fits, are, small)) ∙ omega arith
eight_value (suc (suc (suc zero))) some most d byte fits are small word is = value (behind 5 d) (behind_small 5 3 d small) (shifted word 3) (omega (arith, is, fits, are, small)) ∙ omega arith
eight_value (suc (suc (suc (suc zero)))) some most d byte fits are small word is = value (behind 4 d) (behind_small 4 4 d small) (shifted word 4) (omega (arith, is, fits, are, small)) ∙ omega arith
eight_value (suc (suc (suc (suc (suc zero))))) some most d byte fits are small word is = value (behind 3 d) (behind_small 3 5 d small) (shifted word 5) (omega (arith, is, fits, are, small)) ∙ omega arith
eight_value (suc (suc (suc (suc (suc (suc zero)))))) some most d byte fits are small word is = value (behind 2 d) (behind_small 2 6 d small) (shifted word 6) (omega (arith, is, fits, are, small)) ∙ omega arith
eight_value (suc (suc (suc (suc (suc (suc (suc zero))))))) some most d byte fits are small word is = value (behind 1 d) (behind_small 1 7 d small) (shifted word 7) (omega (arith, is, fits, are, small)) ∙ omega arith
eight_value (suc (suc (suc (suc (suc (suc (suc (suc zero)))))))) some most d byte fits are small word is = value (behind 0 d) (behind_small 0 8 d small) (shifted word 8) (omega (arith, is, fits, are, small)) ∙ omega arith
eight_value (suc (suc (suc (suc (suc (suc (suc (suc (suc k))))))))) some most d byte fits are small word is = absurd (omega arith)
