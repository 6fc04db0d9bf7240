-- The way back from a place to its key: multiplication by the inverse factor modulo 2^64.
use Rattle.std.specs.Prelude.{ℕ, ◌*◌, ◌%◌, ◌^◌}

-- the key of a place: the product of the two factors is 1 modulo 2^64
abbrev pub golden_key : ℕ → ℕ
golden_key p = (p * 0xF1DE83E19937733D) % 2 ^ 64
