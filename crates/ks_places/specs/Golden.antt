-- Multiplication by an odd factor modulo 2^64.
use Rattle.std.specs.Prelude.{ℕ, ◌*◌, ◌%◌, ◌^◌}

-- the place of a key: the factor is the odd number nearest to 2^64 divided by the golden ratio
abbrev pub golden_place : ℕ → ℕ
golden_place k = (k * 0x9E3779B97F4A7C15) % 2 ^ 64
