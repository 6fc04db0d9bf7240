-- Numbers in two parts.
use Rattle.std.specs.Prelude.{ℕ, ◌+◌, ◌*◌}

-- the number whose lower 16 bits are these, and whose others are the upper ones
abbrev pub joined : ℕ → ℕ → ℕ
joined high low = high * 65536 + low
