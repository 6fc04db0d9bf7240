-- Digits of a number, exactly k of them.
use Rattle.std.specs.Prelude.{ℕ, ◌-◌, List, ◌++◌, length, replicate}
use Rattle.std.specs.Fmt.{decimal}

-- the digits of n, with as many digits 0 before them as make k digits; 48 is the byte of the digit 0
abbrev pub padded : ℕ → ℕ → List ℕ
padded k n = replicate (k - length (decimal n)) 48 ++ decimal n
