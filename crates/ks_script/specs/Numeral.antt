-- The digits that bytes begin with.
use Rattle.std.specs.Prelude.{ℕ, ◌≡◌, ◌<◌, ◌≤◌, true, false, List, [], ◌∷◌, length, take, drop}
use Rattle.std.specs.Char.{is_ascii_digit}
use Rattle.std.specs.Str.{all_ascii_digits}
use Rattle.std.specs.Str.Parse.{digits_value}

-- the bytes begin with no digit
abbrev pub NoDigit : List ℕ → Type 0
NoDigit [] = Unit {0}
NoDigit (b ∷ bytes) = is_ascii_digit b ≡ false

-- the first `count` bytes are the digits of the number, and no digit follows them if they are fewer than sixteen
pub record Sixteen (bytes : List ℕ) (number count : ℕ) : Type 0 where
  pub within : count ≤ length bytes
  pub most : count ≤ 16
  pub digits : all_ascii_digits (take count bytes) ≡ true
  pub value : digits_value 10 (take count bytes) ≡ number
  pub stops : count < 16 → NoDigit (drop count bytes)
