-- Lines that bytes begin with.
use Rattle.std.specs.Prelude.{ℕ, ◌≡◌, List, [], ◌∷◌, ◌++◌, drop}

-- no bytes come, or a byte 10 that ends a line
abbrev pub EndsLine : List ℕ → Type 0
EndsLine [] = Unit {0}
EndsLine (b ∷ bytes) = b ≡ 10

-- the bytes are a line with this text, and then the rest
pub record Lined (text bytes rest : List ℕ) : Type 0 where
  pub tail : List ℕ
  pub parts : bytes ≡ text ++ tail
  pub ends : EndsLine tail
  pub rest_is : rest ≡ drop 1 tail

-- the bytes begin with no line that has this text
abbrev pub NotLined : List ℕ → List ℕ → Type 0
NotLined text bytes = (tail : List ℕ) → EndsLine tail → bytes ≡ text ++ tail → ⊥
