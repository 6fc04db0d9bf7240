-- Texts of lines.
use Rattle.std.specs.Prelude.{ℕ, ◌≡◌, ◌==◌, ◌-◌, ◌+◌, ◌<◌, ◌≤◌, ◌⊎◌, List, [], ◌∷◌, ◌++◌, length, take, if◌then◌else◌}
use Rattle.std.specs.List.{onto_first, flat_map}

-- the lines of a text: each ends with a byte 10, which the last one may lack
abbrev pub lines_of : List ℕ → List (List ℕ)
lines_of [] = []
lines_of (b ∷ bytes) = if b == 10 then [] ∷ lines_of bytes else onto_first b (lines_of bytes)

-- a line with the byte 10 that ends it
abbrev pub ended : List ℕ → List ℕ
ended line = line ++ 10 ∷ []

-- the text of these lines, each with a byte 10 at its end
abbrev pub text_of : List (List ℕ) → List ℕ
text_of lines = flat_map ended lines

-- the lines are the first ones of some text of a grammar
abbrev pub Begins : (List (List ℕ) → Type 0) → List (List ℕ) → Type 0
Begins IsText lines = (more : List (List ℕ)) × IsText (lines ++ more)

-- line n, counted from 1, is the first that does not fit the grammar: the lines before it begin a text, and with it
-- they begin none; where they all begin one and are none, it is the line after the last
pub record FirstBad (IsText : List (List ℕ) → Type 0) (lines : List (List ℕ)) (n : ℕ) : Type 0 where
  pub place : 0 < n
  pub before : Begins IsText (take (n - 1) lines)
  pub refused : ((n ≤ length lines) × (Begins IsText (take n lines) → ⊥))
      ⊎ ((n ≡ length lines + 1) × (IsText lines → ⊥))
