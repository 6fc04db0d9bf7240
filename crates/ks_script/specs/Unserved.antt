-- The first line of a caller that a pairing does not serve.
use Rattle.std.specs.Prelude.{ℕ, ◌≡◌, ◌+◌, Bool, List, ◌∷◌, ◌++◌, length, All}
use Rattle.ks_lines.specs.declared.Line.{Line}
use Rattle.ks_lines.specs.Lines.{IsServedLine}

-- line n is the first of a caller that is not served, where the line before them has the number `caller`
pub record FirstUnserved (scans moves : Bool) (lines : List Line) (caller n : ℕ) : Type 0 where
  pub earlier : List Line
  pub line : Line
  pub later : List Line
  pub lines_are : lines ≡ earlier ++ line ∷ later
  pub place : n ≡ caller + 1 + length earlier
  pub unserved : IsServedLine scans moves line → ⊥
  pub served : All (IsServedLine scans moves) earlier
