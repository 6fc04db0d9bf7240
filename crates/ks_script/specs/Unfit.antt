-- The first line of the text of a script that a pairing does not serve.
use Rattle.std.specs.Prelude.{ℕ, ◌≡◌, ◌+◌, Bool, List, ◌∷◌, ◌++◌, length, All}
use Rattle.ks_lines.specs.declared.Line.{Line}
use Rattle.ks_lines.specs.Lines.{IsServedLine}
use Rattle.ks_script.specs.Lines.{lines_of}
use Rattle.ks_script.specs.Script.{line_text}

-- the text is that of a scan or of a move, which a pairing that scans, or moves, if they say so, does not serve
abbrev pub IsUnfit : Bool → Bool → List ℕ → Type 0
IsUnfit scans moves text = (line : Line) × (text ≡ line_text line) × (IsServedLine scans moves line → ⊥)

-- line n of the text, counted from 1, is such a line, and no earlier one is
pub record IsUnfitAt (scans moves : Bool) (bytes : List ℕ) (n : ℕ) : Type 0 where
  pub earlier : List (List ℕ)
  pub text : List ℕ
  pub later : List (List ℕ)
  pub lines_are : lines_of bytes ≡ earlier ++ text ∷ later
  pub place : n ≡ length earlier + 1
  pub unfit : IsUnfit scans moves text
  pub first : All (λ line. IsUnfit scans moves line → ⊥) earlier
