-- What a reader of lines says of the texts of a grammar.
use Rattle.std.specs.Prelude.{ℕ, ◌≡◌, ◌+◌, List, [], ◌∷◌, ◌++◌, length}
use Rattle.ks_script.specs.Lines.{lines_of, FirstBad}

-- lines without their ends
abbrev pub Lines : Type 0
Lines = List (List ℕ)

-- the first of the lines is not this one
abbrev pub NotFirst : List ℕ → Lines → Type 0
NotFirst word [] = Unit {0}
NotFirst word (l ∷ ls) = l ≡ word → ⊥

-- the first of the lines is that of no such thing
abbrev pub NoneFirst : {X : Type 0} → (X → Type 0) → (X → List ℕ) → Lines → Type 0
NoneFirst Is line [] = Unit {0}
NoneFirst {X = X} Is line (l ∷ ls) = (x : X) → Is x → l ≡ line x → ⊥

-- the lines begin with those of such a thing
abbrev pub BeginsWith : {X : Type 0} → (X → Type 0) → (X → Lines) → Lines → Type 0
BeginsWith {X = X} Is of ls = (x : X) × (behind : Lines) × Is x × (ls ≡ of x ++ behind)

-- the first lines of the bytes, `count` of them, are these, and the others are those of the rest
pub record Reads (front : Lines) (bytes rest : List ℕ) (count : ℕ) : Type 0 where
  pub lines_are : lines_of bytes ≡ front ++ lines_of rest
  pub counted : count ≡ length front

-- behind this number of lines, the one with the number n is the first that does not fit
abbrev pub RefusedBehind : ℕ → (Lines → Type 0) → Lines → ℕ → Type 0
RefusedBehind before IsText lines n = (k : ℕ) × (n ≡ before + k) × FirstBad IsText lines k
