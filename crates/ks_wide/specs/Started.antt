-- The children of a branch, and where one that starts at a place is among them.
use Rattle.std.specs.Prelude.{ℕ, List, [], ◌∷◌, Result, MatchResult, Option, Some, None, cond, nat_eq}
use Rattle.std.specs.List.{list_all}
use Rattle.ks_node.specs.declared.start.Start.{Start}
use Rattle.ks_node.specs.Keyed.{IsFound, IsMissing}

-- the children, in order
pub record Kids : Type 0 where
  pub items : List Start

-- each place with the number at the same index
abbrev pub started : List ℕ → List ℕ → List Start
started [] ns = []
started (l ∷ ls) [] = []
started (l ∷ ls) (n ∷ ns) = record { low = l; node = n } ∷ started ls ns

-- the child that starts at a place is at a position, or would be there
abbrev pub Stands : ℕ → List Start → Result ℕ ℕ → Type 0
Stands place xs r = MatchResult r (IsFound (λ s. s.low) place xs) (IsMissing (λ s. s.low) place xs)

-- the number that all numbers are
abbrev pub sole_of : List ℕ → Option ℕ
sole_of [] = None
sole_of (n ∷ ns) = cond (list_all (λ m. nat_eq m n) ns) (Some n) None
