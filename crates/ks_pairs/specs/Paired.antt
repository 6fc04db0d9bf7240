-- The pairs of a node, and where the pair of a place is among them.
use Rattle.std.specs.Prelude.{ℕ, List, Result, MatchResult}
use Rattle.ks_keysets.specs.declared.Pair.{Pair}
use Rattle.ks_node.specs.Keyed.{IsFound, IsMissing}

-- the pairs, in order
pub record Items : Type 0 where
  pub items : List Pair

-- the pair of a place is at a position, or would be there
abbrev pub Stands : ℕ → List Pair → Result ℕ ℕ → Type 0
Stands place xs r = MatchResult r (IsFound (λ x. x.place) place xs) (IsMissing (λ x. x.place) place xs)
