-- How the places of a block hold its pairs: the pairs come first, and the other places are empty.
use Rattle.std.specs.Prelude.{◌≡◌, ℕ, ◌-◌, ◌≤◌, List, [], ◌∷◌, ◌++◌, map, length, replicate, Option, Some, None}

module _ {X : Type 0} where
  -- the values that are there
  abbrev pub somes : List (Option X) → List X
  somes [] = []
  somes (None ∷ cs) = somes cs
  somes (Some x ∷ cs) = x ∷ somes cs

  -- n places that begin with the values
  unfoldable pub filled : List X → ℕ → List (Option X)
  filled xs n = map Some xs ++ replicate (n - length xs) None

  -- the places begin with their values, which are this number
  abbrev pub IsFilledFirst : List (Option X) → ℕ → Type 0
  IsFilledFirst cs count = (cs ≡ filled (somes cs) (length cs)) × (count ≡ length (somes cs)) × (count ≤ length cs)
