-- What a guide says of a place.
use Rattle.std.specs.Prelude.{ℕ, Option, Some, None}
use Rattle.ks_guide.specs.declared.guide.Guide.{Guide}
use Rattle.ks_guide.specs.Branches.{guess_among}
use Rattle.ks_guide.specs.Leaves.{guess_of}

-- the first of two guesses that there is
abbrev pub first_guess : Option ℕ → Option ℕ → Option ℕ
first_guess (Some node) other = Some node
first_guess None other = other

-- the leaf that the guide has for a place
abbrev pub guessed_leaf : Guide → ℕ → Option ℕ
guessed_leaf g p = guess_of g.leaves p

-- at which node a call of the place may begin: at a leaf that was noted, or else at a branch
abbrev pub guessed : Guide → ℕ → Option ℕ
guessed g p = first_guess (guessed_leaf g p) (guess_among p g.branches.spots.items)

-- how many branches the guide has room for
abbrev pub most_branches : Guide → ℕ
most_branches g = g.branches.most
