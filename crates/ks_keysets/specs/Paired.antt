-- Pairs whose places and values are in lists of their own.
use Rattle.std.specs.Prelude.{ℕ, Bool, List, [], ◌∷◌, map, nat_eq}
use Rattle.std.specs.Cmp.Lexicographic.{pointwise}
use Rattle.std.specs.Ordering.{eq_of_both, on}
use Rattle.ks_keysets.specs.declared.Pair.{Pair}

-- each place with the value at the same index
abbrev pub paired : List ℕ → List ℕ → List Pair
paired [] vs = []
paired (p ∷ ps) [] = []
paired (p ∷ ps) (v ∷ vs) = record { place = p; value = v } ∷ paired ps vs

-- whether two lists of pairs have the same places and the same values, in the same order
abbrev pub same_pairs : List Pair → List Pair → Bool
same_pairs = eq_of_both (on (map (λ x. x.place)) (pointwise nat_eq)) (on (map (λ x. x.value)) (pointwise nat_eq))
