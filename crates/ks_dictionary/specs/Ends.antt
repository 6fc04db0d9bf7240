-- The first and the last pair of a span, as rows of parts find them.
use Rattle.std.specs.Prelude.{ℕ, ◌≡◌, List, [], ◌∷◌, Option, Some, None}
use Rattle.ks_keysets.specs.Layout.{Layout}
use Rattle.ks_keysets.specs.declared.Pair.{Pair}
use Rattle.ks_history.specs.Done.{Template}
use Rattle.ks_arena.specs.declared.held.Pass.{Pass}
use Rattle.ks_shape.specs.Idle.{Site}
use Rattle.ks_lines.specs.declared.parts.Part.{Part}
use Rattle.ks_dictionary.specs.Scan.{IsDoneScan}
use Rattle.ks_lines.specs.Scan.{end_of}
use Rattle.ks_dictionary.specs.declared.ends.Found.{Found}

-- the first of these pairs, if there is one, with the number of the part that lists them
abbrev pub first_at : ℕ → List Pair → Option Found
first_at n [] = None
first_at n (first ∷ pairs) = Some (record { number = n; pair = first })

-- the last of these pairs, if there is one, with the number of the part that lists them
abbrev pub last_at : ℕ → List Pair → Option Found
last_at n [] = None
last_at n (last ∷ []) = Some (record { number = n; pair = last })
last_at n (one ∷ other ∷ pairs) = last_at n (other ∷ pairs)

-- the first pair of a part, if it has one
abbrev pub first_of : Part → Option Found
first_of part = first_at part.number part.pairs

-- the last pair of a part, if it has one
abbrev pub last_of : Part → Option Found
last_of part = last_at part.number part.pairs

-- only the last of the parts may have pairs: found is its first one, and if it has none, the parts go on to last
abbrev pub IsFirstOf : ℕ → List Part → Option Found → Type 0
IsFirstOf last [] found = ⊥
IsFirstOf last (part ∷ []) found = (found ≡ first_of part) × (found ≡ None → part.last ≡ last)
IsFirstOf last (part ∷ other ∷ parts) found = (first_of part ≡ None) × IsFirstOf last (other ∷ parts) found

-- what was found, or else what was found before
abbrev pub found_or : Option Found → Option Found → Option Found
found_or None before = before
found_or (Some found) before = Some found

-- the last pair of the last of the parts that has one
abbrev pub last_found : List Part → Option Found
last_found [] = None
last_found (part ∷ parts) = found_or (last_found parts) (last_of part)

-- between two passes, parts were made from low on, until one had a pair or ended at last, and found is its first pair
pub record HasFoundFirst {N D : Type 0} (layout : Layout) (technique : Template) (a : Site) (low last : ℕ) (p q : Pass N D) (found : Option Found) : Type 0 where
  pub parts : List Part
  pub done : IsDoneScan layout technique a low last p q parts
  pub least : IsFirstOf last parts found

-- between two passes, parts were made from low to last, and found is the last pair of the last of them that has one
pub record HasFoundLast {N D : Type 0} (layout : Layout) (technique : Template) (a : Site) (low last : ℕ) (p q : Pass N D) (found : Option Found) : Type 0 where
  pub parts : List Part
  pub done : IsDoneScan layout technique a low last p q parts
  pub whole : end_of parts ≡ Some last
  pub greatest : found ≡ last_found parts
