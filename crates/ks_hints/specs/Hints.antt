-- Lists of hints, and what posts make of them. Posts are newest first.
use Rattle.std.specs.Prelude.{◌≡◌, ℕ, ◌<◌, ◌≤◌, Bool, true, false, nat_eq, nat_lt, if◌then◌else◌, List, [], ◌∷◌, length, slice_index_or, Option, Some, None}
use Rattle.std.specs.Option.{option_map}
use Rattle.ks_hints.specs.declared.hint.Hint.{Hint}

-- each low is below those of all later hints
abbrev pub LowsAscend : List Hint → Type 0
LowsAscend xs = (i j : ℕ) (d : Hint) → i < j → j < length xs → (slice_index_or xs i d).low < (slice_index_or xs j d).low

-- a hint has this low
abbrev pub has_low : List Hint → ℕ → Bool
has_low [] low = false
has_low (x ∷ xs) low = if nat_eq x.low low then true else has_low xs low

-- the list with h in place of its hint with the same low
abbrev pub replaced : List Hint → Hint → List Hint
replaced [] h = []
replaced (x ∷ xs) h = if nat_eq x.low h.low then h ∷ xs else x ∷ replaced xs h

-- the list with h before its first hint with a greater low
abbrev pub placed : List Hint → Hint → List Hint
placed [] h = h ∷ []
placed (x ∷ xs) h = if nat_lt h.low x.low then h ∷ x ∷ xs else x ∷ placed xs h

-- the list after one more post: a hint with the same low is replaced; a list of 64 is emptied before it takes in another low
abbrev pub after_post : List Hint → Hint → List Hint
after_post xs h = if has_low xs h.low then replaced xs h else if nat_eq (length xs) 64 then h ∷ [] else placed xs h

-- the list after all posts; it begins empty
abbrev pub list_after : List Hint → List Hint
list_after [] = []
list_after (h ∷ older) = after_post (list_after older) h

-- of two hints the one with the greater low
abbrev pub greater : Hint → Option Hint → Option Hint
greater x None = Some x
greater x (Some y) = if nat_lt x.low y.low then Some y else Some x

-- the hint with the greatest low that is not above the place
abbrev pub nearest_in : List Hint → ℕ → Option Hint
nearest_in [] place = None
nearest_in (x ∷ xs) place = if nat_lt place x.low then nearest_in xs place else greater x (nearest_in xs place)

-- the node of that hint
abbrev pub hint_in : List Hint → ℕ → Option ℕ
hint_in xs place = option_map (λ h. h.node) (nearest_in xs place)

-- the same after all posts
abbrev pub hint_after : List Hint → ℕ → Option ℕ
hint_after posts place = hint_in (list_after posts) place

-- the node is that of the last hint whose low is not above the place; there is no node if all lows are above it
abbrev pub IsOfLast : List Hint → ℕ → Option ℕ → Type 0
IsOfLast xs place None = (k : ℕ) (d : Hint) → k < length xs → place < (slice_index_or xs k d).low
IsOfLast xs place (Some node) = (i : ℕ) × (i < length xs) × ((d : Hint) → (slice_index_or xs i d).node ≡ node) × ((d : Hint) → (slice_index_or xs i d).low ≤ place) × ((k : ℕ) (d : Hint) → i < k → k < length xs → place < (slice_index_or xs k d).low)

-- the hint at position i has this low
pub record HasLowAt (low : ℕ) (xs : List Hint) (i : ℕ) : Type 0 where
  pub within : i < length xs
  pub before : (k : ℕ) (d : Hint) → k < i → k < length xs → (slice_index_or xs k d).low < low
  pub here : (d : Hint) → (slice_index_or xs i d).low ≡ low

-- no hint has this low; one that had would be at position i
pub record LacksLowAt (low : ℕ) (xs : List Hint) (i : ℕ) : Type 0 where
  pub within : i ≤ length xs
  pub before : (k : ℕ) (d : Hint) → k < i → k < length xs → (slice_index_or xs k d).low < low
  pub after : (k : ℕ) (d : Hint) → i ≤ k → k < length xs → low < (slice_index_or xs k d).low
