-- A table of spots that ascend by their first places.
use Rattle.std.specs.Prelude.{ℕ, zero, suc, ◌≡◌, ◌<◌, ◌≤◌, nat_le, cond, List, [], ◌∷◌, length, get_or, Option, Some, None}
use Rattle.std.specs.List.Sorted.{IsNonDecreasingBy}
use Rattle.ks_guide.specs.declared.spot.Spot.{Spot}
use Rattle.ks_guide.specs.Spots.{holds}

-- each spot begins no earlier than the one before it
abbrev pub Ascend : List Spot → Type 0
Ascend xs = IsNonDecreasingBy (λ s. s.low) xs

-- how many spots begin at the place or below it
pub record IsBegun (p : ℕ) (xs : List Spot) (k : ℕ) : Type 0 where
  pub within : k ≤ length xs
  pub before : (i : ℕ) (d : Spot) → i < k → (get_or xs i d).low ≤ p
  pub after : (i : ℕ) (d : Spot) → k ≤ i → i < length xs → p < (get_or xs i d).low

-- the same, counted from the first spot on
unfoldable pub begun_in : ℕ → List Spot → ℕ
begun_in p [] = 0
begun_in p (s ∷ xs) = cond (nat_le s.low p) (suc (begun_in p xs)) 0

-- the node of the last spot of the first k, if it has the place
abbrev pub guess_last : ℕ → List Spot → ℕ → Option ℕ
guess_last p xs zero = None
guess_last p xs (suc k) =
    let last = get_or xs k (record { low = 0; last = 0; node = 0 }) in
    cond (holds p last) (Some last.node) None

-- the node of the last spot that begins at the place or below it, if it has the place
abbrev pub guess_among : ℕ → List Spot → Option ℕ
guess_among p xs = guess_last p xs (begun_in p xs)

-- the spots of a span are those from one index to before another
pub record IsGap (new : Spot) (xs : List Spot) (from to : ℕ) : Type 0 where
  pub upright : new.low ≤ new.last
  pub order : from ≤ to
  pub within : to ≤ length xs
  pub below : (i : ℕ) (d : Spot) → i < from → (get_or xs i d).low < new.low
  pub meets : (i : ℕ) (d : Spot) → from ≤ i → i < length xs → new.low ≤ (get_or xs i d).low
  pub above : (i : ℕ) (d : Spot) → to ≤ i → i < length xs → new.last < (get_or xs i d).low

-- the spot is at this index, and those behind it begin behind its span
pub record IsPlaced (new : Spot) (xs : List Spot) (at : ℕ) : Type 0 where
  pub within : at < length xs
  pub is : (d : Spot) → get_or xs at d ≡ new
  pub before : (i : ℕ) (d : Spot) → i < at → (get_or xs i d).low ≤ new.low
  pub after : (i : ℕ) (d : Spot) → at < i → i < length xs → new.last < (get_or xs i d).low
