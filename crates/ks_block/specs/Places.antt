-- A row of places, each empty or holding a value.
use Rattle.std.specs.Prelude.{◌≡◌, ℕ, ◌+◌, ◌≤◌, List, [], ◌∷◌, ◌++◌, map, length, take, drop, get_or, Option, Some, None}

module _ {X : Type 0} where
  -- the place at the index holds a value
  abbrev pub IsFilled : List (Option X) → ℕ → Type 0
  IsFilled cs i = (x : X) × (get_or cs i None ≡ Some x)

  -- the n places from the index on
  abbrev pub run : List (Option X) → ℕ → ℕ → List (Option X)
  run cs at n = take n (drop at cs)

  -- the n places from the index on hold values
  abbrev pub IsRun : List (Option X) → ℕ → ℕ → Type 0
  IsRun cs at n = (at + n ≤ length cs) × ((xs : List X) × (run cs at n ≡ map Some xs))

  -- ds in place of the n places from the index on
  abbrev pub spliced : List (Option X) → ℕ → ℕ → List (Option X) → List (Option X)
  spliced cs at n ds = take at cs ++ (ds ++ drop (at + n) cs)

  -- the n places from the index on moved up by one, over the place behind them
  abbrev pub raised : List (Option X) → ℕ → ℕ → List (Option X)
  raised cs at n = spliced cs at (n + 1) (None ∷ run cs at n)

  -- the n places behind the index moved down by one, over the place at the index
  abbrev pub lowered : List (Option X) → ℕ → ℕ → List (Option X)
  lowered cs at n = spliced cs at (n + 1) (run cs (at + 1) n ++ None ∷ [])
