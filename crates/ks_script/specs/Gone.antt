-- What a read took of a source.
use Rattle.std.specs.Prelude.{ℕ, ◌≡◌, List, ◌++◌, Option, Some, None}

-- of the bytes left, if they are known, these first ones are gone
abbrev pub Gone : Option (List ℕ) → Option (List ℕ) → List ℕ → Type 0
Gone None after front = Unit {0}
Gone (Some bytes) after front = (rest : List ℕ) × (bytes ≡ front ++ rest) × (after ≡ Some rest)
