-- What a source of bytes and a sink for bytes do, if they make their bytes known, and when they may fail.
use Rattle.std.specs.Prelude.{ℕ, ◌≡◌, ◌⊎◌, ◌-◌, ◌^◌, ◌<◌, ◌≤◌, List, [], ◌++◌, length, take, drop, Option, Some, None, Result, Ok, Err}

-- a count of faults rose: it is greater now, or has reached the greatest number that it can show
abbrev pub Rose : ℕ → ℕ → Type 0
Rose old new = (old < new) ⊎ (new ≡ 2 ^ 64 - 1)

-- a read of n bytes moved the first n bytes that were left to the start of the buffer, and no byte comes only at the end
pub record Moves (bytes : List ℕ) (after : Option (List ℕ)) (into : List ℕ) (n : ℕ) : Type 0 where
  pub there : n ≤ length bytes
  pub start : take n into ≡ take n bytes
  pub rest : after ≡ Some (drop n bytes)
  pub ends : 0 < length into → n ≡ 0 → bytes ≡ []

-- what a read did to the bytes left, if they are known: it moved some of them, or failed and moved none
abbrev pub Reads : {E : Type 0} → Option (List ℕ) → Option (List ℕ) → List ℕ → Result ℕ E → Type 0
Reads None after into r = Unit {0}
Reads (Some bytes) after into (Ok n) = Moves bytes after into n
Reads (Some bytes) after into (Err e) = after ≡ Some bytes

-- what a write did to the bytes taken, if they are known: it took the first ones of the piece, or failed and took none
abbrev pub Writes : {E : Type 0} → Option (List ℕ) → Option (List ℕ) → List ℕ → Result ℕ E → Type 0
Writes None after piece r = Unit {0}
Writes (Some bytes) after piece (Ok n) = after ≡ Some (bytes ++ take n piece)
Writes (Some bytes) after piece (Err e) = after ≡ Some bytes

-- the bytes taken, if they are known, grew by these
abbrev pub Grew : Option (List ℕ) → Option (List ℕ) → List ℕ → Type 0
Grew None after more = Unit {0}
Grew (Some bytes) after more = after ≡ Some (bytes ++ more)

-- the bytes taken, if they are known, grew by the first ones of these
pub record GrewByFront (old new : Option (List ℕ)) (text : List ℕ) : Type 0 where
  pub front : List ℕ
  pub rest : List ℕ
  pub split : text ≡ front ++ rest
  pub grew : Grew old new front
