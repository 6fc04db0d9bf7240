-- Sources and sinks in memory.
use Rattle.std.specs.Prelude.{ℕ, ◌≡◌, ◌⊎◌, ◌+◌, ◌-◌, ◌^◌, ◌<◌, min, List, length, Contains}

-- what a source or a sink in memory has: the bytes left or taken, the room for bytes, how many go in one call at most,
-- which calls fail, counted from 0, how many calls there were, and how many of them failed
pub record End : Type 0 where
  pub bytes : List ℕ
  pub room : ℕ
  pub most : ℕ
  pub failing : List ℕ
  pub calls : ℕ
  pub faults : ℕ

-- at first
abbrev pub new_end : List ℕ → ℕ → ℕ → List ℕ → End
new_end bytes room most failing = record { bytes = bytes; room = room; most = most; failing = failing; calls = 0; faults = 0 }

-- a call counts, up to 2 ^ 64 - 1, and changes neither the room nor the numbers that it was made with
pub record Counts (old new : End) : Type 0 where
  pub calls : new.calls ≡ min (old.calls + 1) (2 ^ 64 - 1)
  pub room : new.room ≡ old.room
  pub most : new.most ≡ old.most
  pub failing : new.failing ≡ old.failing

-- a write of n bytes is refused: its number is listed, or what would be taken of them passes the room
abbrev pub Refuses : End → ℕ → Type 0
Refuses s n = Contains s.failing s.calls ⊎ (s.room < length s.bytes + min n s.most)
