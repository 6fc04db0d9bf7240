-- What a contract sees of a `Block`.
use Rattle.std.specs.Prelude.{ℕ, List, slice_index_or, slice_set}

-- the pairs, each a place and a value, and how many there may be
pub record Contents : Type 0 where
  pub pairs : List (ℕ × ℕ)
  pub room : ℕ

-- the two together
abbrev pub contents : List (ℕ × ℕ) → ℕ → Contents
contents ps n = record { pairs = ps; room = n }

-- the same room, with other pairs
abbrev pub with_pairs : Contents → List (ℕ × ℕ) → Contents
with_pairs c ps = contents ps c.room

-- the pairs, with the value v in the one at the index, which keeps its place
abbrev pub set_value : List (ℕ × ℕ) → ℕ → ℕ → List (ℕ × ℕ)
set_value ps i v = slice_set ps i ((slice_index_or ps i (0, v)).0, v)
