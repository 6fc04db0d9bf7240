-- Sets of spots, found by a hash.
use Rattle.std.specs.Prelude.{ℕ, ◌*◌, ◌/◌, ◌%◌, ◌^◌, length, slice_index_or, Option}
use Rattle.ks_guide.specs.declared.leaves.Leaves.{Leaves}
use Rattle.ks_guide.specs.declared.spot.Two.{Two}
use Rattle.ks_guide.specs.Spots.{guess_in}

-- the set of a place, among a number of sets: the upper bits of its block's product with the odd number nearest to 2^64 divided by the
-- golden ratio
abbrev pub set_among : ℕ → ℕ → ℕ → ℕ
set_among count shift p = (p / 2 ^ shift * 0x9E3779B97F4A7C15) % 2 ^ 64 * count / 2 ^ 64

abbrev pub set_of : Leaves → ℕ → ℕ
set_of t p = set_among (length t.sets.items) t.shift p

-- spots that have no place
abbrev pub blank : Two
blank = record {
  first = record { low = 0xFFFFFFFFFFFFFFFF; last = 0; node = 0 };
  second = record { low = 0xFFFFFFFFFFFFFFFF; last = 0; node = 0 };
}

-- the node of the span that has the place
abbrev pub guess_of : Leaves → ℕ → Option ℕ
guess_of t p = guess_in p (slice_index_or t.sets.items (set_of t p) blank)
