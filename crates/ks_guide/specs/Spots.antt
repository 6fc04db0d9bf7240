-- What the spans of a guide say of a place.
use Rattle.std.specs.Prelude.{ℕ, Bool, ◌≤◌, ◌&&◌, ◌||◌, not, nat_le, nat_lt, Option, Some, None, cond}
use Rattle.ks_guide.specs.declared.spot.Spot.{Spot}
use Rattle.ks_guide.specs.declared.spot.Two.{Two}

-- the span of the spot has the place
abbrev pub Holds : ℕ → Spot → Type 0
Holds p s = (s.low ≤ p) × (p ≤ s.last)

-- the same, as a test
abbrev pub holds : ℕ → Spot → Bool
holds p s = nat_le s.low p && nat_le p s.last

-- the node of the span that has the place: of two, of the one that begins later
abbrev pub guess_in : ℕ → Two → Option ℕ
guess_in p x =
    cond (holds p x.second && (nat_lt x.first.low x.second.low || not (holds p x.first)))
    (Some x.second.node)
    (cond (holds p x.first) (Some x.first.node) None)
