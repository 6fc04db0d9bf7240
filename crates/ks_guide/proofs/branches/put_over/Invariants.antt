use Rattle.std.proofs.Common.{ℕ, ◌≡◌, ◌<◌, ◌≤◌, ◌+◌, length, get_or, vec_capacity}
use Rattle.ks_guide.specs.declared.spot.Spot.{Spot}
use Rattle.ks_guide.specs.Branches.{Ascend}
use Rattle.ks_guide.proofs.branches.put_over.Given as goal

abbrev pub invariant-loop-left : goal.invariant-loop-left
invariant-loop-left l =
    Ascend l.spots.items
    × (l.from + 1 + l.left ≤ length l.spots.items)
    × ((d : Spot) → get_or l.spots.items l.from d ≡ l.fn.new)
    × ((i : ℕ) (d : Spot) → i < l.from → (get_or l.spots.items i d).low ≤ l.fn.new.low)
    × ((i : ℕ) (d : Spot) → l.from + 1 + l.left ≤ i → i < length l.spots.items → l.fn.new.last < (get_or l.spots.items i d).low)
    × (vec_capacity l.initial.spots ≤ vec_capacity l.spots)

abbrev pub decreases-loop-left : goal.decreases-loop-left
decreases-loop-left l = l.left
