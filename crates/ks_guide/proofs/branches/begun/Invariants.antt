use Rattle.std.proofs.Common.{ℕ, ◌<◌, ◌≤◌, ◌+◌, length, get_or}
use Rattle.ks_guide.specs.declared.spot.Spot.{Spot}
use Rattle.ks_guide.proofs.branches.begun.Given as goal

abbrev pub invariant-loop-left : goal.invariant-loop-left
invariant-loop-left l =
    (l.begun + l.left ≤ length l.spots)
    × ((i : ℕ) (d : Spot) → i < l.begun → (get_or l.spots i d).low ≤ l.place)
    × ((i : ℕ) (d : Spot) → l.begun + l.left ≤ i → i < length l.spots → l.place < (get_or l.spots i d).low)

abbrev pub decreases-loop-left : goal.decreases-loop-left
decreases-loop-left l = l.left
