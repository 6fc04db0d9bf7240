-- The results of a visit of a node, and of a search for room.
use Rattle.std.specs.Prelude.{ℕ, ◌≡◌, List, [], Option, Some, None}
use Rattle.ks_history.specs.declared.Event.{Event}
use Rattle.ks_history.specs.Own.{hand}
use Rattle.ks_node.specs.Body.{Body}
use Rattle.ks_arena.specs.declared.held.Held.{Held as Hand}
use Rattle.ks_arena.specs.Sound.{Sort}
use Rattle.ks_shape.specs.OnWay.{IsOnWay}
use Rattle.ks_shape.specs.SearchEnd.{HasRoom}

-- c holds nothing, or a node on its search path to the place
abbrev pub Came : {N : Type 0} → Sort → (N → Body) → ℕ → ℕ → List Event → Option (Hand N) → Type 0
Came sort shows c place h None = hand c h ≡ []
Came sort shows c place h (Some x) = IsOnWay sort shows c place h x

-- c holds nothing, or the node where its search has ended, which has the place or room for it
abbrev pub CameToRoom : {N : Type 0} → Sort → (N → Body) → ℕ → ℕ → List Event → Option (Hand N) → Type 0
CameToRoom sort shows c place h None = hand c h ≡ []
CameToRoom sort shows c place h (Some x) = HasRoom sort shows c place h x
