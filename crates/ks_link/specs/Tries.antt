-- The results of non-blocking searches along links.
use Rattle.std.specs.Prelude.{ℕ, ◌≡◌, ◌+◌, ◌<◌, ◌≤◌, ◌⊎◌, List, [], Option, Some, None, Result, Ok, Err}
use Rattle.ks_history.specs.declared.Event.{Event}
use Rattle.ks_history.specs.declared.Op.{Op}
use Rattle.ks_history.specs.Map.{Touches}
use Rattle.ks_history.specs.Own.{hand}
use Rattle.ks_history.specs.Done.{link_move}
use Rattle.ks_node.specs.Body.{Body, last_of}
use Rattle.ks_arena.specs.declared.held.Held.{Held as Hand}
use Rattle.ks_arena.specs.Sound.{Sort}
use Rattle.ks_shape.specs.declared.answers.Later.{Later}
use Rattle.ks_shape.specs.SearchEnd.{IsEnd}
use Rattle.ks_shape.specs.Tries.{IsCause}
use Rattle.ks_link.specs.declared.parts.Waiting.{Waiting}
use Rattle.ks_link.specs.Descent.{IsOnWay}

-- node b is a step on from node a: one level or more below it, or on its level and further right
abbrev pub IsOnFrom : Body → Body → Type 0
IsOnFrom a b = (b.level < a.level) ⊎ ((b.level ≡ a.level) × (a.low < b.low))

-- the caller holds nothing, and for each operation at the place the cause that put it off from h to k, over n nodes, is due
abbrev pub IsPutOffAt : ℕ → ℕ → ℕ → List Event → List Event → Later → Type 0
IsPutOffAt n c place h k later = (hand c k ≡ []) × ((op : Op) → Touches op place → IsCause link_move n c op h k later)

module _ {N : Type 0} (sort : Sort) (shows : N → Body) where
  -- the search is at the root, and only that is held; or it is put off
  abbrev pub Enters : ℕ → ℕ → ℕ → List Event → List Event → Result (Hand N) Later → Type 0
  Enters n c place h k (Ok x) = IsOnWay sort shows c place k x × (x.node ≡ 0)
  Enters n c place h k (Err later) = IsPutOffAt n c place h k later

  -- it is at node i, a step on from a; or put off
  abbrev pub GoesOn : Body → ℕ → ℕ → ℕ → ℕ → List Event → List Event → Result (Hand N) Later → Type 0
  GoesOn a i n c place h k (Ok x) = IsOnWay sort shows c place k x × IsOnFrom a (shows x.body) × (x.node ≡ i)
  GoesOn a i n c place h k (Err later) = IsPutOffAt n c place h k later

  -- it has ended at a node, and only that is held; or it is put off
  abbrev pub Finds : ℕ → ℕ → ℕ → List Event → List Event → Result (Hand N) Later → Type 0
  Finds n c place h k (Ok x) = IsOnWay sort shows c place k x × IsEnd sort shows c place k x
  Finds n c place h k (Err later) = IsPutOffAt n c place h k later

  -- only the node one level above what was split off, whose range reaches the cut, is held; or nothing is held
  abbrev pub IsHeldAbove : ℕ → Waiting → List Event → Option (Hand N) → Type 0
  IsHeldAbove c w k None = hand c k ≡ []
  IsHeldAbove c w k (Some x) = IsOnWay sort shows c w.cut k x × ((shows x.body).level ≡ w.level + 1) × (w.cut ≤ last_of (shows x.body).range)
