-- The results of a put.
use Rattle.std.specs.Prelude.{ℕ, ◌≡◌, ◌⊎◌, List, [], ◌∷◌, ◌++◌, length, Option, Some, None, Result, Ok, Err}
use Rattle.ks_history.specs.Due.{NoneFree}
use Rattle.ks_history.specs.declared.Event.{Event}
use Rattle.ks_node.specs.declared.start.Next.TheVariants.{Here}
use Rattle.ks_node.specs.Body.{Body, next_at}
use Rattle.ks_arena.specs.declared.held.Held.{Held as Hand}
use Rattle.ks_arena.specs.Sound.{Sort}
use Rattle.ks_link.specs.declared.parts.Waiting.{Waiting}
use Rattle.ks_link.specs.Descent.{IsOnWay}

-- the new one waits after those that wait, unless seven do
abbrev pub WaitsFor : List Waiting → List Waiting → Option Waiting → Type 0
WaitsFor ws vs None = vs ≡ ws
WaitsFor ws vs (Some w) = (vs ≡ ws ++ w ∷ []) ⊎ ((length ws ≡ 7) × (vs ≡ ws))

module _ {N : Type 0} (sort : Sort) (shows : N → Body) where
  -- x was split, and the search has ended at the half y; or it has ended at x as before, and no node was found free
  abbrev pub MadeRoom : ℕ → ℕ → ℕ → List Event → List Event → Hand N → Result (Hand N) (Hand N) → Type 0
  MadeRoom n c place h k x (Ok y) = IsOnWay sort shows c place k y × (next_at (shows y.body) place ≡ Here)
  MadeRoom n c place h k x (Err y) = (y ≡ x) × IsOnWay sort shows c place k x × NoneFree sort.layout n c place h k
