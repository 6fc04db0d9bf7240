-- Where searches along links are.
use Rattle.std.specs.Prelude.{ℕ, ◌≡◌, ◌≤◌, List, [], ◌∷◌, true}
use Rattle.ks_history.specs.declared.Event.{Event}
use Rattle.ks_history.specs.Own.{hand}
use Rattle.ks_node.specs.Body.{Body}
use Rattle.ks_arena.specs.declared.held.Held.{Held as Hand}
use Rattle.ks_arena.specs.Sound.{Sort}
use Rattle.ks_arena.specs.Clauses.{Matches}

-- after h, c, which searches for the place, holds only this live node, and the place is not below it
pub record IsOnWay {N : Type 0} (sort : Sort) (shows : N → Body) (c place : ℕ) (h : List Event) (x : Hand N) : Type 0 where
  pub alone : hand c h ≡ x.node ∷ []
  pub live : x.live ≡ true
  pub matches : Matches sort shows h x
  pub low : (shows x.body).low ≤ place
