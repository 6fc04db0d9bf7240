-- Searches under way under trees.
use Rattle.std.proofs.Common.{◌≡◌, ℕ, true, List, [], ◌∷◌}
use Rattle.ks_keysets.specs.Keyset.{InInset}
use Rattle.ks_history.specs.declared.Event.{Event}
use Rattle.ks_history.specs.Own.{hand}
use Rattle.ks_history.specs.Trace.{graph_after}
use Rattle.ks_node.specs.Body.{Body}
use Rattle.ks_arena.specs.declared.held.Held.{Held as Hand}
use Rattle.ks_arena.specs.Sound.{Sort}
use Rattle.ks_arena.specs.Clauses.{Matches}

-- after h, c, which searches for the place, holds only this node, which is live, and the place is in its inset
pub record IsOnWay {N : Type 0} (sort : Sort) (shows : N → Body) (c place : ℕ) (h : List Event) (x : Hand N) : Type 0 where
  pub alone : hand c h ≡ x.node ∷ []
  pub live : x.live ≡ true
  pub matches : Matches sort shows h x
  pub inside : InInset (graph_after h) x.node place
