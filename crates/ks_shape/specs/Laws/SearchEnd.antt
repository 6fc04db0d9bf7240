-- Where a search ends.
use Rattle.std.proofs.Common.{◌≡◌, ℕ, false, List}
use Rattle.ks_history.specs.declared.Event.{Event}
use Rattle.ks_node.specs.Asks.{IsBelowOwn}
use Rattle.ks_node.specs.Body.{Body, content_of, is_branch}
use Rattle.ks_node.specs.Sound.{Sound as InOrder}
use Rattle.ks_arena.specs.declared.held.Held.{Held as Hand}
use Rattle.ks_arena.specs.Sound.{Sort}
use Rattle.ks_arena.specs.Laws.Writes.{ends_at_no_branch, ends_below_own}
use Rattle.ks_shape.specs.SearchEnd.{IsEnd}

-- the node at which a search ends is no branch, and each edge of its own begins past the place
module _ {N : Type 0} (sort : Sort) (shows : N → Body) (c place : ℕ) (h : List Event) (x : Hand N) (at : IsEnd sort shows c place h x) (order : InOrder (content_of (shows x.body))) where
  pub unbranched : is_branch (shows x.body) ≡ false
  unbranched = ends_at_no_branch (shows x.body) place order at.within.0 at.within.1 at.here

  pub below_own : IsBelowOwn (shows x.body) place
  below_own = ends_below_own (shows x.body) place order at.within.0 at.within.1 at.here
