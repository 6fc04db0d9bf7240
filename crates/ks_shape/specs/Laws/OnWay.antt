-- Searches under way under trees.
use Rattle.std.proofs.Common.{◌≡◌, ℕ, ◌≤◌, false, List, ap, arith}
use Rattle.std.specs.Prelude.{Option, Some, None}
use Rattle.ks_keysets.specs.declared.Frame.{Frame}
use Rattle.ks_keysets.specs.declared.Span.{Span}
use Rattle.ks_keysets.specs.Record.{top}
use Rattle.ks_history.specs.declared.Event.{Event}
use Rattle.ks_history.specs.Trace.{graph_after}
use Rattle.ks_history.specs.Frames.{frame_after}
use Rattle.ks_flow.specs.Tree.{Tree}
use Rattle.ks_node.specs.declared.start.Next.TheVariants.{Here}
use Rattle.ks_node.specs.Body.{Body, content_of, first_of, is_branch, last_of, next_at}
use Rattle.ks_node.specs.Edges.{record_of}
use Rattle.ks_node.specs.Sound.{Sound as InOrder}
use Rattle.ks_arena.specs.declared.held.Held.{Held as Hand}
use Rattle.ks_arena.specs.Sound.{Sort, blank_of}
use Rattle.ks_arena.specs.Laws.Writes.{ends_at_no_branch}
use Rattle.ks_shape.specs.SearchEnd.{IsEnd}
use Rattle.ks_shape.specs.Laws.Single.{shown, record_is}
use Rattle.ks_shape.specs.OnWay.{IsOnWay}

module _ {N : Type 0} (sort : Sort) (shows : N → Body) where
  -- where a search ends, the place is in the range of the node: its range, if it has one, is its inset
  module _ (c p : ℕ) (h : List Event) (x : Hand N) (way : IsOnWay sort shows c p h x) (facts : Tree (graph_after h) (frame_after (blank_of sort) h)) (place : p ≤ top) where
    held_in : (o : Option Span) → (frame_after (blank_of sort) h x.node).range ≡ o → (first_of o ≤ p) × (p ≤ last_of o)
    held_in None e = (omega arith, omega (arith, place))
    held_in (Some r) e = (facts.range x.node r (record_of (shows x.body), record_is sort shows h x way.live way.matches) e).forth p way.inside

    ranged : (first_of (shows x.body).range ≤ p) × (p ≤ last_of (shows x.body).range)
    ranged = held_in (shows x.body).range (ap (λ (f : Frame). f.range) (shown sort shows h x way.live way.matches).1)

    pub ends_here : next_at (shows x.body) p ≡ Here → IsEnd sort shows c p h x
    ends_here here = record { alone = way.alone; live = way.live; matches = way.matches; inside = way.inside; within = ranged; here = here }

    -- so it is no branch
    pub ends_unbranched : InOrder (content_of (shows x.body)) → next_at (shows x.body) p ≡ Here → is_branch (shows x.body) ≡ false
    ends_unbranched order here = ends_at_no_branch (shows x.body) p order ranged.0 ranged.1 here
