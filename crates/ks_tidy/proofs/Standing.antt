-- What held nodes are in the graph, and what stays of it.
use Rattle.std.proofs.Common.{◌≡◌, ◌≤◌, ℕ, true, false, List, sym, ap, ◌∙◌, subst, arith}
use Rattle.std.specs.Prelude.{Option, Some, None, Any}
use Rattle.std.specs.Option.{ForSome}
use Rattle.ks_keysets.specs.declared.Edge.{Edge}
use Rattle.ks_keysets.specs.declared.Frame.{Frame}
use Rattle.ks_keysets.specs.declared.Kind.{Kind}
use Rattle.ks_keysets.specs.declared.NodeState.{NodeState}
use Rattle.ks_keysets.specs.declared.Record.{Record}
use Rattle.ks_keysets.specs.declared.Span.{Span}
use Rattle.ks_keysets.specs.Record.{LeadsOn, top}
use Rattle.ks_keysets.specs.Keyset.{record_at, Good, InInset, InKeyset, IsLive}
use Rattle.ks_keysets.specs.Reframed.{SameNodes}
use Rattle.ks_keysets.specs.Layout.{Layout}
use Rattle.ks_keysets.specs.Tight.{chained, beside, Fit, HasOwnEdge, IsRightNeighbour, FitsNoRight}
use Rattle.ks_history.specs.declared.Event.{Event}
use Rattle.ks_history.specs.Trace.{graph_after}
use Rattle.ks_history.specs.Frames.{frame_after}
use Rattle.ks_flow.specs.Tree.{Tree}
use Rattle.ks_node.specs.declared.start.Next.TheVariants.{Here}
use Rattle.ks_node.specs.Body.{Body, content_of, first_of, is_branch, last_of, next_at}
use Rattle.ks_node.specs.Edges.{record_of}
use Rattle.ks_node.specs.Laws.Ways.{here_stays}
use Rattle.ks_node.specs.Sound.{Sound as InOrder, Framed}
use Rattle.ks_bodies.specs.Stands.{IsPlain, Stands}
use Rattle.ks_arena.specs.declared.held.Held.{Held as Hand}
use Rattle.ks_arena.specs.Sound.{Sort, blank_of}
use Rattle.ks_arena.specs.Clauses.{Matches}
use Rattle.ks_arena.specs.Laws.Writes.{ends_at_no_branch}
use Rattle.ks_shape.specs.Laws.Single.{shown, record_is}

pub plain : (b : Body) → InOrder (content_of b) → ForSome b.range (λ r. Framed r b) → b.link ≡ None → IsPlain b
plain b sound framed no_link = record { sound = sound; framed = framed; no_link = no_link }

-- the graph and frame of a live node that is held are those that its body shows
pub stands_now : {N : Type 0} (sort : Sort) (shows : N → Body) (h : List Event) (x : Hand N) → x.live ≡ true → Matches sort shows h x → IsPlain (shows x.body) → Stands (graph_after h) (frame_after (blank_of sort) h) x.node (shows x.body)
stands_now sort shows h x live matches is = record { has = record_is sort shows h x live matches; frame = (shown sort shows h x live matches).1; plain = is }

-- an edge leads to a live node
pub edge_live : (g : ℕ → NodeState) (n m : ℕ) (r : Record) → Good g → record_at g n ≡ Some r → Any (λ (e : Edge). e.node ≡ m) r.edges → IsLive g m
edge_live g n m r good is to = subst (IsLive g) (ap (λ (e : Edge). e.node) to.3 ∙ to.4) (good.leads n r is to.0 to.1 to.2)

-- that a node fits with no right neighbour goes over to a graph with the same nodes
module _ (layout : Layout) (g k : ℕ → NodeState) (f h : ℕ → Frame) (same : SameNodes g f k h) where
  right_back : (n m : ℕ) → IsRightNeighbour k h n m → IsRightNeighbour g f n m
  right_back n m (chained r is own to) = chained r (sym (same.records n) ∙ is) (subst (λ (x : Frame). HasOwnEdge x r) (same.frames n) own) to
  right_back n m (beside r a s is none is' branch next) = beside r a s (sym (same.records n) ∙ is) (λ own. none (subst (λ (x : Frame). HasOwnEdge x r) (sym (same.frames n)) own)) (sym (same.records a) ∙ is') (λ e. branch (ap (λ (x : Frame). x.kind) (same.frames a) ∙ e)) next

  pub fits_along : (n : ℕ) → FitsNoRight layout g f n → FitsNoRight layout k h n
  fits_along n none m r s right is is' fit = none m r s (right_back n m right) (sym (same.records n) ∙ is) (sym (same.records m) ∙ is')
      (subst (λ (x : Kind). Fit layout x r (f m).kind s) (ap (λ (x : Frame). x.kind) (same.frames n)) (subst (λ (x : Kind). Fit layout (h n).kind r x s) (ap (λ (x : Frame). x.kind) (same.frames m)) fit))

-- the place is in the keyset of the node at which the search for it ends
pub keyset_here : {N : Type 0} (sort : Sort) (shows : N → Body) (p : ℕ) (h : List Event) (x : Hand N) → x.live ≡ true → Matches sort shows h x → InOrder (content_of (shows x.body)) → InInset (graph_after h) x.node p → next_at (shows x.body) p ≡ Here → InKeyset (graph_after h) x.node p
keyset_here sort shows p h x live matches order inside here = (inside, λ out. let is = record_is sort shows h x live matches in let q : Some out.0 ≡ Some (record_of (shows x.body)) = sym out.1 ∙ is in let same : out.0 ≡ record_of (shows x.body) = cc in here_stays (shows x.body) p order here (subst (λ (r : Record). LeadsOn r p) same out.2))

-- a live node at which the search ends is no branch: its range, if it has one, is its inset
module _ {N : Type 0} (sort : Sort) (shows : N → Body) (p : ℕ) (h : List Event) (x : Hand N) (live : x.live ≡ true) (matches : Matches sort shows h x) (inside : InInset (graph_after h) x.node p) (facts : Tree (graph_after h) (frame_after (blank_of sort) h)) (place : p ≤ top) (order : InOrder (content_of (shows x.body))) (here : next_at (shows x.body) p ≡ Here) where
  held_in : (o : Option Span) → (frame_after (blank_of sort) h x.node).range ≡ o → (first_of o ≤ p) × (p ≤ last_of o)
  held_in None e = (omega arith, omega (arith, place))
  held_in (Some r) e = (facts.range x.node r (record_of (shows x.body), record_is sort shows h x live matches) e).forth p inside

  pub no_branch : is_branch (shows x.body) ≡ false
  no_branch = let b : Body = shows x.body in let is = shown sort shows h x live matches in let at = held_in b.range (ap (λ (f : Frame). f.range) is.1) in ends_at_no_branch b p order at.0 at.1 here
