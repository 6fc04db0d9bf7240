-- How a search along links goes on.
use Rattle.std.proofs.Common.{◌≡◌, ℕ, ◌<◌, ◌≤◌, true, false, List, [], ◌∷◌, length, sym, refl, ap, ◌∙◌, subst, inl, inr, arith}
use Rattle.std.specs.Prelude.{◌⊎◌, Option, Some, None, All, max}
use Rattle.std.specs.Option.{ForSome}
use Rattle.ks_keysets.specs.declared.Edge.{Edge}
use Rattle.ks_keysets.specs.declared.Frame.{Frame}
use Rattle.ks_keysets.specs.declared.Span.{Span}
use Rattle.ks_keysets.specs.Record.{LeadsOn, top}
use Rattle.ks_keysets.specs.Keyset.{record_at, IsLive, Good, InInset}
use Rattle.ks_history.specs.declared.Event.{Event}
use Rattle.ks_history.specs.Own.{hand}
use Rattle.ks_history.specs.Trace.{graph_after}
use Rattle.ks_history.specs.Frames.{frame_after}
use Rattle.ks_flow.specs.Link.{Link}
use Rattle.ks_node.specs.declared.start.Next.TheVariants.{Here}
use Rattle.ks_node.specs.Body.{Body, content_of, first_of, is_branch, last_of, next_at}
use Rattle.ks_node.specs.Edges.{record_of}
use Rattle.ks_node.specs.Sound.{Sound as InOrder, Framed}
use Rattle.ks_node.specs.declared.start.Start.{Start}
use Rattle.ks_flow.specs.Link.{IsRange, IsLinkEdge, IsChildEdge}
use Rattle.ks_node.specs.Laws.Ways.{here_stays, stays_here, below_own}
use Rattle.ks_arena.specs.declared.held.Held.{Held as Hand}
use Rattle.ks_arena.specs.Sound.{Sort, blank_of}
use Rattle.ks_arena.specs.Clauses.{HasTaken, Matches}
use Rattle.ks_arena.specs.Laws.Writes.{ends_at_no_branch}
use Rattle.ks_shape.specs.Laws.Single.{shown, record_is}
use Rattle.ks_shape.specs.OnWay.{IsOnWay as IsReached}
use Rattle.ks_shape.specs.SearchEnd.{IsEnd}
use Rattle.ks_link.specs.Descent.{IsOnWay}
use Rattle.ks_link.proofs.Places.{root_low, range_holds, level_zero, ends_in_keyset}

module _ {N : Type 0} (sort : Sort) (shows : N → Body) where
  abbrev frames : List Event → ℕ → Frame
  frames h = frame_after (blank_of sort) h

  -- a node is taken that is not above the place
  pub arrives : (c p i : ℕ) (h k : List Event) (x : Hand N) → hand c h ≡ [] → HasTaken sort shows c i h k x → (frames k i).low ≤ p → IsOnWay sort shows c p k x
  arrives c p i h k x empty took low = record {
    alone = took.hand ∙ ap (λ (z : List ℕ). i ∷ z) empty ∙ ap (λ (z : ℕ). z ∷ []) (sym took.node);
    live = took.live;
    matches = took.matches;
    low = omega (arith, subst (λ (z : ℕ). (frames k z).low ≤ p) (sym took.node) low, ap (λ (f : Frame). f.low) (shown sort shows k x took.live took.matches).1);
  }

  -- the root is not above the place
  pub root_arrives : (c p : ℕ) (k : List Event) (x : Hand N) → IsReached sort shows c p k x → x.node ≡ 0 → Link (graph_after k) (frames k) → IsOnWay sort shows c p k x
  root_arrives c p k x way root facts =
      let live : IsLive (graph_after k) 0 = (record_of (shows x.body), ap (λ (i : ℕ). record_at (graph_after k) i) (sym root) ∙ record_is sort shows k x way.live way.matches) in
      record {
        alone = way.alone;
        live = way.live;
        matches = way.matches;
        low = omega (arith, root_low (graph_after k) (frames k) facts live, ap (λ (i : ℕ). (frames k i).low) root, ap (λ (f : Frame). f.low) (shown sort shows k x way.live way.matches).1);
      }

  -- a search ends at a node on level 0 whose range reaches the place
  pub leaf_ends : (p : ℕ) (h : List Event) (x : Hand N) → x.live ≡ true → Matches sort shows h x → Link (graph_after h) (frames h) → p ≤ top → InOrder (content_of (shows x.body)) → (shows x.body).level ≡ 0 → p ≤ last_of (shows x.body).range → next_at (shows x.body) p ≡ Here
  leaf_ends p h x live matches facts place order level within =
      let is = record_is sort shows h x live matches in
      let frame = (shown sort shows h x live matches).1 in
      let range = facts.range x.node (record_of (shows x.body), is) in
      let has : (shows x.body).range ≡ Some range.0 = sym (ap (λ (f : Frame). f.range) frame) ∙ range.1.is in
      let last : last_of (shows x.body).range ≡ range.0.last = ap last_of has in
      stays_here (shows x.body) p order place (λ on.
      let edge : IsLinkEdge (frames h) x.node range.0 on.1 ⊎ IsChildEdge (frames h) x.node range.0 on.1 = subst (λ (e : Edge). IsLinkEdge (frames h) x.node range.0 e ⊎ IsChildEdge (frames h) x.node range.0 e) on.3 (facts.edges x.node (record_of (shows x.body)) range.0 is range.1 on.0 on.1 on.2) in
      elim edge [ inl l ↦ omega (arith, l.begins, on.4.0, within, last) | inr d ↦ omega (arith, d.level, level, ap (λ (f : Frame). f.level) frame) ])

  -- at the end of a search the place is in the keyset of the node, which is no branch
  module _ (c p : ℕ) (h : List Event) (x : Hand N) (way : IsOnWay sort shows c p h x) (facts : Link (graph_after h) (frames h)) (place : p ≤ top) (order : InOrder (content_of (shows x.body))) (here : next_at (shows x.body) p ≡ Here) where
    off : LeadsOn (record_of (shows x.body)) p → ⊥
    off = here_stays (shows x.body) p order here

    low_at : (frames h x.node).low ≤ p
    low_at = omega (arith, way.low, ap (λ (f : Frame). f.low) (shown sort shows h x way.live way.matches).1)

    ends_inside : Good (graph_after h) → InInset (graph_after h) x.node p
    ends_inside good = (ends_in_keyset (graph_after h) (frames h) facts good x.node p (record_of (shows x.body)) (record_is sort shows h x way.live way.matches) low_at place off).0

    held_in : (o : Option Span) → (frames h x.node).range ≡ o → (first_of o ≤ p) × (p ≤ last_of o)
    held_in None e = (omega arith, omega (arith, place))
    held_in (Some s) e =
        let range = facts.range x.node (record_of (shows x.body), record_is sort shows h x way.live way.matches) in
        let same : Some range.0 ≡ Some s = sym range.1.is ∙ e in
        let is : range.0 ≡ s = cc in
        subst (λ (z : Span). (z.low ≤ p) × (p ≤ z.last)) is (range_holds (graph_after h) (frames h) facts x.node p (record_of (shows x.body)) (record_is sort shows h x way.live way.matches) low_at place off range.0 range.1)

    pub ends_here : Good (graph_after h) → IsEnd sort shows c p h x
    ends_here good = record {
      alone = way.alone;
      live = way.live;
      matches = way.matches;
      inside = ends_inside good;
      within = held_in (shows x.body).range (ap (λ (f : Frame). f.range) (shown sort shows h x way.live way.matches).1);
      here = here;
    }

    pub ends_unbranched : is_branch (shows x.body) ≡ false
    ends_unbranched = let at = held_in (shows x.body).range (ap (λ (f : Frame). f.range) (shown sort shows h x way.live way.matches).1) in ends_at_no_branch (shows x.body) p order at.0 at.1 here

    pub ends_within : p ≤ last_of (shows x.body).range
    ends_within = (held_in (shows x.body).range (ap (λ (f : Frame). f.range) (shown sort shows h x way.live way.matches).1)).1

    pub at_level : (frames h x.node).level ≡ 0
    at_level = level_zero (graph_after h) (frames h) facts x.node p (record_of (shows x.body)) (record_is sort shows h x way.live way.matches) low_at place off

    -- no edge carries a place of its range
    off_inside : (s : Span) → IsRange (frames h x.node) s → (q : ℕ) → q ≤ s.last → LeadsOn (record_of (shows x.body)) q → ⊥
    off_inside s range q upto on =
        let edge : IsLinkEdge (frames h) x.node s on.1 ⊎ IsChildEdge (frames h) x.node s on.1 = subst (λ (e : Edge). IsLinkEdge (frames h) x.node s e ⊎ IsChildEdge (frames h) x.node s e) on.3 (facts.edges x.node (record_of (shows x.body)) s (record_is sort shows h x way.live way.matches) range on.0 on.1 on.2) in
        elim edge [ inl l ↦ omega (arith, l.begins, on.4.0, upto) | inr d ↦ omega (arith, d.level, at_level) ]

    -- the node has no edge of its own
    module _ (framed : ForSome (shows x.body).range (λ r. Framed r (shows x.body))) where
      ranged : (s : Span) × IsRange (frames h x.node) s
      ranged = facts.range x.node (record_of (shows x.body), record_is sort shows h x way.live way.matches)

      has : (shows x.body).range ≡ Some ranged.0
      has = sym (ap (λ (f : Frame). f.range) (shown sort shows h x way.live way.matches).1) ∙ ranged.1.is

      none : (ss : List Start) → (shows x.body).starts ≡ ss → length ss ≡ 0
      none [] is = refl
      none (s ∷ ss) is =
          let b : Body = shows x.body in
          let r : Span = ranged.0 in
          let frame : Framed r b = framed r has in
          let first : first_of b.range ≡ r.low = ap first_of has in
          let last : last_of b.range ≡ r.last = ap last_of has in
          let upto : s.low ≤ r.last = subst (λ (z : List Start). All (λ t. t.low ≤ r.last) z) is frame.upto 0 s (omega arith) in
          let q : ℕ = max r.low s.low in
          let within : q ≤ r.last = omega (arith, upto, frame.ordered) in
          let stays : next_at b q ≡ Here = stays_here b q order (omega (arith, within, frame.ends)) (off_inside r ranged.1 q within) in
          let above : All (λ t. q < t.low) b.starts = below_own b q order (omega (arith, first)) (omega (arith, within, last)) stays in
          let lt : q < s.low = subst (λ (z : List Start). All (λ t. q < t.low) z) is above 0 s (omega arith) in
          absurd (omega (arith, lt))

      pub ends_bare : length (shows x.body).starts ≡ 0
      ends_bare = none (shows x.body).starts refl

  -- the search for each place from there to the end of the range ends there too
  pub ends_along : (c p q : ℕ) (h : List Event) (x : Hand N) → IsOnWay sort shows c p h x → Link (graph_after h) (frames h) → InOrder (content_of (shows x.body)) → next_at (shows x.body) p ≡ Here → Good (graph_after h) → p ≤ q → q ≤ last_of (shows x.body).range → IsEnd sort shows c q h x
  ends_along c p q h x way facts order here good from upto =
      let on : IsOnWay sort shows c q h x = record { alone = way.alone; live = way.live; matches = way.matches; low = omega (arith, way.low, from) } in
      let frame = (shown sort shows h x way.live way.matches).1 in
      let range = facts.range x.node (record_of (shows x.body), record_is sort shows h x way.live way.matches) in
      let has : (shows x.body).range ≡ Some range.0 = sym (ap (λ (f : Frame). f.range) frame) ∙ range.1.is in
      let place : q ≤ top = omega (arith, upto, ap last_of has, range.1.last) in
      let level : (shows x.body).level ≡ 0 = sym (ap (λ (f : Frame). f.level) frame) ∙ at_level c p h x way facts (omega (arith, from, place)) order here in
      ends_here c q h x on facts place order (leaf_ends q h x way.live way.matches facts place order level upto) good
