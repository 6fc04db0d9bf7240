-- What a body leads to at a cut at which an edge begins: the node one level below that begins there.
use Rattle.std.proofs.Common.{ℕ, suc, ◌≡◌, ◌<◌, ◌≤◌, ◌⊎◌, inl, inr, true, List, ◌∷◌, Option, Some, refl, ◌∙◌, ap, subst, arith}
use Rattle.std.specs.Prelude.{All, max, nat_le}
use Rattle.std.proofs.lemmas.Bool.{le-leb}
use Rattle.std.proofs.lemmas.List.Elements.{All-filter}
use Rattle.ks_keysets.specs.declared.Edge.{Edge}
use Rattle.ks_keysets.specs.declared.Frame.{Frame}
use Rattle.ks_keysets.specs.declared.Span.{Span}
use Rattle.ks_keysets.specs.declared.NodeState.{NodeState}
use Rattle.ks_keysets.specs.Record.{LeadsTo}
use Rattle.ks_keysets.specs.Keyset.{IsLive, Good}
use Rattle.ks_node.specs.declared.start.Start.{Start}
use Rattle.ks_node.specs.Body.{Body, first_of, last_of, starts_from, begins}
use Rattle.ks_node.specs.Edges.{edges_from, edges_of, link_edge, record_of}
use Rattle.ks_node.specs.Sound.{Framed}
use Rattle.ks_flow.specs.Link.{Link, IsLinkEdge, IsChildEdge}
use Rattle.ks_bodies.specs.Links.{StandsLinked, StandsUnder}
use Rattle.ks_bodies.proofs.Led.{led, led_none, led_parts, Ascend, begins_from}
use Rattle.ks_bodies.proofs.LinkRecords.{range_of, linked_ascend, goes_inside, goes_leads}
use Rattle.ks_bodies.proofs.LinkEdges.{edges_full}
use Rattle.ks_bodies.proofs.LinkStanding.{linked_framed, linked_range}
use Rattle.ks_bodies.proofs.Attach.{all_first}

module _ (g : ℕ → NodeState) (f : ℕ → Frame) (n id cut : ℕ) (b : Body) (good : Good g) (link : Link g f) (stands : StandsLinked g f n b) (under : StandsUnder g f id b.level cut) (within : cut ≤ last_of b.range) where
  abbrev P : List Start
  P = b.starts

  abbrev range : Span
  range = (range_of b stands.linked).0

  has : b.range ≡ Some range
  has = (range_of b stands.linked).1

  framed : Framed range b
  framed = linked_framed b stands.linked

  up_P : Ascend P
  up_P = linked_ascend b stands.linked

  -- the node to which the cut is led is the one below, if that begins at the cut
  same_node : (m : ℕ) → LeadsTo (record_of b) cut m → (f m).low ≡ cut → LeadsTo (record_of b) cut id
  same_node m to low = subst (LeadsTo (record_of b) cut) same to
    where
      edge : IsLinkEdge f n range to.1 ⊎ IsChildEdge f n range to.1
      edge = subst (λ (e : Edge). IsLinkEdge f n range e ⊎ IsChildEdge f n range e) to.3 (link.edges n (record_of b) range stands.has (linked_range g f n b stands) to.0 to.1 to.2)

      level : suc (f m).level ≡ b.level
      level = elim edge [
        | inl l ↦ absurd (omega (arith, l.begins, to.4.0.0, within, ap last_of has))
        | inr c ↦ subst (λ (i : ℕ). suc (f i).level ≡ (f n).level) to.4.1 c.level ∙ ap (λ (z : Frame). z.level) stands.frame
      ]

      live : IsLive g m
      live = subst (IsLive g) (ap (λ (e : Edge). e.node) to.3 ∙ to.4.1) (good.leads n (record_of b) stands.has to.0 to.1 to.2)

      same : m ≡ id
      same =
          let r = link.range m live in
          let q = link.range id under.live in
          link.apart m id r.0 q.0 cut live under.live (omega (arith, level, under.level)) r.1 q.1 (omega (arith, r.1.low, low), omega (arith, r.1.low, r.1.filled, low)) (omega (arith, q.1.low, under.low), omega (arith, q.1.low, q.1.filled, under.low))

  edge_lows : All (λ e. (f e.node).low ≡ e.span.low) (edges_of b)
  edge_lows k d lt = elim (link.edges n (record_of b) range stands.has (linked_range g f n b stands) k d lt) [ inl h ↦ h.low | inr h ↦ h.low ]

  keys : All (λ s. (f s.node).low ≡ max range.low s.low) P
  keys = edges_full (λ s. (f s.node).low ≡ s.low) range.low range.last P framed.ordered up_P framed.upto framed.above
      (subst (λ (o : Option Span). All (λ e. (f e.node).low ≡ e.span.low) (edges_from (first_of o) (last_of o) P)) has
      (all_first (λ e. (f e.node).low ≡ e.span.low) (edges_from (first_of b.range) (last_of b.range) P) (link_edge (last_of b.range) b.link) edge_lows))

  -- an edge begins at the cut
  pub begun_leads : b.low ≤ cut → begins cut P ≡ true → LeadsTo (record_of b) cut id
  begun_leads low is =
      let y = begins_from cut P up_P is in
      let a : nat_le cut cut ≡ true = le-leb _ _ (omega arith) in
      let one : led (record { low = cut; node = y.0 } ∷ y.1) cut ≡ Some y.0 = rw (led_none y.1 cut cut y.3 (omega arith), a) refl in
      let first : led (starts_from cut P) cut ≡ Some y.0 = ap (λ (xs : List Start). led xs cut) y.2 ∙ one in
      let all : led P cut ≡ Some y.0 = led_parts cut P cut up_P ∙ rw first refl in
      let to = goes_leads b stands.linked cut y.0 (omega (arith, framed.low_is, ap first_of has, low)) (omega (arith, within, ap last_of has, framed.ends)) (goes_inside b stands.linked cut within ∙ all) in
      let from : All (λ s. (f s.node).low ≡ max range.low s.low) (record { low = cut; node = y.0 } ∷ y.1) = subst (λ (xs : List Start). All (λ s. (f s.node).low ≡ max range.low s.low) xs) y.2 (All-filter (λ (s : Start). nat_le cut s.low) (λ s. (f s.node).low ≡ max range.low s.low) P keys) in
      same_node y.0 to (omega (arith, from 0 (record { low = cut; node = y.0 }) (omega arith), framed.low_is, low))

  -- the node begins at the cut, above level 0
  pub first_leads : b.low ≡ cut → LeadsTo (record_of b) cut id
  first_leads low =
      let level : 0 < (f n).level = omega (arith, under.level, ap (λ (z : Frame). z.level) stands.frame) in
      let on = link.inside n (record_of b) cut stands.has level (omega (arith, low, ap (λ (z : Frame). z.low) stands.frame)) (omega (arith, within, ap last_of has, framed.ends)) in
      let to : LeadsTo (record_of b) cut on.1.node = (on.0, on.1, on.2, on.3, (on.4, refl)) in
      let edge : IsLinkEdge f n range on.1 ⊎ IsChildEdge f n range on.1 = subst (λ (e : Edge). IsLinkEdge f n range e ⊎ IsChildEdge f n range e) on.3 (link.edges n (record_of b) range stands.has (linked_range g f n b stands) on.0 on.1 on.2) in
      let begin : (f on.1.node).low ≡ cut = elim edge [
        | inl l ↦ absurd (omega (arith, l.begins, on.4.0, within, ap last_of has))
        | inr c ↦ omega (arith, c.low, c.begins, on.4.0, framed.low_is, low)
      ] in
      same_node on.1.node to begin
