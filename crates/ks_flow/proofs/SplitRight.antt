-- A node that splits to its right keeps ways and the facts of links.
use Rattle.ks_keysets.specs.declared.Record.{Record}
use Rattle.ks_keysets.specs.declared.Frame.{Frame}
use Rattle.std.proofs.Common.{ℕ, suc, ◌≡◌, ◌<◌, ◌≤◌, ◌-◌, ◌⊎◌, inl, inr, true, List, [], ◌∷◌, get_or, Some, refl, sym, ◌∙◌, ap, subst, arith}
use Rattle.std.specs.Prelude.{All}
use Rattle.ks_keysets.specs.declared.Edge.{Edge}
use Rattle.ks_keysets.specs.declared.NodeState.{NodeState}
use Rattle.ks_keysets.specs.declared.Span.{Span}
use Rattle.ks_keysets.specs.Record.{IsPlace, Holds, LeadsOn, LeadsTo}
use Rattle.ks_keysets.specs.Keyset.{record_at, IsLive, Good}
use Rattle.ks_flow.specs.Ways.{names, KeepsWays}
use Rattle.ks_flow.specs.Tree.{ActsAs}
use Rattle.ks_flow.specs.Shapes.{SplitsOff}
use Rattle.ks_flow.specs.Link.{Link, IsRange, IsLinkEdge, IsChildEdge, IsPartOf, KeepsLink, SplitsRight, IsLed}
use Rattle.ks_keysets.specs.Laws.Next.{leads_on, leads_where}
use Rattle.ks_flow.proofs.Entries.{keeps_ways}
use Rattle.ks_flow.proofs.Edges.{same_or_apart, out_of}
use Rattle.ks_flow.proofs.Splits.{split_entry}
use Rattle.ks_flow.proofs.Trees.{below_or_from, by_name2, at_record, live_apart}
use Rattle.ks_flow.proofs.Links.{edge_at, low_reached, same_range}
use Rattle.ks_flow.proofs.Attached.{edge_along}

module _ (g k : ℕ → NodeState) (f h : ℕ → Frame) (node right cut : ℕ) (range : Span) (r s t : Record) (good : Good g) (link : Link g f) (x : SplitsRight g k f h node right cut range r s t) where
  abbrev R : List ℕ
  R = node ∷ right ∷ []

  -- the node, the new one, or one outside
  abbrev Which : ℕ → Type 0
  Which n = (n ≡ node) ⊎ ((n ≡ right) ⊎ ((record_at k n ≡ record_at g n) × (h n ≡ f n)))

  which : (n : ℕ) → Which n
  which n = elim (same_or_apart n node) [
    | inl e ↦ inl e
    | inr a ↦ elim (same_or_apart n right) [
      | inl e ↦ inr (inl e)
      | inr b ↦ (let out = out_of node (right ∷ []) n a (out_of right [] n b refl) in inr (inr (x.differs.same n out, x.frames.same n out)))
    ]
  ]

  not_right : (n : ℕ) → IsLive g n → n ≡ right → ⊥
  not_right n live e = live_apart g n right live.0 live.1 x.fresh e

  live_on : (n : ℕ) → IsLive g n → IsLive k n
  live_on n live = elim (which n) [
    | inl e ↦ (s, ap (λ (m : ℕ). record_at k m) e ∙ x.after)
    | inr w ↦ elim w [ inl e ↦ absurd (not_right n live e) | inr same ↦ (live.0, same.0 ∙ live.1) ]
  ]

  live_right : IsLive k right
  live_right = (t, x.after_right)

  low_on : (n : ℕ) → IsLive g n → (h n).low ≡ (f n).low
  low_on n live = elim (which n) [
    | inl e ↦ ap (λ (m : ℕ). (h m).low) e ∙ x.low ∙ ap (λ (m : ℕ). (f m).low) (sym e)
    | inr w ↦ elim w [ inl e ↦ absurd (not_right n live e) | inr same ↦ ap (λ (z : Frame). z.low) same.1 ]
  ]

  level_on : (n : ℕ) → IsLive g n → (h n).level ≡ (f n).level
  level_on n live = elim (which n) [
    | inl e ↦ ap (λ (m : ℕ). (h m).level) e ∙ x.level ∙ ap (λ (m : ℕ). (f m).level) (sym e)
    | inr w ↦ elim w [ inl e ↦ absurd (not_right n live e) | inr same ↦ ap (λ (z : Frame). z.level) same.1 ]
  ]

  root_frame : h 0 ≡ f 0
  root_frame = x.frames.same 0 (out_of node (right ∷ []) 0 (λ e. x.no_root (sym e)) (out_of right [] 0 (not_right 0 good.root) refl))

  range_node : IsRange (h node) (record { low = range.low; last = cut - 1 })
  range_node = record { is = x.range_after; low = x.is_range.low ∙ sym x.low; filled = omega (arith, x.above); last = omega (arith, x.within, x.is_range.last) }

  range_new : IsRange (h right) (record { low = cut; last = range.last })
  range_new = record { is = x.range_right; low = sym x.low_right; filled = x.within; last = x.is_range.last }

  -- where a live node's range comes from
  abbrev Old : ℕ → Span → Type 0
  Old n a = (m : ℕ) × (b : Span) × IsLive g m × IsRange (f m) b × ((h n).level ≡ (f m).level) × ((p : ℕ) → Holds a p → Holds b p) ×
      (((n ≡ m) × (n ≡ node → (p : ℕ) → Holds a p → p < cut)) ⊎ ((n ≡ right) × (m ≡ node) × ((p : ℕ) → Holds a p → cut ≤ p)))

  old : (n : ℕ) (a : Span) → IsLive k n → IsRange (h n) a → Old n a
  old n a live is = go (which n)
    where
      at_node : (a : Span) → a ≡ record { low = range.low; last = cut - 1 } → Old node a
      at_node a e =
          let low : a.low ≡ range.low = ap (λ (z : Span). z.low) e in
          let last : a.last ≡ cut - 1 = ap (λ (z : Span). z.last) e in
          (node, range, (r, x.before), x.is_range, x.level, (λ p o. (omega (arith, o.0), omega (arith, o.1, x.within, x.above))), inl (refl, λ _ p o. omega (arith, o.1, x.above)))

      at_right : (a : Span) → a ≡ record { low = cut; last = range.last } → Old right a
      at_right a e =
          let low : a.low ≡ cut = ap (λ (z : Span). z.low) e in
          let last : a.last ≡ range.last = ap (λ (z : Span). z.last) e in
          (node, range, (r, x.before), x.is_range, x.level_right, (λ p o. (omega (arith, o.0, x.above), omega (arith, o.1))), inr (refl, refl, λ p o. omega (arith, o.0)))

      go : Which n → Old n a
      go (inl e) = subst (λ (m : ℕ). Old m a) (sym e) (at_node a (same_range (h node) a _ (subst (λ (m : ℕ). IsRange (h m) a) e is) range_node))
      go (inr (inl e)) = subst (λ (m : ℕ). Old m a) (sym e) (at_right a (same_range (h right) a _ (subst (λ (m : ℕ). IsRange (h m) a) e is) range_new))
      go (inr (inr same)) =
          let is' : IsRange (f n) a = subst (λ (z : Frame). IsRange z a) same.1 is in
          (n, a, (live.0, sym same.0 ∙ live.1), is', ap (λ (z : Frame). z.level) same.1, (λ p o. o), inl (refl, λ e p o. absurd (no_old e)))
        where
          no_old : n ≡ node → ⊥
          no_old e =
              let b : IsRange (f node) a = subst (λ (m : ℕ). IsRange (f m) a) e (subst (λ (z : Frame). IsRange z a) same.1 is) in
              let c : IsRange (h node) a = subst (λ (m : ℕ). IsRange (h m) a) e is in
              let d : range.last ≡ a.last = ap (λ (z : Span). z.last) (same_range (f node) range a x.is_range b) in
              let e' : a.last ≡ cut - 1 = ap (λ (z : Span). z.last) (same_range (h node) a _ c range_node) in
              omega (arith, x.within, x.above)

  apart_after : (n m : ℕ) (a b : Span) (p : ℕ) → IsLive k n → IsLive k m → (h n).level ≡ (h m).level → IsRange (h n) a → IsRange (h m) b → Holds a p → Holds b p → n ≡ m
  apart_after n m a b p l l' e ra rb ha hb =
      let y = old n a l ra in
      let z = old m b l' rb in
      go y.0 z.0 y.6 z.6 (link.apart y.0 z.0 y.1 z.1 p y.2 z.2 (sym y.4 ∙ e ∙ z.4) y.3 z.3 (y.5 p ha) (z.5 p hb))
    where
      go : (i j : ℕ) → (((n ≡ i) × (n ≡ node → (p : ℕ) → Holds a p → p < cut)) ⊎ ((n ≡ right) × (i ≡ node) × ((p : ℕ) → Holds a p → cut ≤ p))) → (((m ≡ j) × (m ≡ node → (p : ℕ) → Holds b p → p < cut)) ⊎ ((m ≡ right) × (j ≡ node) × ((p : ℕ) → Holds b p → cut ≤ p))) → i ≡ j → n ≡ m
      go i j (inl y) (inl z) same = y.0 ∙ same ∙ sym z.0
      go i j (inl y) (inr z) same = absurd (omega (arith, y.1 (y.0 ∙ same ∙ z.1) p ha, z.2 p hb))
      go i j (inr y) (inl z) same = absurd (omega (arith, z.1 (z.0 ∙ sym same ∙ y.1) p hb, y.2 p ha))
      go i j (inr y) (inr z) same = y.0 ∙ sym z.0

  abbrev Covered : ℕ → ℕ → Type 0
  Covered l p = (n : ℕ) × IsLive k n × ((h n).level ≡ l) × (a : Span) × IsRange (h n) a × Holds a p

  cover_after : (l p : ℕ) → l ≤ (h 0).level → IsPlace p → Covered l p
  cover_after l p le place =
      let c = link.cover l p (omega (arith, le, ap (λ (z : Frame). z.level) root_frame)) place in
      go c.0 c.1 c.2 c.3 c.4 c.5 (which c.0)
    where
      go : (n : ℕ) → IsLive g n → (f n).level ≡ l → (a : Span) → IsRange (f n) a → Holds a p → Which n → Covered l p
      go n live level a is o (inl e) =
          let same : a ≡ range = same_range (f node) a range (subst (λ (m : ℕ). IsRange (f m) a) e is) x.is_range in
          let low : a.low ≡ range.low = ap (λ (z : Span). z.low) same in
          let last : a.last ≡ range.last = ap (λ (z : Span). z.last) same in
          let level' : (f node).level ≡ l = ap (λ (m : ℕ). (f m).level) (sym e) ∙ level in
          elim (below_or_from p cut) [
            | inl lt ↦ (node, (s, x.after), x.level ∙ level', record { low = range.low; last = cut - 1 }, range_node, (omega (arith, o.0), omega (arith, lt)))
            | inr ge ↦ (right, live_right, x.level_right ∙ level', record { low = cut; last = range.last }, range_new, (ge, omega (arith, o.1)))
          ]
      go n live level a is o (inr (inl e)) = absurd (not_right n live e)
      go n live level a is o (inr (inr same)) = (n, live_on n live, ap (λ (z : Frame). z.level) same.1 ∙ level, a, subst (λ (z : Frame). IsRange z a) (sym same.1) is, o)

  abbrev EdgeOf : ℕ → Span → Edge → Type 0
  EdgeOf n a e = IsLinkEdge h n a e ⊎ IsChildEdge h n a e

  -- a part of an edge of the node before
  part_edge : (e : Edge) → IsPartOf r e → (d : Edge) × ((d.node ≡ e.node) × (d.span.low ≡ e.span.low) × (e.span.last ≤ d.span.last)) × ((IsLinkEdge f node range d ⊎ IsChildEdge f node range d) × IsLive g d.node)
  part_edge e part = edge_at r.edges (λ d. (IsLinkEdge f node range d ⊎ IsChildEdge f node range d) × IsLive g d.node) (λ d. (d.node ≡ e.node) × (d.span.low ≡ e.span.low) × (e.span.last ≤ d.span.last)) part (λ i d lt. (link.edges node r range x.before x.is_range i d lt, good.leads node r x.before i d lt))

  part_live : (e : Edge) → IsPartOf r e → IsLive g e.node
  part_live e part = let y = part_edge e part in subst (λ (m : ℕ). IsLive g m) y.1.0 y.2.1

  node_edge : (e : Edge) → (IsPartOf r e × (e.span.low < cut) × (e.span.last < cut)) ⊎ ((e.node ≡ right) × (e.span.low ≡ cut)) → EdgeOf node (record { low = range.low; last = cut - 1 }) e
  node_edge e (inr y) = inl (record {
    linked = x.link ∙ ap (λ (m : ℕ). Some m) (sym y.0);
    begins = omega (arith, y.1, x.above);
    level = ap (λ (m : ℕ). (h m).level) y.0 ∙ x.level_right ∙ sym x.level;
    low = ap (λ (m : ℕ). (h m).low) y.0 ∙ x.low_right ∙ sym y.1;
  })
  node_edge e (inl y) = let w = part_edge e y.0 in go w.0 w.1 w.2.0 (part_live e y.0)
    where
      go : (d : Edge) → (d.node ≡ e.node) × (d.span.low ≡ e.span.low) × (e.span.last ≤ d.span.last) → IsLinkEdge f node range d ⊎ IsChildEdge f node range d → IsLive g e.node → EdgeOf node (record { low = range.low; last = cut - 1 }) e
      go d q (inl z) live = absurd (omega (arith, z.begins, q.1, y.1, x.within))
      go d q (inr z) live = inr (record {
        begins = omega (arith, z.begins, q.1);
        ends = omega (arith, y.2);
        level = ap suc (level_on e.node live) ∙ ap (λ (m : ℕ). suc (f m).level) (sym q.0) ∙ z.level ∙ sym x.level;
        low = low_on e.node live ∙ ap (λ (m : ℕ). (f m).low) (sym q.0) ∙ z.low ∙ q.1;
      })

  right_edge : (e : Edge) → IsPartOf r e × (cut ≤ e.span.low) → EdgeOf right (record { low = cut; last = range.last }) e
  right_edge e y = let w = part_edge e y.0 in go w.0 w.1 w.2.0 (part_live e y.0)
    where
      go : (d : Edge) → (d.node ≡ e.node) × (d.span.low ≡ e.span.low) × (e.span.last ≤ d.span.last) → IsLinkEdge f node range d ⊎ IsChildEdge f node range d → IsLive g e.node → EdgeOf right (record { low = cut; last = range.last }) e
      go d q (inl z) live = inl (record {
        linked = x.link_right ∙ z.linked ∙ ap (λ (m : ℕ). Some m) q.0;
        begins = sym q.1 ∙ z.begins;
        level = level_on e.node live ∙ ap (λ (m : ℕ). (f m).level) (sym q.0) ∙ z.level ∙ sym x.level_right;
        low = low_on e.node live ∙ ap (λ (m : ℕ). (f m).low) (sym q.0) ∙ z.low ∙ q.1;
      })
      go d q (inr z) live = inr (record {
        begins = y.1;
        ends = omega (arith, z.ends, q.2);
        level = ap suc (level_on e.node live) ∙ ap (λ (m : ℕ). suc (f m).level) (sym q.0) ∙ z.level ∙ sym x.level_right;
        low = low_on e.node live ∙ ap (λ (m : ℕ). (f m).low) (sym q.0) ∙ z.low ∙ q.1;
      })

  abbrev EdgesAt : Span → ℕ → Type 0
  EdgesAt a n = (q : Record) → record_at k n ≡ Some q → IsRange (h n) a → All (EdgeOf n a) q.edges

  edges_after : (n : ℕ) (q : Record) (a : Span) → record_at k n ≡ Some q → IsRange (h n) a → All (EdgeOf n a) q.edges
  edges_after n q a is rng = go (which n)
    where
      at_node : EdgesAt a node
      at_node q is rng = at_record k node s (λ z. All (EdgeOf node a) z.edges) x.after (λ i d lt. subst (λ (b : Span). EdgeOf node b (get_or s.edges i d)) (same_range (h node) _ a range_node rng) (node_edge _ (x.edges i d lt))) q is

      at_right : EdgesAt a right
      at_right q is rng = at_record k right t (λ z. All (EdgeOf right a) z.edges) x.after_right (λ i d lt. subst (λ (b : Span). EdgeOf right b (get_or t.edges i d)) (same_range (h right) _ a range_new rng) (right_edge _ (x.edges_right i d lt))) q is

      go : Which n → All (EdgeOf n a) q.edges
      go (inl e) = subst (EdgesAt a) (sym e) at_node q is rng
      go (inr (inl e)) = subst (EdgesAt a) (sym e) at_right q is rng
      go (inr (inr same)) = λ i d lt.
          let live = good.leads n q (sym same.0 ∙ is) i d lt in
          edge_along f h n a _ (ap (λ (z : Frame). z.level) same.1) (ap (λ (z : Frame). z.link) same.1) (low_on _ live) (level_on _ live) (link.edges n q a (sym same.0 ∙ is) (subst (λ (z : Frame). IsRange z a) same.1 rng) i d lt)

  on_by : (u v : Record) (p : ℕ) → ActsAs u v p → LeadsOn v p → LeadsOn u p
  on_by u v p acts on = let m = leads_where v p on in leads_on u p m.0 (acts.to m.0 m.1)

  abbrev InsideAt : ℕ → ℕ → Type 0
  InsideAt p n = (q : Record) → record_at k n ≡ Some q → 0 < (h n).level → (h n).low ≤ p → LeadsOn q p

  inside_after : (n : ℕ) (q : Record) (p : ℕ) → record_at k n ≡ Some q → 0 < (h n).level → (h n).low ≤ p → IsPlace p → LeadsOn q p
  inside_after n q p is high low place = go (which n)
    where
      before : (0 < (f node).level) → range.low ≤ p → LeadsOn r p
      before high low = link.inside node r p x.before high (omega (arith, low, x.is_range.low)) place

      at_node : InsideAt p node
      at_node q is high low = at_record k node s (λ z. LeadsOn z p) x.after (elim (below_or_from p cut) [
        | inl lt ↦ (let l : range.low ≤ p = omega (arith, low, x.low, x.is_range.low) in on_by s r p (x.below_cut p l lt) (before (omega (arith, high, x.level)) l))
        | inr ge ↦ leads_on s p right (x.from_cut p place ge).0
      ]) q is

      at_right : InsideAt p right
      at_right q is high low = at_record k right t (λ z. LeadsOn z p) x.after_right
          (let ge : cut ≤ p = omega (arith, low, x.low_right) in on_by t r p (x.from_cut p place ge).1 (before (omega (arith, high, x.level_right)) (omega (arith, x.above)))) q is

      go : Which n → LeadsOn q p
      go (inl e) = subst (InsideAt p) (sym e) at_node q is high low
      go (inr (inl e)) = subst (InsideAt p) (sym e) at_right q is high low
      go (inr (inr same)) = link.inside n q p (sym same.0 ∙ is) (omega (arith, high, ap (λ (z : Frame). z.level) same.1)) (omega (arith, low, ap (λ (z : Frame). z.low) same.1)) place

  abbrev BeyondAt : Span → ℕ → ℕ → Type 0
  BeyondAt a p n = (q : Record) → record_at k n ≡ Some q → IsRange (h n) a → LeadsOn q p

  beyond_after : (n : ℕ) (q : Record) (a : Span) (p : ℕ) → record_at k n ≡ Some q → IsRange (h n) a → a.last < p → IsPlace p → LeadsOn q p
  beyond_after n q a p is rng past place = go (which n)
    where
      at_node : BeyondAt a p node
      at_node q is rng =
          let last : cut - 1 ≡ a.last = ap (λ (z : Span). z.last) (same_range (h node) _ a range_node rng) in
          at_record k node s (λ z. LeadsOn z p) x.after (leads_on s p right (x.from_cut p place (omega (arith, past, x.above))).0) q is

      at_right : BeyondAt a p right
      at_right q is rng =
          let last : range.last ≡ a.last = ap (λ (z : Span). z.last) (same_range (h right) _ a range_new rng) in
          at_record k right t (λ z. LeadsOn z p) x.after_right (on_by t r p (x.from_cut p place (omega (arith, past, x.within))).1 (link.beyond node r range p x.before x.is_range (omega (arith, past)) place)) q is

      go : Which n → LeadsOn q p
      go (inl e) = subst (BeyondAt a p) (sym e) at_node q is rng
      go (inr (inl e)) = subst (BeyondAt a p) (sym e) at_right q is rng
      go (inr (inr same)) = link.beyond n q a p (sym same.0 ∙ is) (subst (λ (z : Frame). IsRange z a) same.1 rng) past place

  range_some : (n : ℕ) → IsLive k n → (a : Span) × IsRange (h n) a
  range_some n live = elim (which n) [
    | inl e ↦ (record { low = range.low; last = cut - 1 }, subst (λ (m : ℕ). IsRange (h m) (record { low = range.low; last = cut - 1 })) (sym e) range_node)
    | inr w ↦ elim w [
      | inl e ↦ (record { low = cut; last = range.last }, subst (λ (m : ℕ). IsRange (h m) (record { low = cut; last = range.last })) (sym e) range_new)
      | inr same ↦ (let y = link.range n (live.0, sym same.0 ∙ live.1) in (y.0, subst (λ (z : Frame). IsRange z y.0) (sym same.1) y.1))
    ]
  ]

  highest_after : (n : ℕ) → IsLive k n → (n ≡ 0 → ⊥) → (h n).level < (h 0).level
  highest_after n live ne =
      let top_level = ap (λ (z : Frame). z.level) root_frame in
      let under = link.highest node (r, x.before) x.no_root in
      elim (which n) [
        | inl e ↦ omega (arith, ap (λ (m : ℕ). (h m).level) e, x.level, under, top_level)
        | inr w ↦ elim w [
          | inl e ↦ omega (arith, ap (λ (m : ℕ). (h m).level) e, x.level_right, under, top_level)
          | inr same ↦ omega (arith, ap (λ (z : Frame). z.level) same.1, link.highest n (live.0, sym same.0 ∙ live.1) ne, top_level)
        ]
      ]

  -- a node that an edge of the node led to is led to by the node or by the new one
  led_by : (i p : ℕ) → LeadsTo r p i → (h i).level ≡ (f i).level → (f node).level ≡ suc (f i).level → IsLed k h i
  led_by i p to same up = elim (below_or_from p cut) [
    | inl lt ↦ record { above = node; node = s; place = p; is = x.after; leads = (x.below_cut p within.0 lt).to i to; level = omega (arith, x.level, same, up) }
    | inr ge ↦ record { above = right; node = t; place = p; is = x.after_right; leads = (x.from_cut p (omega (arith, within.1, x.is_range.last)) ge).1.to i to; level = omega (arith, x.level_right, same, up) }
  ]
    where
      at : IsLinkEdge f node range to.1 ⊎ IsChildEdge f node range to.1
      at = subst (λ (e : Edge). IsLinkEdge f node range e ⊎ IsChildEdge f node range e) to.3 (link.edges node r range x.before x.is_range to.0 to.1 to.2)

      within : (range.low ≤ p) × (p ≤ range.last)
      within = elim at [
        | inl l ↦ absurd (let level : (f i).level ≡ (f node).level = subst (λ (m : ℕ). (f m).level ≡ (f node).level) to.4.1 l.level in omega (arith, level, up))
        | inr c ↦ (omega (arith, c.begins, to.4.0.0), omega (arith, c.ends, to.4.0.1))
      ]

  led_on : (i : ℕ) → IsLed g f i → IsLed k h i
  led_on i l = elim (which l.above) [
    | inl e ↦ (
        let same : Some l.node ≡ Some r = sym l.is ∙ ap (λ (m : ℕ). record_at g m) e ∙ x.before in
        let is : l.node ≡ r = cc in
        led_by i l.place (subst (λ (z : Record). LeadsTo z l.place i) is l.leads) level_i (ap (λ (m : ℕ). (f m).level) (sym e) ∙ l.level))
    | inr w ↦ elim w [
      | inl e ↦ absurd (not_right l.above (l.node, l.is) e)
      | inr same ↦ record { above = l.above; node = l.node; place = l.place; is = same.0 ∙ l.is; leads = l.leads; level = omega (arith, ap (λ (z : Frame). z.level) same.1, l.level, level_i) }
    ]
  ]
    where
      live_i : IsLive g i
      live_i = subst (λ (m : ℕ). IsLive g m) (ap (λ (e : Edge). e.node) l.leads.3 ∙ l.leads.4.1) (good.leads l.above l.node l.is l.leads.0 l.leads.1 l.leads.2)

      level_i : (h i).level ≡ (f i).level
      level_i = level_on i live_i

  pub split_link : KeepsLink g f k h
  split_link = record {
    link = record { range = range_some; root = ap (λ (z : Frame). z.range) root_frame ∙ link.root; highest = highest_after; apart = apart_after; cover = cover_after; edges = edges_after; inside = inside_after; beyond = beyond_after };
    lasts = record { live = live_on; low = low_on; level = λ n live ne. level_on n live; led = led_on };
  }

  off : SplitsOff g k node right cut r s t
  off = record {
    differs = x.differs;
    before = x.before;
    fresh = x.fresh;
    after = x.after;
    after_right = x.after_right;
    below_cut = λ p inset lt. x.below_cut p (omega (arith, low_reached g f good.root good.apart good.leads link p node inset.1, x.is_range.low)) lt;
    from_cut = λ p inset ge. x.from_cut p inset.0 ge;
    tidy = x.tidy;
    tidy_right = x.tidy_right;
    pairs = x.pairs;
    pairs_right = x.pairs_right;
  }

  leads_after : (n : ℕ) (l : Record) → names R n ≡ true → record_at k n ≡ Some l → All (λ e. IsLive k e.node) l.edges
  leads_after n l named is = by_name2 (λ n. (l : Record) → record_at k n ≡ Some l → All (λ e. IsLive k e.node) l.edges) node right
      (at_record k node s (λ z. All (λ e. IsLive k e.node) z.edges) x.after (λ i d lt. at_s _ (x.edges i d lt)))
      (at_record k right t (λ z. All (λ e. IsLive k e.node) z.edges) x.after_right (λ i d lt. live_on _ (part_live _ (x.edges_right i d lt).0))) n named l is
    where
      at_s : (e : Edge) → (IsPartOf r e × (e.span.low < cut) × (e.span.last < cut)) ⊎ ((e.node ≡ right) × (e.span.low ≡ cut)) → IsLive k e.node
      at_s e (inl y) = live_on e.node (part_live e y.0)
      at_s e (inr y) = subst (λ (m : ℕ). IsLive k m) (sym y.0) live_right

  pub split_ways : KeepsWays g R k
  split_ways = keeps_ways g R k node x.differs (split_entry g k node right cut r s t good off leads_after) good
