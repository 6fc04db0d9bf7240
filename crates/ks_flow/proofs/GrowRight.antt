-- A root that grows, with a link between its halves, keeps ways and the facts of links.
use Rattle.ks_keysets.specs.declared.Record.{Record}
use Rattle.ks_keysets.specs.declared.Frame.{Frame}
use Rattle.std.proofs.Common.{ℕ, suc, ◌≡◌, ◌<◌, ◌≤◌, ◌-◌, ◌⊎◌, inl, inr, true, List, [], ◌∷◌, get_or, Some, refl, sym, ◌∙◌, ap, subst, arith}
use Rattle.std.specs.Prelude.{All}
use Rattle.ks_keysets.specs.declared.Edge.{Edge}
use Rattle.ks_keysets.specs.declared.NodeState.{NodeState}
use Rattle.ks_keysets.specs.declared.Span.{Span}
use Rattle.ks_keysets.specs.Record.{IsPlace, top, Holds, LeadsOn, LeadsTo}
use Rattle.ks_keysets.specs.Keyset.{record_at, IsLive, Good}
use Rattle.ks_flow.specs.Ways.{names, KeepsWays}
use Rattle.ks_flow.specs.Tree.{ActsAs}
use Rattle.ks_flow.specs.Shapes.{GrowsOff}
use Rattle.ks_flow.specs.Link.{Link, IsRange, IsLinkEdge, IsChildEdge, IsPartOf, KeepsLink, GrowsRight, IsLed}
use Rattle.ks_keysets.specs.Laws.Next.{leads_on, leads_where}
use Rattle.ks_flow.proofs.Entries.{keeps_ways}
use Rattle.ks_flow.proofs.Edges.{same_or_apart, out_of}
use Rattle.ks_flow.proofs.Grown.{grow_entry}
use Rattle.ks_flow.proofs.Trees.{below_or_from, by_name3, at_record, live_apart}
use Rattle.ks_flow.proofs.Links.{edge_at, same_range}
use Rattle.ks_flow.proofs.Attached.{edge_along}

module _ (g k : ℕ → NodeState) (f h : ℕ → Frame) (left right cut : ℕ) (r v s t : Record) (good : Good g) (link : Link g f) (x : GrowsRight g k f h left right cut r v s t) where
  abbrev R : List ℕ
  R = 0 ∷ left ∷ right ∷ []

  abbrev Which : ℕ → Type 0
  Which n = (n ≡ 0) ⊎ ((n ≡ left) ⊎ ((n ≡ right) ⊎ ((n ≡ 0 → ⊥) × (record_at k n ≡ record_at g n) × (h n ≡ f n))))

  which : (n : ℕ) → Which n
  which n = elim (same_or_apart n 0) [
    | inl e ↦ inl e
    | inr a ↦ elim (same_or_apart n left) [
      | inl e ↦ inr (inl e)
      | inr b ↦ elim (same_or_apart n right) [
        | inl e ↦ inr (inr (inl e))
        | inr c ↦ (let out = out_of 0 (left ∷ right ∷ []) n a (out_of left (right ∷ []) n b (out_of right [] n c refl)) in inr (inr (inr (a, x.differs.same n out, x.frames.same n out))))
      ]
    ]
  ]

  not_left : (n : ℕ) → IsLive g n → n ≡ left → ⊥
  not_left n live e = live_apart g n left live.0 live.1 x.fresh_left e

  not_right : (n : ℕ) → IsLive g n → n ≡ right → ⊥
  not_right n live e = live_apart g n right live.0 live.1 x.fresh e

  live_root : IsLive k 0
  live_root = (v, x.after)

  live_left : IsLive k left
  live_left = (s, x.after_left)

  live_right : IsLive k right
  live_right = (t, x.after_right)

  live_on : (n : ℕ) → IsLive g n → IsLive k n
  live_on n live = elim (which n) [
    | inl e ↦ subst (λ (m : ℕ). IsLive k m) (sym e) live_root
    | inr w ↦ elim w [
      | inl e ↦ absurd (not_left n live e)
      | inr w' ↦ elim w' [ inl e ↦ absurd (not_right n live e) | inr same ↦ (live.0, same.1 ∙ live.1) ]
    ]
  ]

  -- a live node, except the root, keeps its frame
  frame_on : (n : ℕ) → IsLive g n → (n ≡ 0 → ⊥) → h n ≡ f n
  frame_on n live ne = elim (which n) [
    | inl e ↦ absurd (ne e)
    | inr w ↦ elim w [
      | inl e ↦ absurd (not_left n live e)
      | inr w' ↦ elim w' [ inl e ↦ absurd (not_right n live e) | inr same ↦ same.2 ]
    ]
  ]

  abbrev all : Span
  all = record { low = 0; last = top }

  low_root : (f 0).low ≡ 0
  low_root =
      let y = link.range 0 good.root in
      let e : Some y.0 ≡ Some all = sym y.1.is ∙ link.root in
      let e' : y.0 ≡ all = cc in
      sym y.1.low ∙ ap (λ (z : Span). z.low) e'

  range_all : IsRange (f 0) all
  range_all = record { is = link.root; low = sym low_root; filled = omega arith; last = omega arith }

  low_on : (n : ℕ) → IsLive g n → (h n).low ≡ (f n).low
  low_on n live = elim (same_or_apart n 0) [
    | inl e ↦ ap (λ (m : ℕ). (h m).low) e ∙ x.low ∙ sym low_root ∙ ap (λ (m : ℕ). (f m).low) (sym e)
    | inr ne ↦ ap (λ (z : Frame). z.low) (frame_on n live ne)
  ]

  range_root : IsRange (h 0) all
  range_root = record { is = x.range_after; low = sym x.low; filled = omega arith; last = omega arith }

  abbrev span_left : Span
  span_left = record { low = 0; last = cut - 1 }

  abbrev span_right : Span
  span_right = record { low = cut; last = top }

  range_left : IsRange (h left) span_left
  range_left = record { is = x.range_left; low = sym x.low_left; filled = omega arith; last = omega (arith, x.within) }

  range_right : IsRange (h right) span_right
  range_right = record { is = x.range_right; low = sym x.low_right; filled = x.within; last = omega arith }

  -- levels of live nodes before
  level_le : (n : ℕ) → IsLive g n → (f n).level ≤ (f 0).level
  level_le n live = elim (same_or_apart n 0) [
    | inl e ↦ omega (arith, ap (λ (m : ℕ). (f m).level) e)
    | inr ne ↦ omega (arith, link.highest n live ne)
  ]

  -- where the range of a live node, except the root, comes from
  abbrev Old : ℕ → Span → Type 0
  Old n a = (m : ℕ) × (b : Span) × IsLive g m × IsRange (f m) b × ((h n).level ≡ (f m).level) × ((p : ℕ) → Holds a p → Holds b p) ×
      (((n ≡ m) × (m ≡ 0 → ⊥)) ⊎ (((n ≡ left) × (m ≡ 0) × ((p : ℕ) → Holds a p → p < cut)) ⊎ ((n ≡ right) × (m ≡ 0) × ((p : ℕ) → Holds a p → cut ≤ p))))

  old : (n : ℕ) (a : Span) → IsLive k n → IsRange (h n) a → (n ≡ 0 → ⊥) → Old n a
  old n a live is ne = go (which n)
    where
      at_left : (a : Span) → a ≡ span_left → Old left a
      at_left a e =
          let low : a.low ≡ 0 = ap (λ (z : Span). z.low) e in
          let last : a.last ≡ cut - 1 = ap (λ (z : Span). z.last) e in
          (0, all, (r, x.before), range_all, x.level_left, (λ p o. (omega arith, omega (arith, o.1, x.within, x.above))), inr (inl (refl, refl, λ p o. omega (arith, o.1, x.above))))

      at_right : (a : Span) → a ≡ span_right → Old right a
      at_right a e =
          let low : a.low ≡ cut = ap (λ (z : Span). z.low) e in
          let last : a.last ≡ top = ap (λ (z : Span). z.last) e in
          (0, all, (r, x.before), range_all, x.level_right, (λ p o. (omega arith, omega (arith, o.1))), inr (inr (refl, refl, λ p o. omega (arith, o.0))))

      go : Which n → Old n a
      go (inl e) = absurd (ne e)
      go (inr (inl e)) = subst (λ (m : ℕ). Old m a) (sym e) (at_left a (same_range (h left) a _ (subst (λ (m : ℕ). IsRange (h m) a) e is) range_left))
      go (inr (inr (inl e))) = subst (λ (m : ℕ). Old m a) (sym e) (at_right a (same_range (h right) a _ (subst (λ (m : ℕ). IsRange (h m) a) e is) range_right))
      go (inr (inr (inr same))) = (n, a, (live.0, sym same.1 ∙ live.1), subst (λ (z : Frame). IsRange z a) same.2 is, ap (λ (z : Frame). z.level) same.2, (λ p o. o), inl (refl, same.0))

  level_after : (n : ℕ) → IsLive k n → (n ≡ 0 → ⊥) → (h n).level ≤ (f 0).level
  level_after n live ne = go (which n)
    where
      go : Which n → (h n).level ≤ (f 0).level
      go (inl e) = absurd (ne e)
      go (inr (inl e)) = omega (arith, ap (λ (m : ℕ). (h m).level) e, x.level_left)
      go (inr (inr (inl e))) = omega (arith, ap (λ (m : ℕ). (h m).level) e, x.level_right)
      go (inr (inr (inr same))) = omega (arith, ap (λ (z : Frame). z.level) same.2, level_le n (live.0, sym same.1 ∙ live.1))

  apart_after : (n m : ℕ) (a b : Span) (p : ℕ) → IsLive k n → IsLive k m → (h n).level ≡ (h m).level → IsRange (h n) a → IsRange (h m) b → Holds a p → Holds b p → n ≡ m
  apart_after n m a b p l l' e ra rb ha hb = go (same_or_apart n 0) (same_or_apart m 0)
    where
      join : (i j : ℕ) → (((n ≡ i) × (i ≡ 0 → ⊥)) ⊎ (((n ≡ left) × (i ≡ 0) × ((p : ℕ) → Holds a p → p < cut)) ⊎ ((n ≡ right) × (i ≡ 0) × ((p : ℕ) → Holds a p → cut ≤ p)))) →
          (((m ≡ j) × (j ≡ 0 → ⊥)) ⊎ (((m ≡ left) × (j ≡ 0) × ((p : ℕ) → Holds b p → p < cut)) ⊎ ((m ≡ right) × (j ≡ 0) × ((p : ℕ) → Holds b p → cut ≤ p)))) → i ≡ j → n ≡ m
      join i j (inl y) (inl z) same = y.0 ∙ same ∙ sym z.0
      join i j (inl y) (inr (inl z)) same = absurd (y.1 (same ∙ z.1))
      join i j (inl y) (inr (inr z)) same = absurd (y.1 (same ∙ z.1))
      join i j (inr (inl y)) (inl z) same = absurd (z.1 (sym same ∙ y.1))
      join i j (inr (inr y)) (inl z) same = absurd (z.1 (sym same ∙ y.1))
      join i j (inr (inl y)) (inr (inl z)) same = y.0 ∙ sym z.0
      join i j (inr (inl y)) (inr (inr z)) same = absurd (omega (arith, y.2 p ha, z.2 p hb))
      join i j (inr (inr y)) (inr (inl z)) same = absurd (omega (arith, y.2 p ha, z.2 p hb))
      join i j (inr (inr y)) (inr (inr z)) same = y.0 ∙ sym z.0

      go : (n ≡ 0) ⊎ (n ≡ 0 → ⊥) → (m ≡ 0) ⊎ (m ≡ 0 → ⊥) → n ≡ m
      go (inl y) (inl z) = y ∙ sym z
      go (inl y) (inr z) = absurd (omega (arith, ap (λ (i : ℕ). (h i).level) y, x.level, e, level_after m l' z))
      go (inr y) (inl z) = absurd (omega (arith, ap (λ (i : ℕ). (h i).level) z, x.level, e, level_after n l y))
      go (inr y) (inr z) =
          let i = old n a l ra y in
          let j = old m b l' rb z in
          join i.0 j.0 i.6 j.6 (link.apart i.0 j.0 i.1 j.1 p i.2 j.2 (sym i.4 ∙ e ∙ j.4) i.3 j.3 (i.5 p ha) (j.5 p hb))

  abbrev Covered : ℕ → ℕ → Type 0
  Covered l p = (n : ℕ) × IsLive k n × ((h n).level ≡ l) × (a : Span) × IsRange (h n) a × Holds a p

  cover_after : (l p : ℕ) → l ≤ (h 0).level → IsPlace p → Covered l p
  cover_after l p le place = elim (below_or_from (f 0).level l) [
    | inl lt ↦ (0, live_root, omega (arith, le, x.level), all, range_root, (omega arith, place))
    | inr ge ↦ (let c = link.cover l p ge place in go c.0 c.1 c.2 c.3 c.4 c.5 (which c.0))
  ]
    where
      go : (n : ℕ) → IsLive g n → (f n).level ≡ l → (a : Span) → IsRange (f n) a → Holds a p → Which n → Covered l p
      go n live level a is o (inl e) =
          let level' : (f 0).level ≡ l = ap (λ (m : ℕ). (f m).level) (sym e) ∙ level in
          elim (below_or_from p cut) [
            | inl lt ↦ (left, live_left, x.level_left ∙ level', span_left, range_left, (omega arith, omega (arith, lt)))
            | inr ge ↦ (right, live_right, x.level_right ∙ level', span_right, range_right, (ge, place))
          ]
      go n live level a is o (inr (inl e)) = absurd (not_left n live e)
      go n live level a is o (inr (inr (inl e))) = absurd (not_right n live e)
      go n live level a is o (inr (inr (inr same))) = (n, live_on n live, ap (λ (z : Frame). z.level) same.2 ∙ level, a, subst (λ (z : Frame). IsRange z a) (sym same.2) is, o)

  abbrev EdgeOf : ℕ → Span → Edge → Type 0
  EdgeOf n a e = IsLinkEdge h n a e ⊎ IsChildEdge h n a e

  -- no edge leads to the root
  none_to_root : (n : ℕ) (a : Span) (e : Edge) → IsLive g n → IsLinkEdge f n a e ⊎ IsChildEdge f n a e → e.node ≡ 0 → ⊥
  none_to_root n a e live (inl y) same = omega (arith, y.low, y.begins, ap (λ (m : ℕ). (f m).low) same, low_root)
  none_to_root n a e live (inr y) same = omega (arith, y.level, ap (λ (m : ℕ). (f m).level) same, level_le n live)

  part_edge : (e : Edge) → IsPartOf r e → (d : Edge) × ((d.node ≡ e.node) × (d.span.low ≡ e.span.low) × (e.span.last ≤ d.span.last)) × ((IsLinkEdge f 0 all d ⊎ IsChildEdge f 0 all d) × IsLive g d.node)
  part_edge e part = edge_at r.edges (λ d. (IsLinkEdge f 0 all d ⊎ IsChildEdge f 0 all d) × IsLive g d.node) (λ d. (d.node ≡ e.node) × (d.span.low ≡ e.span.low) × (e.span.last ≤ d.span.last)) part (λ i d lt. (link.edges 0 r all x.before range_all i d lt, good.leads 0 r x.before i d lt))

  part_live : (e : Edge) → IsPartOf r e → IsLive g e.node
  part_live e part = let y = part_edge e part in subst (λ (m : ℕ). IsLive g m) y.1.0 y.2.1

  part_frame : (e : Edge) → IsPartOf r e → h e.node ≡ f e.node
  part_frame e part =
      let y = part_edge e part in
      frame_on e.node (part_live e part) (λ same. none_to_root 0 all y.0 good.root y.2.0 (y.1.0 ∙ same))

  root_edge : (e : Edge) → ((e.node ≡ left) × (e.span.low ≡ 0) × (e.span.last < cut)) ⊎ ((e.node ≡ right) × (e.span.low ≡ cut) × (e.span.last ≤ top)) → EdgeOf 0 all e
  root_edge e (inl y) = inr (record { begins = omega arith; ends = omega (arith, y.2, x.within); level = ap (λ (m : ℕ). suc (h m).level) y.0 ∙ ap suc x.level_left ∙ sym x.level; low = ap (λ (m : ℕ). (h m).low) y.0 ∙ x.low_left ∙ sym y.1 })
  root_edge e (inr y) = inr (record { begins = omega arith; ends = y.2; level = ap (λ (m : ℕ). suc (h m).level) y.0 ∙ ap suc x.level_right ∙ sym x.level; low = ap (λ (m : ℕ). (h m).low) y.0 ∙ x.low_right ∙ sym y.1 })

  left_edge : (e : Edge) → (IsPartOf r e × (e.span.low < cut) × (e.span.last < cut)) ⊎ ((e.node ≡ right) × (e.span.low ≡ cut)) → EdgeOf left span_left e
  left_edge e (inr y) = inl (record {
    linked = x.link_left ∙ ap (λ (m : ℕ). Some m) (sym y.0);
    begins = omega (arith, y.1, x.above);
    level = ap (λ (m : ℕ). (h m).level) y.0 ∙ x.level_right ∙ sym x.level_left;
    low = ap (λ (m : ℕ). (h m).low) y.0 ∙ x.low_right ∙ sym y.1;
  })
  left_edge e (inl y) = let w = part_edge e y.0 in go w.0 w.1 w.2.0 (part_frame e y.0)
    where
      go : (d : Edge) → (d.node ≡ e.node) × (d.span.low ≡ e.span.low) × (e.span.last ≤ d.span.last) → IsLinkEdge f 0 all d ⊎ IsChildEdge f 0 all d → h e.node ≡ f e.node → EdgeOf left span_left e
      go d q (inl z) same = absurd (omega (arith, z.begins, q.1, y.1, x.within))
      go d q (inr z) same = inr (record {
        begins = omega arith;
        ends = omega (arith, y.2);
        level = ap (λ (a : Frame). suc a.level) same ∙ ap (λ (m : ℕ). suc (f m).level) (sym q.0) ∙ z.level ∙ sym x.level_left;
        low = ap (λ (a : Frame). a.low) same ∙ ap (λ (m : ℕ). (f m).low) (sym q.0) ∙ z.low ∙ q.1;
      })

  right_edge : (e : Edge) → IsPartOf r e × (cut ≤ e.span.low) → EdgeOf right span_right e
  right_edge e y = let w = part_edge e y.0 in go w.0 w.1 w.2.0 (part_frame e y.0)
    where
      go : (d : Edge) → (d.node ≡ e.node) × (d.span.low ≡ e.span.low) × (e.span.last ≤ d.span.last) → IsLinkEdge f 0 all d ⊎ IsChildEdge f 0 all d → h e.node ≡ f e.node → EdgeOf right span_right e
      go d q (inl z) same = inl (record {
        linked = x.link_right ∙ z.linked ∙ ap (λ (m : ℕ). Some m) q.0;
        begins = sym q.1 ∙ z.begins;
        level = ap (λ (a : Frame). a.level) same ∙ ap (λ (m : ℕ). (f m).level) (sym q.0) ∙ z.level ∙ sym x.level_right;
        low = ap (λ (a : Frame). a.low) same ∙ ap (λ (m : ℕ). (f m).low) (sym q.0) ∙ z.low ∙ q.1;
      })
      go d q (inr z) same = inr (record {
        begins = y.1;
        ends = omega (arith, z.ends, q.2);
        level = ap (λ (a : Frame). suc a.level) same ∙ ap (λ (m : ℕ). suc (f m).level) (sym q.0) ∙ z.level ∙ sym x.level_right;
        low = ap (λ (a : Frame). a.low) same ∙ ap (λ (m : ℕ). (f m).low) (sym q.0) ∙ z.low ∙ q.1;
      })

  abbrev EdgesAt : Span → ℕ → Type 0
  EdgesAt a n = (q : Record) → record_at k n ≡ Some q → IsRange (h n) a → All (EdgeOf n a) q.edges

  edges_after : (n : ℕ) (q : Record) (a : Span) → record_at k n ≡ Some q → IsRange (h n) a → All (EdgeOf n a) q.edges
  edges_after n q a is rng = go (which n)
    where
      at_root : EdgesAt a 0
      at_root q is rng = at_record k 0 v (λ z. All (EdgeOf 0 a) z.edges) x.after (λ i d lt. subst (λ (b : Span). EdgeOf 0 b (get_or v.edges i d)) (same_range (h 0) _ a range_root rng) (root_edge _ (x.edges i d lt))) q is

      at_left : EdgesAt a left
      at_left q is rng = at_record k left s (λ z. All (EdgeOf left a) z.edges) x.after_left (λ i d lt. subst (λ (b : Span). EdgeOf left b (get_or s.edges i d)) (same_range (h left) _ a range_left rng) (left_edge _ (x.edges_left i d lt))) q is

      at_right : EdgesAt a right
      at_right q is rng = at_record k right t (λ z. All (EdgeOf right a) z.edges) x.after_right (λ i d lt. subst (λ (b : Span). EdgeOf right b (get_or t.edges i d)) (same_range (h right) _ a range_right rng) (right_edge _ (x.edges_right i d lt))) q is

      outside : (n : ℕ) → record_at k n ≡ record_at g n → h n ≡ f n → EdgesAt a n
      outside n same frame q is rng i d lt =
          let is' : record_at g n ≡ Some q = sym same ∙ is in
          let live = good.leads n q is' i d lt in
          let y = link.edges n q a is' (subst (λ (z : Frame). IsRange z a) frame rng) i d lt in
          let target = frame_on _ live (none_to_root n a _ (q, is') y) in
          edge_along f h n a _ (ap (λ (z : Frame). z.level) frame) (ap (λ (z : Frame). z.link) frame) (ap (λ (z : Frame). z.low) target) (ap (λ (z : Frame). z.level) target) y

      go : Which n → All (EdgeOf n a) q.edges
      go (inl e) = subst (EdgesAt a) (sym e) at_root q is rng
      go (inr (inl e)) = subst (EdgesAt a) (sym e) at_left q is rng
      go (inr (inr (inl e))) = subst (EdgesAt a) (sym e) at_right q is rng
      go (inr (inr (inr same))) = outside n same.1 same.2 q is rng

  on_by : (u w : Record) (p : ℕ) → ActsAs u w p → LeadsOn w p → LeadsOn u p
  on_by u w p acts on = let m = leads_where w p on in leads_on u p m.0 (acts.to m.0 m.1)

  abbrev InsideAt : ℕ → ℕ → Type 0
  InsideAt p n = (q : Record) → record_at k n ≡ Some q → 0 < (h n).level → (h n).low ≤ p → LeadsOn q p

  inside_after : (n : ℕ) (q : Record) (p : ℕ) → record_at k n ≡ Some q → 0 < (h n).level → (h n).low ≤ p → IsPlace p → LeadsOn q p
  inside_after n q p is high low place = go (which n)
    where
      before : 0 < (f 0).level → LeadsOn r p
      before high = link.inside 0 r p x.before high (omega (arith, low_root)) place

      at_root : InsideAt p 0
      at_root q is high low = at_record k 0 v (λ z. LeadsOn z p) x.after (elim (below_or_from p cut) [
        | inl lt ↦ leads_on v p left (x.below_cut p lt).0
        | inr ge ↦ leads_on v p right (x.from_cut p place ge).0
      ]) q is

      at_left : InsideAt p left
      at_left q is high low = at_record k left s (λ z. LeadsOn z p) x.after_left (elim (below_or_from p cut) [
        | inl lt ↦ on_by s r p (x.below_cut p lt).1 (before (omega (arith, high, x.level_left)))
        | inr ge ↦ leads_on s p right (x.link_edge p place ge)
      ]) q is

      at_right : InsideAt p right
      at_right q is high low = at_record k right t (λ z. LeadsOn z p) x.after_right
          (on_by t r p (x.from_cut p place (omega (arith, low, x.low_right))).1 (before (omega (arith, high, x.level_right)))) q is

      go : Which n → LeadsOn q p
      go (inl e) = subst (InsideAt p) (sym e) at_root q is high low
      go (inr (inl e)) = subst (InsideAt p) (sym e) at_left q is high low
      go (inr (inr (inl e))) = subst (InsideAt p) (sym e) at_right q is high low
      go (inr (inr (inr same))) = link.inside n q p (sym same.1 ∙ is) (omega (arith, high, ap (λ (z : Frame). z.level) same.2)) (omega (arith, low, ap (λ (z : Frame). z.low) same.2)) place

  abbrev BeyondAt : Span → ℕ → ℕ → Type 0
  BeyondAt a p n = (q : Record) → record_at k n ≡ Some q → IsRange (h n) a → LeadsOn q p

  beyond_after : (n : ℕ) (q : Record) (a : Span) (p : ℕ) → record_at k n ≡ Some q → IsRange (h n) a → a.last < p → IsPlace p → LeadsOn q p
  beyond_after n q a p is rng past place = go (which n)
    where
      at_root : BeyondAt a p 0
      at_root q is rng = absurd (omega (arith, past, place, ap (λ (z : Span). z.last) (same_range (h 0) _ a range_root rng)))

      at_left : BeyondAt a p left
      at_left q is rng =
          let last : cut - 1 ≡ a.last = ap (λ (z : Span). z.last) (same_range (h left) _ a range_left rng) in
          at_record k left s (λ z. LeadsOn z p) x.after_left (leads_on s p right (x.link_edge p place (omega (arith, past, x.above)))) q is

      at_right : BeyondAt a p right
      at_right q is rng = absurd (omega (arith, past, place, ap (λ (z : Span). z.last) (same_range (h right) _ a range_right rng)))

      go : Which n → LeadsOn q p
      go (inl e) = subst (BeyondAt a p) (sym e) at_root q is rng
      go (inr (inl e)) = subst (BeyondAt a p) (sym e) at_left q is rng
      go (inr (inr (inl e))) = subst (BeyondAt a p) (sym e) at_right q is rng
      go (inr (inr (inr same))) = link.beyond n q a p (sym same.1 ∙ is) (subst (λ (z : Frame). IsRange z a) same.2 rng) past place

  abbrev RangeAt : ℕ → Type 0
  RangeAt n = (a : Span) × IsRange (h n) a

  range_some : (n : ℕ) → IsLive k n → RangeAt n
  range_some n live = go (which n)
    where
      go : Which n → RangeAt n
      go (inl e) = subst RangeAt (sym e) (all, range_root)
      go (inr (inl e)) = subst RangeAt (sym e) (span_left, range_left)
      go (inr (inr (inl e))) = subst RangeAt (sym e) (span_right, range_right)
      go (inr (inr (inr same))) = let y = link.range n (live.0, sym same.1 ∙ live.1) in (y.0, subst (λ (z : Frame). IsRange z y.0) (sym same.2) y.1)

  -- a node that an edge of the root led to is led to by one of the halves
  led_by : (i p : ℕ) → LeadsTo r p i → (h i).level ≡ (f i).level → (f 0).level ≡ suc (f i).level → IsLed k h i
  led_by i p to same up = elim (below_or_from p cut) [
    | inl lt ↦ record { above = left; node = s; place = p; is = x.after_left; leads = (x.below_cut p lt).1.to i to; level = omega (arith, x.level_left, same, up) }
    | inr ge ↦ record { above = right; node = t; place = p; is = x.after_right; leads = (x.from_cut p within ge).1.to i to; level = omega (arith, x.level_right, same, up) }
  ]
    where
      range : (a : Span) × IsRange (f 0) a
      range = link.range 0 (r, x.before)

      at : IsLinkEdge f 0 range.0 to.1 ⊎ IsChildEdge f 0 range.0 to.1
      at = subst (λ (e : Edge). IsLinkEdge f 0 range.0 e ⊎ IsChildEdge f 0 range.0 e) to.3 (link.edges 0 r range.0 x.before range.1 to.0 to.1 to.2)

      within : IsPlace p
      within = elim at [
        | inl l ↦ absurd (let level : (f i).level ≡ (f 0).level = subst (λ (m : ℕ). (f m).level ≡ (f 0).level) to.4.1 l.level in omega (arith, level, up))
        | inr c ↦ omega (arith, c.ends, to.4.0.1, range.1.last)
      ]

  led_on : (i : ℕ) → IsLed g f i → IsLed k h i
  led_on i l = go (which l.above)
    where
      live_i : IsLive g i
      live_i = subst (λ (m : ℕ). IsLive g m) (ap (λ (e : Edge). e.node) l.leads.3 ∙ l.leads.4.1) (good.leads l.above l.node l.is l.leads.0 l.leads.1 l.leads.2)

      no_root : i ≡ 0 → ⊥
      no_root e = elim (same_or_apart l.above 0) [
        | inl a ↦ omega (arith, l.level, ap (λ (m : ℕ). (f m).level) e, ap (λ (m : ℕ). (f m).level) a)
        | inr a ↦ omega (arith, l.level, ap (λ (m : ℕ). (f m).level) e, link.highest l.above (l.node, l.is) a)
      ]

      level_i : (h i).level ≡ (f i).level
      level_i = ap (λ (z : Frame). z.level) (frame_on i live_i no_root)

      go : Which l.above → IsLed k h i
      go (inl e) =
          let same : Some l.node ≡ Some r = sym l.is ∙ ap (λ (m : ℕ). record_at g m) e ∙ x.before in
          let is : l.node ≡ r = cc in
          led_by i l.place (subst (λ (z : Record). LeadsTo z l.place i) is l.leads) level_i (ap (λ (m : ℕ). (f m).level) (sym e) ∙ l.level)
      go (inr (inl e)) = absurd (not_left l.above (l.node, l.is) e)
      go (inr (inr (inl e))) = absurd (not_right l.above (l.node, l.is) e)
      go (inr (inr (inr same))) = record { above = l.above; node = l.node; place = l.place; is = same.1 ∙ l.is; leads = l.leads; level = omega (arith, ap (λ (z : Frame). z.level) same.2, l.level, level_i) }

  pub grow_link : KeepsLink g f k h
  grow_link = record {
    link = record { range = range_some; root = x.range_after; highest = λ n live ne. omega (arith, level_after n live ne, x.level); apart = apart_after; cover = cover_after; edges = edges_after; inside = inside_after; beyond = beyond_after };
    lasts = record { live = live_on; low = low_on; level = λ n live ne. ap (λ (z : Frame). z.level) (frame_on n live ne); led = led_on };
  }

  off : GrowsOff g k 0 left right cut r v s t
  off = record {
    differs = x.differs;
    before = x.before;
    fresh_left = x.fresh_left;
    fresh = x.fresh;
    other = x.other;
    after = x.after;
    after_left = x.after_left;
    after_right = x.after_right;
    below_cut = λ p inset lt. x.below_cut p lt;
    from_cut = λ p inset ge. x.from_cut p inset.0 ge;
    tidy = x.tidy;
    tidy_left = x.tidy_left;
    tidy_right = x.tidy_right;
    pairs = x.pairs;
    pairs_left = x.pairs_left;
    pairs_right = x.pairs_right;
  }

  leads_after : (n : ℕ) (l : Record) → names R n ≡ true → record_at k n ≡ Some l → All (λ e. IsLive k e.node) l.edges
  leads_after n l named is = by_name3 (λ n. (l : Record) → record_at k n ≡ Some l → All (λ e. IsLive k e.node) l.edges) 0 left right
      (at_record k 0 v (λ z. All (λ e. IsLive k e.node) z.edges) x.after (λ i d lt. at_v _ (x.edges i d lt)))
      (at_record k left s (λ z. All (λ e. IsLive k e.node) z.edges) x.after_left (λ i d lt. at_s _ (x.edges_left i d lt)))
      (at_record k right t (λ z. All (λ e. IsLive k e.node) z.edges) x.after_right (λ i d lt. live_on _ (part_live _ (x.edges_right i d lt).0))) n named l is
    where
      at_v : (e : Edge) → ((e.node ≡ left) × (e.span.low ≡ 0) × (e.span.last < cut)) ⊎ ((e.node ≡ right) × (e.span.low ≡ cut) × (e.span.last ≤ top)) → IsLive k e.node
      at_v e (inl y) = subst (λ (m : ℕ). IsLive k m) (sym y.0) live_left
      at_v e (inr y) = subst (λ (m : ℕ). IsLive k m) (sym y.0) live_right

      at_s : (e : Edge) → (IsPartOf r e × (e.span.low < cut) × (e.span.last < cut)) ⊎ ((e.node ≡ right) × (e.span.low ≡ cut)) → IsLive k e.node
      at_s e (inl y) = live_on e.node (part_live e y.0)
      at_s e (inr y) = subst (λ (m : ℕ). IsLive k m) (sym y.0) live_right

  pub grow_ways : KeepsWays g R k
  grow_ways = keeps_ways g R k 0 x.differs (grow_entry g k 0 left right cut r v s t good off leads_after) good
