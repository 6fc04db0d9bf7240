-- The shapes under links.
use Rattle.ks_keysets.specs.declared.Record.{Record}
use Rattle.ks_keysets.specs.Keyset.{SameFound}
use Rattle.ks_keysets.specs.declared.Frame.{Frame}
use Rattle.std.proofs.Common.{ℕ, suc, ◌≡◌, ◌≤◌, ◌⊎◌, inl, inr, List, [], Option, Some, refl, sym, ◌∙◌, ap, subst, arith}
use Rattle.std.specs.Prelude.{All, AllPairs, ◌↔◌}
use Rattle.ks_keysets.specs.declared.Edge.{Edge}
use Rattle.ks_keysets.specs.declared.Pair.{Pair}
use Rattle.ks_keysets.specs.declared.NodeState.{NodeState}
use Rattle.ks_keysets.specs.declared.Span.{Span}
use Rattle.ks_keysets.specs.Record.{IsPlace, Carries, LeadsOn, first_value, LeadsTo}
use Rattle.ks_keysets.specs.Keyset.{record_at, IsLive, InKeyset, AreApart, Good, IsFound, value_in, value_at}
use Rattle.ks_flow.specs.Link.{Link, IsRange, IsLinkEdge, IsChildEdge, IsPartOf, KeepsLink, IsAttach, Attaches, IsLed}
use Rattle.ks_keysets.specs.Laws.Found.{reached_live}
use Rattle.ks_keysets.specs.Laws.Next.{same_record}
use Rattle.ks_flow.proofs.Walks.{found_here, found_one}
use Rattle.ks_flow.proofs.Edges.{same_or_apart, out_of}
use Rattle.ks_flow.proofs.Trees.{at_record}
use Rattle.ks_flow.proofs.Links.{edge_at, same_range, keyset_of_range, range_of_keyset}

-- the law of attaches

module _ (g : ℕ → NodeState) (node : ℕ) (k : ℕ → NodeState) (r s : Record) (x : IsAttach g node k r s) (good : Good g) where
  -- a node is the changed one, or has the record that it had
  which : (n : ℕ) → (n ≡ node) ⊎ (record_at k n ≡ record_at g n)
  which n = elim (same_or_apart n node) [ inl e ↦ inl e | inr ne ↦ inr (x.differs.same n (out_of node [] n ne refl)) ]

  still : (n : ℕ) → IsLive g n → IsLive k n
  still n live = elim (which n) [ inl e ↦ (s, ap (λ (m : ℕ). record_at k m) e ∙ x.after) | inr same ↦ (live.0, same ∙ live.1) ]

  values : (n p : ℕ) → value_at g n p ≡ value_at k n p
  values n p = elim (which n) [
    | inl e ↦ (
        let a : record_at g n ≡ Some r = ap (λ (m : ℕ). record_at g m) e ∙ x.before in
        let b : record_at k n ≡ Some s = ap (λ (m : ℕ). record_at k m) e ∙ x.after in
        ap (λ (o : Option Record). value_in o p) a ∙ ap (λ (ps : List Pair). first_value ps p) (sym x.pairs) ∙ ap (λ (o : Option Record). value_in o p) (sym b))
    | inr same ↦ ap (λ (o : Option Record). value_in o p) (sym same)
  ]

  at_pairs : (P : List Pair → Type 0) (n : ℕ) → ((q : Record) → record_at g n ≡ Some q → P q.pairs) → (q : Record) → record_at k n ≡ Some q → P q.pairs
  at_pairs P n had q is = elim (which n) [
    | inl e ↦ (
        let a : record_at g n ≡ Some r = ap (λ (m : ℕ). record_at g m) e ∙ x.before in
        let b : record_at k n ≡ Some s = ap (λ (m : ℕ). record_at k m) e ∙ x.after in
        let c : s ≡ q = same_record k n s q b is in
        subst (λ (z : Record). P z.pairs) c (subst P (sym x.pairs) (had r a)))
    | inr same ↦ had q (sym same ∙ is)
  ]

  pub attach_good : Good k
  attach_good = record {
    root = still 0 good.root;
    apart = λ n q is. elim (which n) [
      | inl e ↦ at_record k n s (λ z. AllPairs (λ e f. (p : ℕ) → Carries e p → Carries f p → ⊥) z.edges) (ap (λ (m : ℕ). record_at k m) e ∙ x.after) x.apart q is
      | inr same ↦ good.apart n q (sym same ∙ is)
    ];
    leads = λ n q is. elim (which n) [
      | inl e ↦ at_record k n s (λ z. All (λ e. IsLive k e.node) z.edges) (ap (λ (m : ℕ). record_at k m) e ∙ x.after) x.leads q is
      | inr same ↦ λ i d lt. still _ (good.leads n q (sym same ∙ is) i d lt)
    ];
    one = λ n m p a b. good.one n m p ((x.keysets n p).1 a) ((x.keysets m p).1 b);
    some = λ p place. let w = good.some p place in (w.0, (x.keysets w.0 p).0 w.1);
    stored = λ n q is. at_pairs (λ ps. All (λ y. InKeyset k n y.place) ps) n (λ q is i d lt. (x.keysets n _).0 (good.stored n q is i d lt)) q is;
    once = λ n q is. at_pairs (λ ps. AllPairs (λ y z. y.place ≡ z.place → ⊥) ps) n (λ q is. good.once n q is) q is;
  }

  pub attach_found : SameFound g k
  attach_found = record { at = λ p v place. (forth p v place, back p v place) }
    where
      forth : (p : ℕ) (v : Option ℕ) → IsPlace p → IsFound g p v → IsFound k p v
      forth p v place found =
          let w = good.some p place in
          let is : v ≡ value_at k w.0 p = found_one g p w.0 v good w.1 found ∙ values w.0 p in
          subst (λ (o : Option ℕ). IsFound k p o) (sym is) (found_here k w.0 p attach_good ((x.keysets w.0 p).0 w.1))

      back : (p : ℕ) (v : Option ℕ) → IsPlace p → IsFound k p v → IsFound g p v
      back p v place found =
          let w = good.some p place in
          let is : v ≡ value_at g w.0 p = found_one k p w.0 v attach_good ((x.keysets w.0 p).0 w.1) found ∙ sym (values w.0 p) in
          subst (λ (o : Option ℕ). IsFound g p o) (sym is) (found_here g w.0 p good w.1)

-- an edge, seen with frames that keep the low and the level of its target
pub edge_along : (f h : ℕ → Frame) (n : ℕ) (s : Span) (e : Edge) → (h n).level ≡ (f n).level → (h n).link ≡ (f n).link → (h e.node).low ≡ (f e.node).low → (h e.node).level ≡ (f e.node).level → IsLinkEdge f n s e ⊎ IsChildEdge f n s e → IsLinkEdge h n s e ⊎ IsChildEdge h n s e
edge_along f h n s e level link low level' (inl x) = inl (record { linked = link ∙ x.linked; begins = x.begins; level = level' ∙ x.level ∙ sym level; low = low ∙ x.low })
edge_along f h n s e level link low level' (inr x) = inr (record { begins = x.begins; ends = x.ends; level = ap suc level' ∙ x.level ∙ sym level; low = low ∙ x.low })

-- attaches

module _ (g k : ℕ → NodeState) (f h : ℕ → Frame) (node id cut : ℕ) (range : Span) (r s : Record) (good : Good g) (link : Link g f) (x : Attaches g k f h node id cut range r s) where
  one_of : (n : ℕ) → (n ≡ node) ⊎ (record_at k n ≡ record_at g n)
  one_of n = elim (same_or_apart n node) [ inl e ↦ inl e | inr ne ↦ inr (x.differs.same n (out_of node [] n ne refl)) ]

  live_on : (n : ℕ) → IsLive g n → IsLive k n
  live_on n live = elim (one_of n) [ inl e ↦ (s, ap (λ (m : ℕ). record_at k m) e ∙ x.after) | inr same ↦ (live.0, same ∙ live.1) ]

  live_before : (n : ℕ) → IsLive k n → IsLive g n
  live_before n live = elim (one_of n) [ inl e ↦ (r, ap (λ (m : ℕ). record_at g m) e ∙ x.before) | inr same ↦ (live.0, sym same ∙ live.1) ]

  at_frame : (n : ℕ) (P : Frame → Type 0) → P (f n) → P (h n)
  at_frame n P = subst P (sym (x.frames n))

  -- the edges of the node after
  edge_after : (t : Span) → IsRange (f node) t → (e : Edge) → IsPartOf r e ⊎ ((e.node ≡ id) × (e.span.low ≡ cut) × (e.span.last ≤ range.last)) → IsLinkEdge f node t e ⊎ IsChildEdge f node t e
  edge_after t is e (inr y) =
      let same : range ≡ t = same_range (f node) range t x.is_range is in
      subst (λ (z : Span). IsLinkEdge f node z e ⊎ IsChildEdge f node z e) same (inr (record {
        begins = omega (arith, y.1, x.above);
        ends = y.2;
        level = ap (λ (m : ℕ). suc (f m).level) y.0 ∙ x.level;
        low = ap (λ (m : ℕ). (f m).low) y.0 ∙ x.low ∙ sym y.1;
      }))
  edge_after t is e (inl part) =
      let y = edge_at r.edges (λ d. IsLinkEdge f node t d ⊎ IsChildEdge f node t d) (λ d. (d.node ≡ e.node) × (d.span.low ≡ e.span.low) × (e.span.last ≤ d.span.last)) part (link.edges node r t x.before is) in
      part_of y.0 y.1 y.2
    where
      part_of : (d : Edge) → (d.node ≡ e.node) × (d.span.low ≡ e.span.low) × (e.span.last ≤ d.span.last) → IsLinkEdge f node t d ⊎ IsChildEdge f node t d → IsLinkEdge f node t e ⊎ IsChildEdge f node t e
      part_of d p (inl z) = inl (record { linked = z.linked ∙ ap (λ (m : ℕ). Some m) p.0; begins = sym p.1 ∙ z.begins; level = ap (λ (m : ℕ). (f m).level) (sym p.0) ∙ z.level; low = ap (λ (m : ℕ). (f m).low) (sym p.0) ∙ z.low ∙ p.1 })
      part_of d p (inr z) = inr (record { begins = omega (arith, z.begins, p.1); ends = omega (arith, z.ends, p.2); level = ap (λ (m : ℕ). suc (f m).level) (sym p.0) ∙ z.level; low = ap (λ (m : ℕ). (f m).low) (sym p.0) ∙ z.low ∙ p.1 })

  link_f : Link k f
  link_f = record {
    range = λ n live. link.range n (live_before n live);
    root = link.root;
    highest = λ n live. link.highest n (live_before n live);
    apart = λ n m a b p l l'. link.apart n m a b p (live_before n l) (live_before m l');
    cover = λ l p le place. let c = link.cover l p le place in (c.0, live_on c.0 c.1, c.2, c.3, c.4, c.5);
    edges = λ n q t is rng. elim (one_of n) [
      | inl e ↦ subst (λ (m : ℕ). (q : Record) → record_at k m ≡ Some q → IsRange (f m) t → All (λ e. IsLinkEdge f m t e ⊎ IsChildEdge f m t e) q.edges) (sym e)
          (λ q is rng. at_record k node s (λ z. All (λ e. IsLinkEdge f node t e ⊎ IsChildEdge f node t e) z.edges) x.after (λ i d lt. edge_after t rng _ (x.edges i d lt)) q is) q is rng
      | inr same ↦ link.edges n q t (sym same ∙ is) rng
    ];
    inside = λ n q p is high low place. elim (one_of n) [
      | inl e ↦ at_record k n s (λ z. LeadsOn z p) (ap (λ (m : ℕ). record_at k m) e ∙ x.after) (x.on p (link.inside n r p (ap (λ (m : ℕ). record_at g m) e ∙ x.before) high low place)) q is
      | inr same ↦ link.inside n q p (sym same ∙ is) high low place
    ];
    beyond = λ n q t p is rng past place. elim (one_of n) [
      | inl e ↦ at_record k n s (λ z. LeadsOn z p) (ap (λ (m : ℕ). record_at k m) e ∙ x.after) (x.on p (link.beyond n r t p (ap (λ (m : ℕ). record_at g m) e ∙ x.before) rng past place)) q is
      | inr same ↦ link.beyond n q t p (sym same ∙ is) rng past place
    ];
  }

  root_k : IsLive k 0
  root_k = live_on 0 good.root

  apart_k : AreApart k
  apart_k n q is = elim (one_of n) [
    | inl e ↦ at_record k n s (λ z. AllPairs (λ e f. (p : ℕ) → Carries e p → Carries f p → ⊥) z.edges) (ap (λ (m : ℕ). record_at k m) e ∙ x.after) x.apart q is
    | inr same ↦ good.apart n q (sym same ∙ is)
  ]

  leads_s : All (λ e. IsLive k e.node) s.edges
  leads_s i d lt = go _ (x.edges i d lt)
    where
      go : (e : Edge) → IsPartOf r e ⊎ ((e.node ≡ id) × (e.span.low ≡ cut) × (e.span.last ≤ range.last)) → IsLive k e.node
      go e (inr y) = live_on e.node (subst (λ (m : ℕ). IsLive g m) (sym y.0) x.target)
      go e (inl part) =
          let y = edge_at r.edges (λ d. IsLive g d.node) (λ d. (d.node ≡ e.node) × (d.span.low ≡ e.span.low) × (e.span.last ≤ d.span.last)) part (good.leads node r x.before) in
          live_on e.node (subst (λ (m : ℕ). IsLive g m) y.1.0 y.2)

  leads_k : (n : ℕ) (q : Record) → record_at k n ≡ Some q → All (λ e. IsLive k e.node) q.edges
  leads_k n q is = elim (one_of n) [
    | inl e ↦ at_record k n s (λ z. All (λ e. IsLive k e.node) z.edges) (ap (λ (m : ℕ). record_at k m) e ∙ x.after) leads_s q is
    | inr same ↦ λ i d lt. live_on _ (good.leads n q (sym same ∙ is) i d lt)
  ]

  keysets : (n p : ℕ) → InKeyset g n p ↔ InKeyset k n p
  keysets n p = (
    λ i. let y = range_of_keyset g f good.root good.apart good.leads link n p i in keyset_of_range k f root_k apart_k leads_k link_f n p y.1 i.0.0 (live_on n (reached_live i.0.1)) y.2 y.0 y.3,
    λ i. let y = range_of_keyset k f root_k apart_k leads_k link_f n p i in keyset_of_range g f good.root good.apart good.leads link n p y.1 i.0.0 (live_before n (reached_live i.0.1)) y.2 y.0 y.3,
  )

  pub attach_is : IsAttach g node k r s
  attach_is = record { differs = x.differs; before = x.before; after = x.after; pairs = x.pairs; keysets = keysets; apart = x.apart; leads = leads_s }

  frame_link : (j : ℕ → Frame) → ((n : ℕ) → j n ≡ f n) → Link k j
  frame_link j same = record {
    range = λ n live. let y = link_f.range n live in (y.0, subst (λ z. IsRange z y.0) (sym (same n)) y.1);
    root = ap (λ (z : Frame). z.range) (same 0) ∙ link_f.root;
    highest = λ n live ne. omega (arith, link_f.highest n live ne, ap (λ (z : Frame). z.level) (same n), ap (λ (z : Frame). z.level) (same 0));
    apart = λ n m a b p l l' e ra rb. link_f.apart n m a b p l l' (ap (λ (z : Frame). z.level) (sym (same n)) ∙ e ∙ ap (λ (z : Frame). z.level) (same m)) (subst (λ z. IsRange z a) (same n) ra) (subst (λ z. IsRange z b) (same m) rb);
    cover = λ l p le place. let c = link_f.cover l p (omega (arith, le, ap (λ (z : Frame). z.level) (same 0))) place in (c.0, c.1, ap (λ (z : Frame). z.level) (same c.0) ∙ c.2, c.3, subst (λ z. IsRange z c.3) (sym (same c.0)) c.4, c.5);
    edges = λ n q t is rng i d lt. edge_along f j n t _ (ap (λ (z : Frame). z.level) (same n)) (ap (λ (z : Frame). z.link) (same n)) (ap (λ (z : Frame). z.low) (same _)) (ap (λ (z : Frame). z.level) (same _)) (link_f.edges n q t is (subst (λ z. IsRange z t) (same n) rng) i d lt);
    inside = λ n q p is high low place. link_f.inside n q p is (omega (arith, high, ap (λ (z : Frame). z.level) (same n))) (omega (arith, low, ap (λ (z : Frame). z.low) (same n))) place;
    beyond = λ n q t p is rng past place. link_f.beyond n q t p is (subst (λ z. IsRange z t) (same n) rng) past place;
  }

  led_on : (i : ℕ) → IsLed g f i → IsLed k h i
  led_on i l = elim (one_of l.above) [
    | inl e ↦ (
        let same : Some l.node ≡ Some r = sym l.is ∙ ap (λ (m : ℕ). record_at g m) e ∙ x.before in
        let is : l.node ≡ r = cc in
        let to = x.still l.place i (subst (λ (z : Record). LeadsTo z l.place i) is l.leads) in
        record { above = l.above; node = s; place = to.0; is = ap (λ (m : ℕ). record_at k m) e ∙ x.after; leads = to.1; level = level_same })
    | inr same ↦ record { above = l.above; node = l.node; place = l.place; is = same ∙ l.is; leads = l.leads; level = level_same }
  ]
    where
      level_same : (h l.above).level ≡ suc (h i).level
      level_same = ap (λ (z : Frame). z.level) (x.frames l.above) ∙ l.level ∙ ap (λ (z : Frame). suc z.level) (sym (x.frames i))

  pub attach_link : KeepsLink g f k h
  attach_link = record {
    link = frame_link h x.frames;
    lasts = record { live = live_on; low = λ n live. ap (λ (z : Frame). z.low) (x.frames n); level = λ n live ne. ap (λ (z : Frame). z.level) (x.frames n); led = led_on };
  }
