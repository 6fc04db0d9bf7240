-- Under the facts of links a keyset is a range of level 0.
use Rattle.ks_keysets.specs.declared.Record.{Record}
use Rattle.ks_keysets.specs.declared.Frame.{Frame}
use Rattle.std.proofs.Common.{ℕ, zero, suc, ◌≡◌, ◌<◌, ◌≤◌, ◌+◌, ◌⊎◌, inl, inr, Bool, true, false, cond, List, Some, refl, sym, ◌∙◌, ap, subst, arith}
use Rattle.std.specs.Prelude.{All, Any, AllPairs, Option, is_some}
use Rattle.std.proofs.lemmas.Bool.Decides.{leb_tells, eqb_tells}
use Rattle.ks_keysets.specs.declared.Edge.{Edge}
use Rattle.ks_keysets.specs.declared.NodeState.{NodeState}
use Rattle.ks_keysets.specs.declared.Span.{Span}
use Rattle.ks_keysets.specs.Record.{IsPlace, top, Holds, Carries, LeadsTo, LeadsOn}
use Rattle.ks_keysets.specs.Keyset.{record_at, IsLive, Reaches, at_root, along, InOutset, InKeyset, AreApart, Good}
use Rattle.ks_flow.specs.Link.{Link, IsRange, IsLinkEdge, IsChildEdge, lives_below}
use Rattle.ks_keysets.specs.Laws.Found.{reached_live}
use Rattle.ks_keysets.specs.Laws.Next.{target_live}
use Rattle.ks_flow.proofs.Walks.{ends_one, keyset_ends}
use Rattle.ks_keysets.specs.Laws.Pigeons.{pigeonhole}

pub edge_at : (es : List Edge) (P Q : Edge → Type 0) → Any Q es → All P es → (e : Edge) × Q e × P e
edge_at es P Q (k, x, lt, is, h) all = (x, h, subst P is (all k x lt))

pub same_range : (f : Frame) (s t : Span) → IsRange f s → IsRange f t → s ≡ t
same_range f s t a b = let e : Some s ≡ Some t = sym a.is ∙ b.is in cc

-- a live node is counted, so two live nodes have different numbers of live nodes below them

lives_more : (g : ℕ → NodeState) (n : ℕ) → lives_below g n ≤ lives_below g (suc n)
lives_more g n = go (is_some (record_at g n))
  where
    go : (t : Bool) → lives_below g n ≤ cond t (suc (lives_below g n)) (lives_below g n)
    go true = omega arith
    go false = omega arith

lives_one : (g : ℕ → NodeState) (n : ℕ) → IsLive g n → lives_below g (suc n) ≡ suc (lives_below g n)
lives_one g n live = ap (λ (o : Option Record). cond (is_some o) (suc (lives_below g n)) (lives_below g n)) live.1

lives_less : (g : ℕ → NodeState) (n m : ℕ) → n < m → IsLive g n → lives_below g n < lives_below g m
lives_less g n zero lt live = absurd (omega arith)
lives_less g n (suc m) lt live = elim (eqb_tells n m) [
  | inl e ↦ subst (λ (z : ℕ). lives_below g n < lives_below g (suc z)) e.1 (omega (arith, lives_one g n live))
  | inr ne ↦ let less : lives_below g n < lives_below g m = lives_less g n m (omega (arith, ne.1)) live in omega (arith, less, lives_more g m)
]

lives_upto : (g : ℕ → NodeState) (n : ℕ) → lives_below g n ≤ n
lives_upto g zero = omega arith
lives_upto g (suc n) = let less : lives_below g n ≤ n = lives_upto g n in go less (is_some (record_at g n))
  where
    go : lives_below g n ≤ n → (t : Bool) → cond t (suc (lives_below g n)) (lives_below g n) ≤ suc n
    go less true = omega arith
    go less false = omega arith

lives_apart : (g : ℕ → NodeState) (n m : ℕ) → IsLive g n → IsLive g m → lives_below g n ≡ lives_below g m → n ≡ m
lives_apart g n m live other same = elim (leb_tells (suc n) m) [
  | inl lt ↦ absurd (omega (arith, same, lives_less g n m lt.1 live))
  | inr ge ↦ elim (leb_tells (suc m) n) [
    | inl gt ↦ absurd (omega (arith, same, lives_less g m n gt.1 other))
    | inr le ↦ omega (arith, ge.1, le.1)
  ]
]

module _ (g : ℕ → NodeState) (f : ℕ → Frame) (root : IsLive g 0) (apart : AreApart g) (leads : (n : ℕ) (r : Record) → record_at g n ≡ Some r → All (λ e. IsLive g e.node) r.edges) (link : Link g f) where
  -- an edge that carries a place
  edge_on : (n : ℕ) (r : Record) (s : Span) (p : ℕ) → record_at g n ≡ Some r → IsRange (f n) s → LeadsOn r p → (e : Edge) × LeadsTo r p e.node × Carries e p × (IsLinkEdge f n s e ⊎ IsChildEdge f n s e)
  edge_on n r s p is range (k, x, lt, at, carries) = (x, (k, x, lt, at, (carries, refl)), carries, subst (λ (e : Edge). IsLinkEdge f n s e ⊎ IsChildEdge f n s e) at (link.edges n r s is range k x lt))

  low_at : (m p : ℕ) (s : Span) (n : ℕ) (e : Edge) → Carries e p → IsLinkEdge f n s e ⊎ IsChildEdge f n s e → (f e.node).low ≤ p
  low_at m p s n e c (inl h) = omega (arith, c.0, h.low)
  low_at m p s n e c (inr h) = omega (arith, c.0, h.low)

  -- a place that reaches a node is not below its low
  pub low_reached : (p n : ℕ) → Reaches g p n → (f n).low ≤ p
  low_reached p n (at_root live) =
      let s = link.range 0 root in
      let e : Some s.0 ≡ Some (record { low = 0; last = top }) = sym s.1.is ∙ link.root in
      let e' : s.0 ≡ record { low = 0; last = top } = cc in
      omega (arith, s.1.low, ap (λ (z : Span). z.low) e')
  low_reached p n (along {n = m} r reach is to live) =
      let s = link.range m (r, is) in
      let e = edge_at r.edges (λ e. IsLinkEdge f m s.0 e ⊎ IsChildEdge f m s.0 e) (λ e. Carries e p × (e.node ≡ n)) to (link.edges m r s.0 is s.1) in
      subst (λ (x : ℕ). (f x).low ≤ p) e.1.1 (low_at n p s.0 m e.0 e.1.0 e.2)

  -- where the walk of a place that has come to a node ends
  abbrev EndsBelow : ℕ → Type 0
  EndsBelow p = (n : ℕ) × Reaches g p n × ((f n).level ≡ 0) × (s : Span) × IsRange (f n) s × Holds s p

  abbrev FromLevel : ℕ → ℕ → Type 0
  FromLevel p l = (d a : ℕ) → p ≤ (f a).low + d → Reaches g p a → (f a).level ≡ l → EndsBelow p

  next_live : (n p m : ℕ) (r : Record) → record_at g n ≡ Some r → LeadsTo r p m → IsLive g m
  next_live n p m r is to = target_live g r p m (leads n r is) to

  -- the place is in the range of the node: the node is on level 0, or the place goes one level down
  in_range : (p l a : ℕ) (r : Record) (s : Span) → IsPlace p → ((j : ℕ) → suc j ≡ l → FromLevel p j) → Reaches g p a → record_at g a ≡ Some r → IsRange (f a) s → (f a).level ≡ l → p ≤ s.last → EndsBelow p
  in_range p zero a r s place down reach is range level le = (a, reach, level, s, range, (omega (arith, low_reached p a reach, range.low), le))
  in_range p (suc l) a r s place down reach is range level le =
      let e = edge_on a r s p is range (link.inside a r p is (omega arith) (low_reached p a reach) place) in
      go e.0 e.1 e.2 e.3
    where
      go : (e : Edge) → LeadsTo r p e.node → Carries e p → IsLinkEdge f a s e ⊎ IsChildEdge f a s e → EndsBelow p
      go e to c (inl h) = absurd (omega (arith, c.0, h.begins))
      go e to c (inr h) = down l refl p e.node (omega arith) (along r reach is to (next_live a p e.node r is to)) (omega (arith, h.level))

  descend : (p l : ℕ) → IsPlace p → ((j : ℕ) → suc j ≡ l → FromLevel p j) → FromLevel p l
  descend p l place down zero a near reach level =
      let live = reached_live reach in
      let s = link.range a live in
      in_range p l a live.0 s.0 place down reach live.1 s.1 level (omega (arith, s.1.low, s.1.filled))
  descend p l place down (suc d) a near reach level =
      let live = reached_live reach in
      let s = link.range a live in
      elim (leb_tells p s.0.last) [
        | inl le ↦ in_range p l a live.0 s.0 place down reach live.1 s.1 level le.1
        | inr gt ↦ (
            let past : s.0.last < p = omega (arith, gt.1) in
            let e = edge_on a live.0 s.0 p live.1 s.1 (link.beyond a live.0 s.0 p live.1 s.1 past place) in
            go live.0 live.1 s.0 s.1 past e.0 e.1 e.2 e.3 (λ b near' reach' level'. descend p l place down d b near' reach' level'))
      ]
    where
      go : (r : Record) → record_at g a ≡ Some r → (s : Span) → IsRange (f a) s → s.last < p → (e : Edge) → LeadsTo r p e.node → Carries e p → IsLinkEdge f a s e ⊎ IsChildEdge f a s e → ((b : ℕ) → p ≤ (f b).low + d → Reaches g p b → (f b).level ≡ l → EndsBelow p) → EndsBelow p
      go r is s range past e to c (inl h) on = on e.node (omega (arith, h.low, h.begins, range.low, range.filled)) (along r reach is to (next_live a p e.node r is to)) (h.level ∙ level)
      go r is s range past e to c (inr h) on = absurd (omega (arith, c.1, h.ends))

  from_level : (p l : ℕ) → IsPlace p → FromLevel p l
  from_level p zero place = descend p zero place (λ j e. absurd (omega arith))
  from_level p (suc l) place = descend p (suc l) place (λ j e. subst (λ (x : ℕ). FromLevel p x) (let h : l ≡ j = omega arith in h) (from_level p l place))

  -- the keyset of a node of level 0 is its range, and that of another node is empty

  level_zero_ends : (n p : ℕ) (s : Span) → IsRange (f n) s → (f n).level ≡ 0 → Holds s p → InOutset g n p → ⊥
  level_zero_ends n p s range level holds (r, is, on) = let e = edge_on n r s p is range on in go e.0 e.2 e.3
    where
      go : (e : Edge) → Carries e p → IsLinkEdge f n s e ⊎ IsChildEdge f n s e → ⊥
      go e c (inl h) = omega (arith, c.0, h.begins, holds.1)
      go e c (inr h) = omega (arith, h.level)

  pub keyset_of_range : (n p : ℕ) (s : Span) → IsPlace p → IsLive g n → IsRange (f n) s → (f n).level ≡ 0 → Holds s p → InKeyset g n p
  keyset_of_range n p s place live range level holds =
      let w = from_level p (f 0).level place p 0 (omega arith) (at_root root) refl in
      let same : w.0 ≡ n = link.apart w.0 n w.3 s p (reached_live w.1) live (w.2 ∙ sym level) w.4 range w.5 holds in
      ((place, subst (λ (m : ℕ). Reaches g p m) same w.1), level_zero_ends n p s range level holds)

  pub range_of_keyset : (n p : ℕ) → InKeyset g n p → ((f n).level ≡ 0) × (s : Span) × IsRange (f n) s × Holds s p
  range_of_keyset n p h =
      let live = reached_live h.0.1 in
      let s = link.range n live in
      let low : (f n).low ≤ p = low_reached p n h.0.1 in
      (level (f n).level refl live low, s.0, s.1, (omega (arith, s.1.low), last live s.0 s.1))
    where
      level : (l : ℕ) → (f n).level ≡ l → IsLive g n → (f n).low ≤ p → (f n).level ≡ 0
      level zero is live low = is
      level (suc l) is live low = absurd (h.1 (live.0, live.1, link.inside n live.0 p live.1 (omega arith) low h.0.0))

      last : IsLive g n → (s : Span) → IsRange (f n) s → p ≤ s.last
      last live s range = elim (leb_tells p s.last) [
        | inl le ↦ le.1
        | inr gt ↦ absurd (h.1 (live.0, live.1, link.beyond n live.0 s p live.1 range (omega (arith, gt.1)) h.0.0))
      ]

  -- so the graph is good if each pair is in the range of a node of level 0, once
  pub link_good : ((n : ℕ) (r : Record) → record_at g n ≡ Some r → All (λ x. InKeyset g n x.place) r.pairs) → ((n : ℕ) (r : Record) → record_at g n ≡ Some r → AllPairs (λ x y. x.place ≡ y.place → ⊥) r.pairs) → Good g
  link_good stored once = record {
    root = root;
    apart = apart;
    leads = leads;
    one = λ n m p h h'. ends_one g p n m 0 0 apart refl (keyset_ends g p n h) (keyset_ends g p m h');
    some = λ p place. let c = link.cover 0 p (omega arith) place in (c.0, keyset_of_range c.0 p c.3 place c.1 c.4 c.2 c.5);
    stored = stored;
    once = once;
  }

  leb_tells' : (l : ℕ) → (l ≤ (f 0).level) ⊎ ((f 0).level < l)
  leb_tells' l = elim (leb_tells l (f 0).level) [ inl le ↦ inl le.1 | inr gt ↦ inr (omega (arith, gt.1)) ]

  -- a node of a level
  abbrev pick : (l : ℕ) → (l ≤ (f 0).level) ⊎ ((f 0).level < l) → ℕ
  pick l (inl le) = (link.cover l 0 le (omega arith)).0
  pick l (inr gt) = 0

  picked : (l : ℕ) (d : (l ≤ (f 0).level) ⊎ ((f 0).level < l)) → l ≤ (f 0).level → IsLive g (pick l d) × ((f (pick l d)).level ≡ l)
  picked l (inl le) le' = let c = link.cover l 0 le (omega arith) in (c.1, c.2)
  picked l (inr gt) le' = absurd (omega arith)

  -- the level of the root is below the number of live nodes: each level has one
  pub root_level : (bound : ℕ) → ((n : ℕ) → IsLive g n → n < bound) → (f 0).level < lives_below g bound
  root_level bound within = omega (arith, pigeonhole (suc (f 0).level) (lives_below g bound) (λ l. lives_below g (at l)) into one)
    where
      at : ℕ → ℕ
      at l = pick l (leb_tells' l)

      at_is : (l : ℕ) → l ≤ (f 0).level → IsLive g (at l) × ((f (at l)).level ≡ l)
      at_is l le = picked l (leb_tells' l) le

      into : (i : ℕ) → i < suc (f 0).level → lives_below g (at i) < lives_below g bound
      into i lt = let live = (at_is i (omega arith)).0 in lives_less g (at i) bound (within (at i) live) live

      one : (i j : ℕ) → i < suc (f 0).level → j < suc (f 0).level → lives_below g (at i) ≡ lives_below g (at j) → i ≡ j
      one i j lt lt' same = sym (at_is i (omega arith)).1 ∙ ap (λ (n : ℕ). (f n).level) (lives_apart g (at i) (at j) (at_is i (omega arith)).0 (at_is j (omega arith)).0 same) ∙ (at_is j (omega arith)).1

  -- so below any bound on the numbers of live nodes
  pub root_bound : (bound : ℕ) → ((n : ℕ) → IsLive g n → n < bound) → (f 0).level < bound
  root_bound bound within = omega (arith, root_level bound within, lives_upto g bound)
