-- A node that splits under its parent keeps ways and the facts of trees.
use Rattle.ks_keysets.specs.declared.Record.{Record}
use Rattle.ks_keysets.specs.declared.Frame.{Frame}
use Rattle.std.proofs.Common.{ℕ, ◌≡◌, ◌<◌, ◌≤◌, ◌-◌, ◌⊎◌, inl, inr, true, List, [], ◌∷◌, Some, None, refl, sym, ◌∙◌, subst, arith}
use Rattle.std.specs.Prelude.{All}
use Rattle.ks_keysets.specs.declared.NodeState.{NodeState}
use Rattle.ks_keysets.specs.declared.Span.{Span}
use Rattle.ks_keysets.specs.Record.{LeadsTo}
use Rattle.ks_keysets.specs.Keyset.{record_at, IsLive, along, InInset, Good}
use Rattle.ks_flow.specs.Walk.{Path, arrives, passes}
use Rattle.ks_flow.specs.Ways.{names, Outcome, Inside, stays, AreAlike, ends_at}
use Rattle.ks_flow.specs.Tree.{edges_to, edges_between, OneEdge, Tree, IsInset, ActsAs}
use Rattle.ks_flow.proofs.Entry.{edges_into, EntryRegion, EdgesKept, RegionSpans}
use Rattle.ks_flow.specs.Shapes.{IsTidy, SplitsUnder, KeepsTree}
use Rattle.ks_flow.specs.Insets.{SplitsInsetUnder}
use Rattle.ks_keysets.specs.Laws.Next.{edge_one, target_live}
use Rattle.ks_flow.proofs.Paths.{leads_some}
use Rattle.ks_flow.proofs.Edges.{named_here, named_there, named_either, out_either, out_of, none_between, one_after, leads_kept, sole_parent, leads_all}
use Rattle.ks_flow.proofs.Entries.{entry_back, entry_forth}
use Rattle.ks_flow.proofs.Acts.{no_way_back, GoesOut, goes_on, acts_out, leads_or_not, acts_back}
use Rattle.ks_flow.proofs.Trees.{inset_same, inset_like, inset_from, inset_below, below_or_from, by_name1, by_name3, at_record, live_apart, between_is, pair_ends, not_on, keeps_tree, range_of_from, range_of_to, keyset_forth, keyset_back}

module _ (g k : ℕ → NodeState) (f h : ℕ → Frame) (parent node right cut : ℕ) (u v r s t : Record) (good : Good g) (tree : Tree g f) (x : SplitsUnder g k f h parent node right cut u v r s t) where
  abbrev R : List ℕ
  R = parent ∷ node ∷ right ∷ []

  fresh_apart : (n : ℕ) (l : Record) → record_at g n ≡ Some l → n ≡ right → ⊥
  fresh_apart n l is e = live_apart g n right l is x.fresh e

  fresh_target : (n p c : ℕ) (l : Record) → record_at g n ≡ Some l → LeadsTo l p c → c ≡ right → ⊥
  fresh_target n p c l is to e = let live = target_live g l p c (good.leads n l is) to in fresh_apart c live.0 live.1 e

  named_parent : names R parent ≡ true
  named_parent = named_here parent (node ∷ right ∷ [])

  named_node : names R node ≡ true
  named_node = named_there parent (node ∷ right ∷ []) node (named_here node (right ∷ []))

  named_right : names R right ≡ true
  named_right = named_there parent (node ∷ right ∷ []) right (named_there node (right ∷ []) right (named_here right []))

  -- the places that parent leads to node, and the inset of node

  up : (p : ℕ) → InInset g node p → InInset g parent p × LeadsTo u p node
  up p inset = let y = sole_parent g parent node p u tree.edges x.before_parent x.leads inset.1 in ((inset.0, y.0), y.1)

  down : (p : ℕ) → InInset g parent p → LeadsTo u p node → InInset g node p
  down p inset to = (inset.0, along u inset.1 x.before_parent to (r, x.before))

  node_out : (p : ℕ) → InInset g node p → GoesOut R p r
  node_out p inset c to named = elim (named_either parent (node ∷ right ∷ []) c named) [
    | inl e ↦ no_way_back g p node c r good inset x.before to (subst (λ (m : ℕ). Path g p node m) (sym e) (passes u x.before_parent (up p inset).1 arrives))
    | inr n ↦ elim (named_either node (right ∷ []) c n) [
      | inl e ↦ no_way_back g p node c r good inset x.before to (subst (λ (m : ℕ). Path g p node m) (sym e) arrives)
      | inr n' ↦ elim (named_either right [] c n') [ inl e ↦ fresh_target node p c r x.before to e | inr n'' ↦ cc ]
    ]
  ]

  other : parent ≡ node → ⊥
  other e =
      let y = tree.spans node (r, x.before) in
      let low = y.1.back (f node).low (omega arith) y.1.filled in
      let z = up (f node).low low in
      no_way_back g (f node).low parent node u good z.0 x.before_parent z.1 (subst (λ (m : ℕ). Path g (f node).low parent m) e arrives)

  kept : EdgesKept g R k (right ∷ []) []
  kept = record {
    distinct = (out_of node (right ∷ []) parent other (out_of right [] parent (fresh_apart parent u x.before_parent) refl), (out_of right [] node (fresh_apart node r x.before) refl, (refl, tt)));
    kept = λ m a l. let ne = (out_either right [] m a).0 in omega (arith, between_is k parent m v x.after_parent, between_is k node m s x.after, between_is k right m t x.after_right, between_is g parent m u x.before_parent, between_is g node m r x.before, x.edges m ne);
    live = λ m named l. by_name3 (λ n. IsLive k n) parent node right (v, x.after_parent) (s, x.after) (t, x.after_right) m named;
    new = λ m named. by_name1 (λ n. (record_at g n ≡ None) × IsLive k n × (edges_into k R n ≤ 1)) right (x.fresh, (t, x.after_right), omega (arith, between_is k parent right v x.after_parent, between_is k node right s x.after, between_is k right right t x.after_right, x.edge)) m named;
    gone = λ m named. absurd (cc);
  }

  at_node : (p : ℕ) (o : Outcome) → InInset g parent p → LeadsTo u p node → Inside g R p node o → (q : Outcome) × Inside k R p parent q × AreAlike g k p o q
  at_node p o inset to i = elim (below_or_from p cut) [
    | inl lt ↦ (
        let y = x.below_cut p inset to lt in
        let q = acts_out g k R p node node o r s x.before x.after named_node y.1 (node_out p (down p inset to)) i in
        (q.0, stays v named_parent x.after_parent y.0 q.1, q.2))
    | inr le ↦ (
        let y = x.from_cut p inset to le in
        let q = acts_out g k R p node right o r t x.before x.after_right named_right y.1 (node_out p (down p inset to)) i in
        (q.0, stays v named_parent x.after_parent y.0 q.1, q.2))
  ]

  alike : (p : ℕ) (o : Outcome) → InInset g parent p → Inside g R p parent o → (q : Outcome) × Inside k R p parent q × AreAlike g k p o q
  alike p o inset i = elim (goes_on g R p parent o u good.apart x.before_parent i) [
    | inl y ↦ inner y.0 y.1 y.3 (named_either parent (node ∷ right ∷ []) y.0 y.2)
    | inr out ↦ acts_out g k R p parent parent o u v x.before_parent x.after_parent named_parent (x.else p inset (λ to. out node to named_node)) out i
  ]
    where
      inner : (c : ℕ) → LeadsTo u p c → Inside g R p c o → (c ≡ parent) ⊎ (names (node ∷ right ∷ []) c ≡ true) → (q : Outcome) × Inside k R p parent q × AreAlike g k p o q
      inner c to j (inl e) = absurd (no_way_back g p parent c u good inset x.before_parent to (subst (λ (m : ℕ). Path g p parent m) (sym e) arrives))
      inner c to j (inr n) = elim (named_either node (right ∷ []) c n) [
        | inl e ↦ at_node p o inset (subst (λ (m : ℕ). LeadsTo u p m) e to) (subst (λ (m : ℕ). Inside g R p m o) e j)
        | inr n' ↦ elim (named_either right [] c n') [ inl e ↦ absurd (fresh_target parent p c u x.before_parent to e) | inr n'' ↦ absurd (cc) ]
      ]

  tidy_all : (n : ℕ) (l : Record) → names R n ≡ true → record_at k n ≡ Some l → IsTidy l
  tidy_all n l named is = by_name3 (λ n. (q : Record) → record_at k n ≡ Some q → IsTidy q) parent node right (at_record k parent v IsTidy x.after_parent x.tidy_parent) (at_record k node s IsTidy x.after x.tidy) (at_record k right t IsTidy x.after_right x.tidy_right) n named l is

  entry : EntryRegion g R k parent
  entry = record {
    entry = named_parent;
    root = λ named. root_at (named_either parent (node ∷ right ∷ []) 0 named);
    alone = λ n m out named some. by_name3 (λ n'. 0 < edges_between g n n' → n' ≡ parent) parent node right (λ _. refl) (λ lt. absurd (omega (arith, lt, tree.edges.one node n parent (out_either parent (node ∷ right ∷ []) n out).0, between_is g parent node u x.before_parent, x.leads))) (λ lt. absurd (omega (arith, none_between g n right good x.fresh))) m named some;
    alike = alike;
    live = (v, x.after_parent);
    apart = λ n l named is. (tidy_all n l named is).apart;
    leads = leads_kept g R k (right ∷ []) [] x.differs kept good;
    stored = λ n l named is. by_name3 (λ n. (q : Record) → record_at k n ≡ Some q → All (λ y. InInset g parent y.place × Inside k R y.place parent (ends_at n)) q.pairs) parent node right
        (at_record k parent v (λ q. All (λ y. InInset g parent y.place × Inside k R y.place parent (ends_at parent)) q.pairs) x.after_parent
        (λ i d lt. let y = x.pairs_parent i d lt in (y.0, pair_ends g k R _ parent parent u v y x.before_parent x.after_parent named_parent (x.else _ y.0 (not_on g parent _ u y x.before_parent node)))))
        (at_record k node s (λ q. All (λ y. InInset g parent y.place × Inside k R y.place parent (ends_at node)) q.pairs) x.after
        (λ i d lt. let y = x.pairs i d lt in let z = up _ y.0.0 in let w = x.below_cut _ z.0 z.1 y.1 in (z.0, stays v named_parent x.after_parent w.0 (pair_ends g k R _ node node r s y.0 x.before x.after named_node w.1))))
        (at_record k right t (λ q. All (λ y. InInset g parent y.place × Inside k R y.place parent (ends_at right)) q.pairs) x.after_right
        (λ i d lt. let y = x.pairs_right i d lt in let z = up _ y.0.0 in let w = x.from_cut _ z.0 z.1 y.1 in (z.0, stays v named_parent x.after_parent w.0 (pair_ends g k R _ node right r t y.0 x.before x.after_right named_right w.1)))) n named l is;
    once = λ n l named is. (tidy_all n l named is).once;
  }
    where
      root_at : (0 ≡ parent) ⊎ (names (node ∷ right ∷ []) 0 ≡ true) → 0 ≡ parent
      root_at (inl e) = e
      root_at (inr n) = elim (named_either node (right ∷ []) 0 n) [
        | inl e ↦ absurd (omega (arith, tree.edges.none parent, between_is g parent 0 u x.before_parent, subst (λ (m : ℕ). 0 < edges_to u.edges m) (sym e) x.leads))
        | inr n' ↦ elim (named_either right [] 0 n') [ inl e ↦ absurd (fresh_apart 0 good.root.0 good.root.1 e) | inr n'' ↦ absurd (cc) ]
      ]

  -- insets after

  parent_back : (p : ℕ) → InInset k parent p → InInset g parent p
  parent_back = entry_back g R k parent x.differs entry good

  parent_forth : (p : ℕ) → InInset g parent p → InInset k parent p
  parent_forth = entry_forth g R k parent x.differs entry good

  one_k : OneEdge k
  one_k = one_after g R k (right ∷ []) [] x.differs kept good tree.edges

  to_node : 0 < edges_to v.edges node
  to_node =
      let y = tree.spans node (r, x.before) in
      let z = up (f node).low (y.1.back (f node).low (omega arith) y.1.filled) in
      leads_some v (f node).low node (x.below_cut (f node).low z.0 z.1 x.above).0

  to_right : 0 < edges_to v.edges right
  to_right = let z = up cut x.cut_inside in leads_some v cut right (x.from_cut cut z.0 z.1 (omega arith)).0

  -- the places that parent leads to node or right after, it led to node before
  led_before : (p m : ℕ) → InInset g parent p → LeadsTo v p m → (m ≡ node) ⊎ (m ≡ right) → LeadsTo u p node
  led_before p m inset to which = elim (leads_or_not g p parent node u good inset x.before_parent) [
    | inl yes' ↦ yes'
    | inr not ↦ (
        let back = acts_back v u p m (x.else p inset not) x.tidy_parent.apart to in
        elim which [ inl e ↦ absurd (not (subst (λ (c : ℕ). LeadsTo u p c) e back)) | inr e ↦ absurd (fresh_target parent p m u x.before_parent back e) ])
  ]

  node_back : (p : ℕ) → InInset k node p → InInset g node p × (p < cut)
  node_back p i =
      let y = sole_parent k parent node p v one_k x.after_parent to_node i.1 in
      let inset = parent_back p (i.0, y.0) in
      let led = led_before p node inset y.1 (inl refl) in
      (down p inset led, at_most inset led y.1 (below_or_from p cut))
    where
      at_most : InInset g parent p → LeadsTo u p node → LeadsTo v p node → (p < cut) ⊎ (cut ≤ p) → p < cut
      at_most inset led to (inl lt) = lt
      at_most inset led to (inr le) = absurd (fresh_apart node r x.before (edge_one v.edges p node right x.tidy_parent.apart to (x.from_cut p inset led le).0))

  right_back : (p : ℕ) → InInset k right p → InInset g node p × (cut ≤ p)
  right_back p i =
      let y = sole_parent k parent right p v one_k x.after_parent to_right i.1 in
      let inset = parent_back p (i.0, y.0) in
      let led = led_before p right inset y.1 (inr refl) in
      (down p inset led, at_least inset led y.1 (below_or_from p cut))
    where
      at_least : InInset g parent p → LeadsTo u p node → LeadsTo v p right → (p < cut) ⊎ (cut ≤ p) → cut ≤ p
      at_least inset led to (inr le) = le
      at_least inset led to (inl lt) = absurd (fresh_apart node r x.before (edge_one v.edges p node right x.tidy_parent.apart (x.below_cut p inset led lt).0 to))

  node_forth : (p : ℕ) → InInset g node p → p < cut → InInset k node p
  node_forth p inset lt = let z = up p inset in (inset.0, along v (parent_forth p z.0).1 x.after_parent (x.below_cut p z.0 z.1 lt).0 (s, x.after))

  right_forth : (p : ℕ) → InInset g node p → cut ≤ p → InInset k right p
  right_forth p inset le = let z = up p inset in (inset.0, along v (parent_forth p z.0).1 x.after_parent (x.from_cut p z.0 z.1 le).0 (t, x.after_right))

  parent_inset : (a b : ℕ) → IsInset g parent a b → IsInset k parent a b
  parent_inset a b y = inset_like g k parent parent a b y parent_back parent_forth

  node_inset : (a b : ℕ) → IsInset g node a b → IsInset k node a (cut - 1)
  node_inset a b y =
      let z = tree.spans node (r, x.before) in
      let same = (inset_same g node a b (f node).low z.0 y z.1).0 in
      inset_below g k node node a b cut y x.cut_inside (omega (arith, same, x.above)) node_back node_forth

  right_inset : (a b : ℕ) → IsInset g node a b → IsInset k right cut b
  right_inset a b y = inset_from g k node right a b cut y x.cut_inside right_back right_forth

  spans : RegionSpans R k h
  spans = record {
    spans = λ n named live. by_name3 (λ n. (last : ℕ) × IsInset k n (h n).low last) parent node right
        (let y = tree.spans parent (u, x.before_parent) in (y.0, subst (λ (a : ℕ). IsInset k parent a y.0) (sym x.low_parent) (parent_inset (f parent).low y.0 y.1)))
        (let y = tree.spans node (r, x.before) in (cut - 1, subst (λ (a : ℕ). IsInset k node a (cut - 1)) (sym x.low) (node_inset (f node).low y.0 y.1)))
        (let y = tree.spans node (r, x.before) in (y.0, subst (λ (a : ℕ). IsInset k right a y.0) (sym x.low_right) (right_inset (f node).low y.0 y.1))) n named;
    range = λ n q named live is. by_name3 (λ n. (q : Span) → (h n).range ≡ Some q → IsInset k n q.low q.last) parent node right
        (λ q is. parent_inset q.low q.last (tree.range parent q (u, x.before_parent) (sym x.range_parent ∙ is)))
        (λ q is. let y = range_of_to (f node).range (h node).range (cut - 1) q x.range is in
        let z = node_inset y.0.low y.0.last (tree.range node y.0 (r, x.before) y.1) in
        subst (λ (b : ℕ). IsInset k node q.low b) (sym y.3) (subst (λ (a : ℕ). IsInset k node a (cut - 1)) (sym y.2) z))
        (λ q is. let y = range_of_from (f node).range (h right).range cut q x.range_right is in
        let z = right_inset y.0.low y.0.last (tree.range node y.0 (r, x.before) y.1) in
        subst (λ (b : ℕ). IsInset k right q.low b) (sym y.3) (subst (λ (a : ℕ). IsInset k right a y.0.last) (sym y.2) z)) n named q is;
  }

  pub split_under : KeepsTree g R k h
  split_under = keeps_tree g R k parent f h (right ∷ []) [] x.differs entry good x.frames kept spans tree

  pub split_under_insets : SplitsInsetUnder g k parent node right cut
  split_under_insets = record {
    at_parent = λ p. (parent_back p, parent_forth p);
    at_node = λ p. (node_back p, λ i. node_forth p i.0 i.1);
    at_right = λ p. (right_back p, λ i. right_forth p i.0 i.1);
    keyset_node = λ p. (
      λ i. let y = node_back p i.0 in (keyset_back g k node node p r s x.before x.after (acts_low p y.0 y.1) i y.0, y.1),
      λ i. keyset_forth g k node node p r s x.before x.after (acts_low p i.0.0 i.1) i.0 (node_forth p i.0.0 i.1),
    );
    keyset_right = λ p. (
      λ i. let y = right_back p i.0 in (keyset_back g k node right p r t x.before x.after_right (acts_high p y.0 y.1) i y.0, y.1),
      λ i. keyset_forth g k node right p r t x.before x.after_right (acts_high p i.0.0 i.1) i.0 (right_forth p i.0.0 i.1),
    );
    leads_node = leads_all k parent node v one_k x.after_parent to_node;
    leads_right = leads_all k parent right v one_k x.after_parent to_right;
  }
    where
      acts_low : (p : ℕ) → InInset g node p → p < cut → ActsAs s r p
      acts_low p inset lt = let z = up p inset in (x.below_cut p z.0 z.1 lt).1

      acts_high : (p : ℕ) → InInset g node p → cut ≤ p → ActsAs t r p
      acts_high p inset le = let z = up p inset in (x.from_cut p z.0 z.1 le).1
