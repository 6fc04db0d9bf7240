-- A node that grows keeps ways and the facts of trees.
use Rattle.ks_keysets.specs.declared.Record.{Record}
use Rattle.ks_keysets.specs.declared.Frame.{Frame}
use Rattle.std.proofs.Common.{ℕ, ◌≡◌, ◌<◌, ◌≤◌, ◌-◌, ◌⊎◌, inl, inr, true, List, [], ◌∷◌, Some, None, refl, sym, ◌∙◌, subst, arith}
use Rattle.std.specs.Prelude.{All}
use Rattle.ks_keysets.specs.declared.NodeState.{NodeState}
use Rattle.ks_keysets.specs.declared.Span.{Span}
use Rattle.ks_keysets.specs.Record.{LeadsTo}
use Rattle.ks_keysets.specs.Keyset.{record_at, IsLive, along, InInset, Good}
use Rattle.ks_flow.specs.Walk.{arrives}
use Rattle.ks_flow.specs.Ways.{names, Outcome, Inside, stays, ends, AreAlike, ends_at}
use Rattle.ks_flow.specs.Tree.{edges_to, edges_between, OneEdge, Tree, IsInset}
use Rattle.ks_flow.proofs.Entry.{edges_into, EntryRegion, EdgesKept, RegionSpans}
use Rattle.ks_flow.specs.Shapes.{IsTidy, GrowsOff, Grows, KeepsTree}
use Rattle.ks_flow.specs.Insets.{GrowsInset}
use Rattle.ks_keysets.specs.Laws.Next.{edge_one, target_live}
use Rattle.ks_flow.proofs.Paths.{leads_some}
use Rattle.ks_flow.proofs.Edges.{named_here, named_there, out_either, out_of, none_between, one_after, leads_kept, sole_parent, leads_all}
use Rattle.ks_flow.proofs.Entries.{entry_back, entry_forth}
use Rattle.ks_flow.proofs.Acts.{no_way_back, GoesOut, acts_out}
use Rattle.ks_flow.proofs.Trees.{inset_same, inset_like, inset_from, inset_below, below_or_from, by_name2, by_name3, at_record, live_apart, between_is, pair_ends, keeps_tree, range_of_from, range_of_to, keyset_forth, keyset_back}

module _ (g k : ℕ → NodeState) (node left right cut : ℕ) (r v s t : Record) (good : Good g) (x : GrowsOff g k node left right cut r v s t) where
  abbrev R : List ℕ
  R = node ∷ left ∷ right ∷ []

  fresh_target : (p c : ℕ) → LeadsTo r p c → record_at g c ≡ None → ⊥
  fresh_target p c to none = let live = target_live g r p c (good.leads node r x.before) to in live_apart g c c live.0 live.1 none refl

  named_node : names R node ≡ true
  named_node = named_here node (left ∷ right ∷ [])

  named_left : names R left ≡ true
  named_left = named_there node (left ∷ right ∷ []) left (named_here left (right ∷ []))

  named_right : names R right ≡ true
  named_right = named_there node (left ∷ right ∷ []) right (named_there left (right ∷ []) right (named_here right []))

  node_out : (p : ℕ) → InInset g node p → GoesOut R p r
  node_out p inset c to named = by_name3 (λ c. LeadsTo r p c → ⊥) node left right
      (λ to. no_way_back g p node node r good inset x.before to arrives)
      (λ to. fresh_target p left to x.fresh_left)
      (λ to. fresh_target p right to x.fresh) c named to

  alike : (p : ℕ) (o : Outcome) → InInset g node p → Inside g R p node o → (q : Outcome) × Inside k R p node q × AreAlike g k p o q
  alike p o inset i = elim (below_or_from p cut) [
    | inl lt ↦ (
        let y = x.below_cut p inset lt in
        let q = acts_out g k R p node left o r s x.before x.after_left named_left y.1 (node_out p inset) i in
        (q.0, stays v named_node x.after y.0 q.1, q.2))
    | inr le ↦ (
        let y = x.from_cut p inset le in
        let q = acts_out g k R p node right o r t x.before x.after_right named_right y.1 (node_out p inset) i in
        (q.0, stays v named_node x.after y.0 q.1, q.2))
  ]

  tidy_all : (n : ℕ) (l : Record) → names R n ≡ true → record_at k n ≡ Some l → IsTidy l
  tidy_all n l named is = by_name3 (λ n. (q : Record) → record_at k n ≡ Some q → IsTidy q) node left right (at_record k node v IsTidy x.after x.tidy) (at_record k left s IsTidy x.after_left x.tidy_left) (at_record k right t IsTidy x.after_right x.tidy_right) n named l is

  pub grow_entry : ((n : ℕ) (l : Record) → names R n ≡ true → record_at k n ≡ Some l → All (λ e. IsLive k e.node) l.edges) → EntryRegion g R k node
  grow_entry leads = record {
    entry = named_node;
    root = λ named. by_name3 (λ n. (l : Record) → record_at g n ≡ Some l → n ≡ node) node left right (λ l is. refl) (λ l is. absurd (live_apart g left left l is x.fresh_left refl)) (λ l is. absurd (live_apart g right right l is x.fresh refl)) 0 named good.root.0 good.root.1;
    alone = λ n m out named some. by_name3 (λ n'. 0 < edges_between g n n' → n' ≡ node) node left right (λ _. refl) (λ lt. absurd (omega (arith, none_between g n left good x.fresh_left))) (λ lt. absurd (omega (arith, none_between g n right good x.fresh))) m named some;
    alike = alike;
    live = (v, x.after);
    apart = λ n l named is. (tidy_all n l named is).apart;
    leads = leads;
    stored = λ n l named is. by_name3 (λ n. (q : Record) → record_at k n ≡ Some q → All (λ y. InInset g node y.place × Inside k R y.place node (ends_at n)) q.pairs) node left right
        (at_record k node v (λ q. All (λ y. InInset g node y.place × Inside k R y.place node (ends_at node)) q.pairs) x.after
        (λ i d lt. let y = x.pairs i d lt in (y.0.0, ends v named_node x.after y.1)))
        (at_record k left s (λ q. All (λ y. InInset g node y.place × Inside k R y.place node (ends_at left)) q.pairs) x.after_left
        (λ i d lt. let y = x.pairs_left i d lt in let w = x.below_cut _ y.0.0 y.1 in (y.0.0, stays v named_node x.after w.0 (pair_ends g k R _ node left r s y.0 x.before x.after_left named_left w.1))))
        (at_record k right t (λ q. All (λ y. InInset g node y.place × Inside k R y.place node (ends_at right)) q.pairs) x.after_right
        (λ i d lt. let y = x.pairs_right i d lt in let w = x.from_cut _ y.0.0 y.1 in (y.0.0, stays v named_node x.after w.0 (pair_ends g k R _ node right r t y.0 x.before x.after_right named_right w.1)))) n named l is;
    once = λ n l named is. (tidy_all n l named is).once;
  }

module _ (g k : ℕ → NodeState) (f h : ℕ → Frame) (node left right cut : ℕ) (r v s t : Record) (good : Good g) (tree : Tree g f) (own : Grows g k f h node left right cut r v s t) where
  abbrev S : List ℕ
  S = node ∷ left ∷ right ∷ []

  kept : EdgesKept g S k (left ∷ right ∷ []) []
  kept = record {
    distinct = (out_of left (right ∷ []) node (live_apart g node left r own.ways.before own.ways.fresh_left) (out_of right [] node (live_apart g node right r own.ways.before own.ways.fresh) refl), (out_of right [] left own.ways.other refl, (refl, tt)));
    kept = λ m a l. let n = out_either left (right ∷ []) m a in let n' = out_either right [] m n.1 in omega (arith, between_is k node m v own.ways.after, between_is k left m s own.ways.after_left, between_is k right m t own.ways.after_right, between_is g node m r own.ways.before, own.edges m n.0 n'.0);
    live = λ m named l. by_name3 (λ n. IsLive k n) node left right (v, own.ways.after) (s, own.ways.after_left) (t, own.ways.after_right) m named;
    new = λ m named. by_name2 (λ n. (record_at g n ≡ None) × IsLive k n × (edges_into k S n ≤ 1)) left right
        (own.ways.fresh_left, (s, own.ways.after_left), omega (arith, between_is k node left v own.ways.after, between_is k left left s own.ways.after_left, between_is k right left t own.ways.after_right, own.edge_left))
        (own.ways.fresh, (t, own.ways.after_right), omega (arith, between_is k node right v own.ways.after, between_is k left right s own.ways.after_left, between_is k right right t own.ways.after_right, own.edge)) m named;
    gone = λ m named. absurd (cc);
  }

  entry : EntryRegion g S k node
  entry = grow_entry g k node left right cut r v s t good own.ways (leads_kept g S k (left ∷ right ∷ []) [] own.ways.differs kept good)

  -- insets after

  node_back : (p : ℕ) → InInset k node p → InInset g node p
  node_back = entry_back g S k node own.ways.differs entry good

  node_forth : (p : ℕ) → InInset g node p → InInset k node p
  node_forth = entry_forth g S k node own.ways.differs entry good

  one_k : OneEdge k
  one_k = one_after g S k (left ∷ right ∷ []) [] own.ways.differs kept good tree.edges

  lowest : InInset g node (f node).low
  lowest = let y = tree.spans node (r, own.ways.before) in y.1.back (f node).low (omega arith) y.1.filled

  to_left : 0 < edges_to v.edges left
  to_left = leads_some v (f node).low left (own.ways.below_cut (f node).low lowest own.above).0

  to_right : 0 < edges_to v.edges right
  to_right = leads_some v cut right (own.ways.from_cut cut own.cut_inside (omega arith)).0

  left_back : (p : ℕ) → InInset k left p → InInset g node p × (p < cut)
  left_back p i =
      let y = sole_parent k node left p v one_k own.ways.after to_left i.1 in
      let inset = node_back p (i.0, y.0) in
      (inset, at_most inset y.1 (below_or_from p cut))
    where
      at_most : InInset g node p → LeadsTo v p left → (p < cut) ⊎ (cut ≤ p) → p < cut
      at_most inset to (inl lt) = lt
      at_most inset to (inr le) = absurd (own.ways.other (edge_one v.edges p left right own.ways.tidy.apart to (own.ways.from_cut p inset le).0))

  right_back : (p : ℕ) → InInset k right p → InInset g node p × (cut ≤ p)
  right_back p i =
      let y = sole_parent k node right p v one_k own.ways.after to_right i.1 in
      let inset = node_back p (i.0, y.0) in
      (inset, at_least inset y.1 (below_or_from p cut))
    where
      at_least : InInset g node p → LeadsTo v p right → (p < cut) ⊎ (cut ≤ p) → cut ≤ p
      at_least inset to (inr le) = le
      at_least inset to (inl lt) = absurd (own.ways.other (edge_one v.edges p left right own.ways.tidy.apart (own.ways.below_cut p inset lt).0 to))

  left_forth : (p : ℕ) → InInset g node p → p < cut → InInset k left p
  left_forth p inset lt = (inset.0, along v (node_forth p inset).1 own.ways.after (own.ways.below_cut p inset lt).0 (s, own.ways.after_left))

  right_forth : (p : ℕ) → InInset g node p → cut ≤ p → InInset k right p
  right_forth p inset le = (inset.0, along v (node_forth p inset).1 own.ways.after (own.ways.from_cut p inset le).0 (t, own.ways.after_right))

  node_inset : (a b : ℕ) → IsInset g node a b → IsInset k node a b
  node_inset a b y = inset_like g k node node a b y node_back node_forth

  left_inset : (a b : ℕ) → IsInset g node a b → IsInset k left a (cut - 1)
  left_inset a b y =
      let z = tree.spans node (r, own.ways.before) in
      let same = (inset_same g node a b (f node).low z.0 y z.1).0 in
      inset_below g k node left a b cut y own.cut_inside (omega (arith, same, own.above)) left_back left_forth

  right_inset : (a b : ℕ) → IsInset g node a b → IsInset k right cut b
  right_inset a b y = inset_from g k node right a b cut y own.cut_inside right_back right_forth

  spans : RegionSpans S k h
  spans = record {
    spans = λ n named live. by_name3 (λ n. (last : ℕ) × IsInset k n (h n).low last) node left right
        (let y = tree.spans node (r, own.ways.before) in (y.0, subst (λ (a : ℕ). IsInset k node a y.0) (sym own.low) (node_inset (f node).low y.0 y.1)))
        (let y = tree.spans node (r, own.ways.before) in (cut - 1, subst (λ (a : ℕ). IsInset k left a (cut - 1)) (sym own.low_left) (left_inset (f node).low y.0 y.1)))
        (let y = tree.spans node (r, own.ways.before) in (y.0, subst (λ (a : ℕ). IsInset k right a y.0) (sym own.low_right) (right_inset (f node).low y.0 y.1))) n named;
    range = λ n q named live is. by_name3 (λ n. (q : Span) → (h n).range ≡ Some q → IsInset k n q.low q.last) node left right
        (λ q is. node_inset q.low q.last (tree.range node q (r, own.ways.before) (sym own.range ∙ is)))
        (λ q is. let y = range_of_to (f node).range (h left).range (cut - 1) q own.range_left is in
        let z = left_inset y.0.low y.0.last (tree.range node y.0 (r, own.ways.before) y.1) in
        subst (λ (b : ℕ). IsInset k left q.low b) (sym y.3) (subst (λ (a : ℕ). IsInset k left a (cut - 1)) (sym y.2) z))
        (λ q is. let y = range_of_from (f node).range (h right).range cut q own.range_right is in
        let z = right_inset y.0.low y.0.last (tree.range node y.0 (r, own.ways.before) y.1) in
        subst (λ (b : ℕ). IsInset k right q.low b) (sym y.3) (subst (λ (a : ℕ). IsInset k right a y.0.last) (sym y.2) z)) n named q is;
  }

  pub grow : KeepsTree g S k h
  grow = keeps_tree g S k node f h (left ∷ right ∷ []) [] own.ways.differs entry good own.frames kept spans tree

  pub grow_insets : GrowsInset g k node left right cut
  grow_insets = record {
    at_node = λ p. (node_back p, node_forth p);
    at_left = λ p. (left_back p, λ i. left_forth p i.0 i.1);
    at_right = λ p. (right_back p, λ i. right_forth p i.0 i.1);
    keyset_left = λ p. (
      λ i. let y = left_back p i.0 in (keyset_back g k node left p r s own.ways.before own.ways.after_left (own.ways.below_cut p y.0 y.1).1 i y.0, y.1),
      λ i. keyset_forth g k node left p r s own.ways.before own.ways.after_left (own.ways.below_cut p i.0.0 i.1).1 i.0 (left_forth p i.0.0 i.1),
    );
    keyset_right = λ p. (
      λ i. let y = right_back p i.0 in (keyset_back g k node right p r t own.ways.before own.ways.after_right (own.ways.from_cut p y.0 y.1).1 i y.0, y.1),
      λ i. keyset_forth g k node right p r t own.ways.before own.ways.after_right (own.ways.from_cut p i.0.0 i.1).1 i.0 (right_forth p i.0.0 i.1),
    );
    leads_left = leads_all k node left v one_k own.ways.after to_left;
    leads_right = leads_all k node right v one_k own.ways.after to_right;
  }
