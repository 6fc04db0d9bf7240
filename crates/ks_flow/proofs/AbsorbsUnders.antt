-- A node that absorbs its right neighbour under their parent keeps ways and the facts of trees.
use Rattle.ks_keysets.specs.declared.Record.{Record}
use Rattle.ks_keysets.specs.declared.Frame.{Frame}
use Rattle.std.proofs.Common.{ℕ, ◌≡◌, ◌<◌, ◌≤◌, ◌⊎◌, inl, inr, true, List, [], ◌∷◌, Some, refl, sym, ◌∙◌, subst, arith}
use Rattle.std.specs.Prelude.{All}
use Rattle.ks_keysets.specs.declared.NodeState.{NodeState}
use Rattle.ks_keysets.specs.declared.Span.{Span}
use Rattle.ks_keysets.specs.Record.{LeadsTo}
use Rattle.ks_keysets.specs.Keyset.{record_at, IsLive, along, InInset, InKeyset, Good}
use Rattle.ks_flow.specs.Walk.{Path, arrives, passes}
use Rattle.ks_flow.specs.Ways.{names, Outcome, Inside, stays, AreAlike, ends_at}
use Rattle.ks_flow.specs.Tree.{edges_to, edges_between, OneEdge, Tree, IsInset, ActsAs}
use Rattle.ks_flow.proofs.Entry.{edges_into, EntryRegion, EdgesKept, RegionSpans}
use Rattle.ks_flow.specs.Shapes.{IsTidy, AbsorbsUnder, KeepsTree}
use Rattle.ks_flow.specs.Insets.{AbsorbsInsetUnder}
use Rattle.ks_flow.proofs.Paths.{leads_some}
use Rattle.ks_flow.proofs.Edges.{named_here, named_there, out_either, out_of, one_after, leads_kept, sole_parent, leads_all}
use Rattle.ks_flow.proofs.Entries.{entry_back, entry_forth}
use Rattle.ks_flow.proofs.Acts.{no_way_back, GoesOut, goes_on, acts_out, leads_or_not, acts_back}
use Rattle.ks_flow.proofs.Trees.{inset_like, by_name1, by_name3, at_record, at_none, live_apart, between_is, between_none, pair_ends, not_on, keeps_tree, range_of_over, keyset_forth, keyset_back}

module _ (g k : ℕ → NodeState) (f h : ℕ → Frame) (parent node right : ℕ) (u r q v s : Record) (good : Good g) (tree : Tree g f) (x : AbsorbsUnder g k f h parent node right u r q v s) where
  abbrev R : List ℕ
  R = parent ∷ node ∷ right ∷ []

  named_parent : names R parent ≡ true
  named_parent = named_here parent (node ∷ right ∷ [])

  named_node : names R node ≡ true
  named_node = named_there parent (node ∷ right ∷ []) node (named_here node (right ∷ []))

  named_right : names R right ≡ true
  named_right = named_there parent (node ∷ right ∷ []) right (named_there node (right ∷ []) right (named_here right []))

  up : (p : ℕ) → InInset g node p → InInset g parent p × LeadsTo u p node
  up p inset = let y = sole_parent g parent node p u tree.edges x.before_parent x.leads inset.1 in ((inset.0, y.0), y.1)

  up_right : (p : ℕ) → InInset g right p → InInset g parent p × LeadsTo u p right
  up_right p inset = let y = sole_parent g parent right p u tree.edges x.before_parent x.leads_right inset.1 in ((inset.0, y.0), y.1)

  down : (p : ℕ) → InInset g parent p → LeadsTo u p node → InInset g node p
  down p inset to = (inset.0, along u inset.1 x.before_parent to (r, x.before))

  down_right : (p : ℕ) → InInset g parent p → LeadsTo u p right → InInset g right p
  down_right p inset to = (inset.0, along u inset.1 x.before_parent to (q, x.before_right))

  -- no node is its own parent
  not_parent : (c : ℕ) (l : Record) → record_at g c ≡ Some l → ((p : ℕ) → InInset g c p → InInset g parent p × LeadsTo u p c) → parent ≡ c → ⊥
  not_parent c l is above e =
      let y = tree.spans c (l, is) in
      let z = above (f c).low (y.1.back (f c).low (omega arith) y.1.filled) in
      no_way_back g (f c).low parent c u good z.0 x.before_parent z.1 (subst (λ (m : ℕ). Path g (f c).low parent m) e arrives)

  -- one edge at most leads to right, so node does not lead there, nor right to node
  node_out : (p : ℕ) → InInset g node p → GoesOut R p r
  node_out p inset c to named = by_name3 (λ c. LeadsTo r p c → ⊥) parent node right
      (λ to. no_way_back g p node parent r good inset x.before to (passes u x.before_parent (up p inset).1 arrives))
      (λ to. no_way_back g p node node r good inset x.before to arrives)
      (λ to. omega (arith, leads_some r p right to, x.leads_right, between_is g node right r x.before, between_is g parent right u x.before_parent, tree.edges.one right parent node (not_parent node r x.before up))) c named to

  right_out : (p : ℕ) → InInset g right p → GoesOut R p q
  right_out p inset c to named = by_name3 (λ c. LeadsTo q p c → ⊥) parent node right
      (λ to. no_way_back g p right parent q good inset x.before_right to (passes u x.before_parent (up_right p inset).1 arrives))
      (λ to. omega (arith, leads_some q p node to, x.leads, between_is g right node q x.before_right, between_is g parent node u x.before_parent, tree.edges.one node parent right (not_parent right q x.before_right up_right)))
      (λ to. no_way_back g p right right q good inset x.before_right to arrives) c named to

  kept : EdgesKept g R k [] (right ∷ [])
  kept = record {
    distinct = (out_of node (right ∷ []) parent (not_parent node r x.before up) (out_of right [] parent (not_parent right q x.before_right up_right) refl), (out_of right [] node x.other refl, (refl, tt)));
    kept = λ m a l. let ne = (out_either right [] m l).0 in omega (arith, between_is k parent m v x.after_parent, between_is k node m s x.after, between_none k right m x.gone, between_is g parent m u x.before_parent, between_is g node m r x.before, between_is g right m q x.before_right, x.edges m ne);
    live = λ m named l. by_name3 (λ n. (n ≡ right → ⊥) → IsLive k n) parent node right (λ _. (v, x.after_parent)) (λ _. (s, x.after)) (λ ne. absurd (ne refl)) m named (out_either right [] m l).0;
    new = λ m named. absurd (cc);
    gone = λ m named. by_name1 (λ n. edges_into k R n ≡ 0) right (omega (arith, between_is k parent right v x.after_parent, between_is k node right s x.after, between_none k right right x.gone, x.edge)) m named;
  }

  alike : (p : ℕ) (o : Outcome) → InInset g parent p → Inside g R p parent o → (q : Outcome) × Inside k R p parent q × AreAlike g k p o q
  alike p o inset i = elim (goes_on g R p parent o u good.apart x.before_parent i) [
    | inl y ↦ by_name3 (λ c. LeadsTo u p c → Inside g R p c o → (q : Outcome) × Inside k R p parent q × AreAlike g k p o q) parent node right
        (λ to j. absurd (no_way_back g p parent parent u good inset x.before_parent to arrives))
        (λ to j.
        let w = x.here p inset to in
        let z = acts_out g k R p node node o r s x.before x.after named_node w.1 (node_out p (down p inset to)) j in
        (z.0, stays v named_parent x.after_parent w.0 z.1, z.2))
        (λ to j.
        let w = x.there p inset to in
        let z = acts_out g k R p right node o q s x.before_right x.after named_node w.1 (right_out p (down_right p inset to)) j in
        (z.0, stays v named_parent x.after_parent w.0 z.1, z.2)) y.0 y.2 y.1 y.3
    | inr out ↦ acts_out g k R p parent parent o u v x.before_parent x.after_parent named_parent (x.else p inset (λ to. out node to named_node) (λ to. out right to named_right)) out i
  ]

  tidy_all : (n : ℕ) (l : Record) → names R n ≡ true → record_at k n ≡ Some l → IsTidy l
  tidy_all n l named is = by_name3 (λ n. (q : Record) → record_at k n ≡ Some q → IsTidy q) parent node right (at_record k parent v IsTidy x.after_parent x.tidy_parent) (at_record k node s IsTidy x.after x.tidy) (at_none k right IsTidy x.gone) n named l is

  -- no edge leads to the root, so the root is no child of parent
  no_root : (c : ℕ) → 0 < edges_to u.edges c → 0 ≡ c → ⊥
  no_root c lt e = omega (arith, tree.edges.none parent, between_is g parent 0 u x.before_parent, subst (λ (m : ℕ). 0 < edges_to u.edges m) (sym e) lt)

  entry : EntryRegion g R k parent
  entry = record {
    entry = named_parent;
    root = λ named. by_name3 (λ m. 0 ≡ m → m ≡ parent) parent node right (λ _. refl) (λ e. absurd (no_root node x.leads e)) (λ e. absurd (no_root right x.leads_right e)) 0 named refl;
    alone = λ n m out named some. by_name3 (λ n'. 0 < edges_between g n n' → n' ≡ parent) parent node right (λ _. refl)
        (λ lt. absurd (omega (arith, lt, tree.edges.one node n parent (out_either parent (node ∷ right ∷ []) n out).0, between_is g parent node u x.before_parent, x.leads)))
        (λ lt. absurd (omega (arith, lt, tree.edges.one right n parent (out_either parent (node ∷ right ∷ []) n out).0, between_is g parent right u x.before_parent, x.leads_right))) m named some;
    alike = alike;
    live = (v, x.after_parent);
    apart = λ n l named is. (tidy_all n l named is).apart;
    leads = leads_kept g R k [] (right ∷ []) x.differs kept good;
    stored = λ n l named is. by_name3 (λ n. (q : Record) → record_at k n ≡ Some q → All (λ y. InInset g parent y.place × Inside k R y.place parent (ends_at n)) q.pairs) parent node right
        (at_record k parent v (λ q. All (λ y. InInset g parent y.place × Inside k R y.place parent (ends_at parent)) q.pairs) x.after_parent
        (λ i d lt. let y = x.pairs_parent i d lt in (y.0, pair_ends g k R _ parent parent u v y x.before_parent x.after_parent named_parent (x.else _ y.0 (not_on g parent _ u y x.before_parent node) (not_on g parent _ u y x.before_parent right)))))
        (at_record k node s (λ q. All (λ y. InInset g parent y.place × Inside k R y.place parent (ends_at node)) q.pairs) x.after (λ i d lt. stands _ (x.pairs i d lt)))
        (at_none k right (λ q. All (λ y. InInset g parent y.place × Inside k R y.place parent (ends_at right)) q.pairs) x.gone) n named l is;
    once = λ n l named is. (tidy_all n l named is).once;
  }
    where
      stands : (p : ℕ) → InKeyset g node p ⊎ InKeyset g right p → InInset g parent p × Inside k R p parent (ends_at node)
      stands p (inl y) = let z = up p y.0 in let w = x.here p z.0 z.1 in (z.0, stays v named_parent x.after_parent w.0 (pair_ends g k R p node node r s y x.before x.after named_node w.1))
      stands p (inr y) = let z = up_right p y.0 in let w = x.there p z.0 z.1 in (z.0, stays v named_parent x.after_parent w.0 (pair_ends g k R p right node q s y x.before_right x.after named_node w.1))

  -- insets after

  parent_back : (p : ℕ) → InInset k parent p → InInset g parent p
  parent_back = entry_back g R k parent x.differs entry good

  parent_forth : (p : ℕ) → InInset g parent p → InInset k parent p
  parent_forth = entry_forth g R k parent x.differs entry good

  one_k : OneEdge k
  one_k = one_after g R k [] (right ∷ []) x.differs kept good tree.edges

  node_back : (p : ℕ) → InInset k node p → InInset g node p ⊎ InInset g right p
  node_back p i =
      let y = sole_parent k parent node p v one_k x.after_parent x.leads_after i.1 in
      look (parent_back p (i.0, y.0)) y.1
    where
      look : InInset g parent p → LeadsTo v p node → InInset g node p ⊎ InInset g right p
      look inset to = elim (leads_or_not g p parent node u good inset x.before_parent) [
        | inl a ↦ inl (down p inset a)
        | inr a ↦ elim (leads_or_not g p parent right u good inset x.before_parent) [
          | inl b ↦ inr (down_right p inset b)
          | inr b ↦ absurd (a (acts_back v u p node (x.else p inset a b) x.tidy_parent.apart to))
        ]
      ]

  node_forth : (p : ℕ) → InInset g node p → InInset k node p
  node_forth p inset = let z = up p inset in (inset.0, along v (parent_forth p z.0).1 x.after_parent (x.here p z.0 z.1).0 (s, x.after))

  right_forth : (p : ℕ) → InInset g right p → InInset k node p
  right_forth p inset = let z = up_right p inset in (inset.0, along v (parent_forth p z.0).1 x.after_parent (x.there p z.0 z.1).0 (s, x.after))

  -- the inset of node and that of right make one span
  node_inset : (a b c d : ℕ) → IsInset g node a b → IsInset g right c d → IsInset k node a d
  node_inset a b c d y z =
      let low = up a (y.back a (omega arith) y.filled) in
      let high = up_right d (z.back d z.filled (omega arith)) in
      let less : a < d = x.order a d low.1 high.1 in
      record {
        filled = omega arith;
        forth = λ p i. within p (node_back p i);
        back = λ p l m. from p l m low high (between p low high l m);
      }
    where
      within : (p : ℕ) → InInset g node p ⊎ InInset g right p → (a ≤ p) × (p ≤ d)
      within p (inl i) =
          let low = up p i in
          let high = up_right d (z.back d z.filled (omega arith)) in
          ((y.forth p i).0, omega (arith, x.order p d low.1 high.1))
      within p (inr i) =
          let low = up a (y.back a (omega arith) y.filled) in
          let high = up_right p i in
          (omega (arith, x.order a p low.1 high.1), (z.forth p i).1)

      -- the parent's inset is a span
      between : (p : ℕ) → InInset g parent a × LeadsTo u a node → InInset g parent d × LeadsTo u d right → a ≤ p → p ≤ d → InInset g parent p
      between p low high l m =
          let w = tree.spans parent (u, x.before_parent) in
          w.1.back p (omega (arith, (w.1.forth a low.0).0)) (omega (arith, (w.1.forth d high.0).1))

      from : (p : ℕ) → a ≤ p → p ≤ d → InInset g parent a × LeadsTo u a node → InInset g parent d × LeadsTo u d right → InInset g parent p → InInset k node p
      from p l m low high inset = pick (x.beside a d p low.1 high.1 l m)
        where
          pick : LeadsTo u p node ⊎ LeadsTo u p right → InInset k node p
          pick (inl to) = node_forth p (down p inset to)
          pick (inr to) = right_forth p (down_right p inset to)

  spans : RegionSpans R k h
  spans = record {
    spans = λ n named live. by_name3 (λ n. IsLive k n → (last : ℕ) × IsInset k n (h n).low last) parent node right
        (λ _. let y = tree.spans parent (u, x.before_parent) in (y.0, subst (λ (a : ℕ). IsInset k parent a y.0) (sym x.low_parent) (inset_like g k parent parent (f parent).low y.0 y.1 parent_back parent_forth)))
        (λ _. let y = tree.spans node (r, x.before) in let z = tree.spans right (q, x.before_right) in (z.0, subst (λ (a : ℕ). IsInset k node a z.0) (sym x.low) (node_inset (f node).low y.0 (f right).low z.0 y.1 z.1)))
        (λ l. absurd (live_apart k right right l.0 l.1 x.gone refl)) n named live;
    range = λ n o named live is. by_name3 (λ n. IsLive k n → (o : Span) → (h n).range ≡ Some o → IsInset k n o.low o.last) parent node right
        (λ _ o is. inset_like g k parent parent o.low o.last (tree.range parent o (u, x.before_parent) (sym x.range_parent ∙ is)) parent_back parent_forth)
        (λ _ o is. let y = range_of_over (f node).range (f right).range (h node).range o x.range is in
        let z = node_inset y.0.low y.0.last y.1.low y.1.last (tree.range node y.0 (r, x.before) y.2) (tree.range right y.1 (q, x.before_right) y.3) in
        subst (λ (b : ℕ). IsInset k node o.low b) (sym y.5) (subst (λ (a : ℕ). IsInset k node a y.1.last) (sym y.4) z))
        (λ l. absurd (live_apart k right right l.0 l.1 x.gone refl)) n named live o is;
  }

  pub absorb_under : KeepsTree g R k h
  absorb_under = keeps_tree g R k parent f h [] (right ∷ []) x.differs entry good x.frames kept spans tree

  pub absorb_under_insets : AbsorbsInsetUnder g k parent node right
  absorb_under_insets = record {
    at_parent = λ p. (parent_back p, parent_forth p);
    at_node = λ p. (node_back p, λ i. elim i [ inl a ↦ node_forth p a | inr b ↦ right_forth p b ]);
    keyset = λ p. (
      λ i. elim (node_back p i.0) [
        | inl a ↦ inl (keyset_back g k node node p r s x.before x.after (acts_node p a) i a)
        | inr b ↦ inr (keyset_back g k right node p q s x.before_right x.after (acts_right p b) i b)
      ],
      λ i. elim i [
        | inl a ↦ keyset_forth g k node node p r s x.before x.after (acts_node p a.0) a (node_forth p a.0)
        | inr b ↦ keyset_forth g k right node p q s x.before_right x.after (acts_right p b.0) b (right_forth p b.0)
      ],
    );
    leads_node = leads_all k parent node v one_k x.after_parent x.leads_after;
  }
    where
      acts_node : (p : ℕ) → InInset g node p → ActsAs s r p
      acts_node p inset = let z = up p inset in (x.here p z.0 z.1).1

      acts_right : (p : ℕ) → InInset g right p → ActsAs s q p
      acts_right p inset = let z = up_right p inset in (x.there p z.0 z.1).1
