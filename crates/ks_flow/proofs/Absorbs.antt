-- A node that absorbs the node that it leads to keeps ways and the facts of trees, and so does a collapse.
use Rattle.ks_keysets.specs.declared.Record.{Record}
use Rattle.ks_keysets.specs.declared.Frame.{Frame}
use Rattle.std.proofs.Common.{ℕ, ◌≡◌, ◌<◌, ◌⊎◌, inl, inr, true, List, [], ◌∷◌, Some, refl, sym, ◌∙◌, subst, arith}
use Rattle.std.specs.Prelude.{All}
use Rattle.ks_keysets.specs.declared.NodeState.{NodeState}
use Rattle.ks_keysets.specs.declared.Span.{Span}
use Rattle.ks_keysets.specs.Record.{LeadsTo}
use Rattle.ks_keysets.specs.Keyset.{record_at, IsLive, along, InInset, InKeyset, Good}
use Rattle.ks_flow.specs.Walk.{Path, arrives, passes}
use Rattle.ks_flow.specs.Ways.{names, Outcome, Inside, AreAlike, ends_at}
use Rattle.ks_flow.specs.Tree.{edges_between, Tree, IsInset}
use Rattle.ks_flow.proofs.Entry.{edges_into, EntryRegion, EdgesKept, RegionSpans}
use Rattle.ks_flow.specs.Shapes.{IsTidy, AbsorbsOwn, Collapses, KeepsTree}
use Rattle.ks_flow.specs.Insets.{AbsorbsInsetOwn, CollapsesInset}
use Rattle.ks_keysets.specs.Laws.Next.{leads_on}
use Rattle.ks_flow.proofs.Edges.{named_here, named_there, named_either, out_either, out_of, leads_kept, sole_parent}
use Rattle.ks_flow.proofs.Entries.{entry_back, entry_forth}
use Rattle.ks_flow.proofs.Acts.{no_way_back, GoesOut, goes_on, acts_out, leads_or_not}
use Rattle.ks_flow.proofs.Trees.{inset_same, inset_like, by_name1, by_name2, at_record, at_none, live_apart, between_is, between_none, pair_ends, not_on, keeps_tree, keyset_forth, keyset_back}

module _ (g k : ℕ → NodeState) (f h : ℕ → Frame) (node right : ℕ) (r q s : Record) (good : Good g) (tree : Tree g f) (x : AbsorbsOwn g k f h node right r q s) where
  abbrev R : List ℕ
  R = node ∷ right ∷ []

  named_node : names R node ≡ true
  named_node = named_here node (right ∷ [])

  named_right : names R right ≡ true
  named_right = named_there node (right ∷ []) right (named_here right [])

  up : (p : ℕ) → InInset g right p → InInset g node p × LeadsTo r p right
  up p inset = let y = sole_parent g node right p r tree.edges x.before x.leads inset.1 in ((inset.0, y.0), y.1)

  down : (p : ℕ) → InInset g node p → LeadsTo r p right → InInset g right p
  down p inset to = (inset.0, along r inset.1 x.before to (q, x.before_right))

  other : node ≡ right → ⊥
  other e =
      let y = tree.spans right (q, x.before_right) in
      let z = up (f right).low (y.1.back (f right).low (omega arith) y.1.filled) in
      no_way_back g (f right).low node right r good z.0 x.before z.1 (subst (λ (m : ℕ). Path g (f right).low node m) e arrives)

  right_out : (p : ℕ) → InInset g right p → GoesOut R p q
  right_out p inset c to named = by_name2 (λ c. LeadsTo q p c → ⊥) node right
      (λ to. no_way_back g p right node q good inset x.before_right to (passes r x.before (up p inset).1 arrives))
      (λ to. no_way_back g p right right q good inset x.before_right to arrives) c named to

  kept : EdgesKept g R k [] (right ∷ [])
  kept = record {
    distinct = (out_of right [] node other refl, (refl, tt));
    kept = λ m a l. let ne = (out_either right [] m l).0 in omega (arith, between_is k node m s x.after, between_none k right m x.gone, between_is g node m r x.before, between_is g right m q x.before_right, x.edges m ne);
    live = λ m named l. by_name2 (λ n. (n ≡ right → ⊥) → IsLive k n) node right (λ _. (s, x.after)) (λ ne. absurd (ne refl)) m named (out_either right [] m l).0;
    new = λ m named. absurd (cc);
    gone = λ m named. by_name1 (λ n. edges_into k R n ≡ 0) right (omega (arith, between_is k node right s x.after, between_none k right right x.gone, x.edge)) m named;
  }

  alike : (p : ℕ) (o : Outcome) → InInset g node p → Inside g R p node o → (q : Outcome) × Inside k R p node q × AreAlike g k p o q
  alike p o inset i = elim (goes_on g R p node o r good.apart x.before i) [
    | inl y ↦ by_name2 (λ c. LeadsTo r p c → Inside g R p c o → (q : Outcome) × Inside k R p node q × AreAlike g k p o q) node right
        (λ to j. absurd (no_way_back g p node node r good inset x.before to arrives))
        (λ to j. acts_out g k R p right node o q s x.before_right x.after named_node (x.there p inset to) (right_out p (down p inset to)) j) y.0 y.2 y.1 y.3
    | inr out ↦ acts_out g k R p node node o r s x.before x.after named_node (x.else p inset (λ to. out right to named_right)) out i
  ]

  tidy_all : (n : ℕ) (l : Record) → names R n ≡ true → record_at k n ≡ Some l → IsTidy l
  tidy_all n l named is = by_name2 (λ n. (q : Record) → record_at k n ≡ Some q → IsTidy q) node right (at_record k node s IsTidy x.after x.tidy) (at_none k right IsTidy x.gone) n named l is

  entry : EntryRegion g R k node
  entry = record {
    entry = named_node;
    root = λ named. elim (named_either node (right ∷ []) 0 named) [
      | inl e ↦ e
      | inr n ↦ by_name1 (λ m. 0 < edges_between g node m → 0 ≡ m → 0 ≡ node) right (λ lt e. absurd (omega (arith, tree.edges.none node, subst (λ (m : ℕ). 0 < edges_between g node m) (sym e) lt))) 0 n (by_name1 (λ m. 0 < edges_between g node m) right (omega (arith, x.leads, between_is g node right r x.before)) 0 n) refl
    ];
    alone = λ n m out named some. by_name2 (λ n'. 0 < edges_between g n n' → n' ≡ node) node right (λ _. refl) (λ lt. absurd (omega (arith, lt, tree.edges.one right n node (out_either node (right ∷ []) n out).0, between_is g node right r x.before, x.leads))) m named some;
    alike = alike;
    live = (s, x.after);
    apart = λ n l named is. (tidy_all n l named is).apart;
    leads = leads_kept g R k [] (right ∷ []) x.differs kept good;
    stored = λ n l named is. by_name2 (λ n. (q : Record) → record_at k n ≡ Some q → All (λ y. InInset g node y.place × Inside k R y.place node (ends_at n)) q.pairs) node right
        (at_record k node s (λ q. All (λ y. InInset g node y.place × Inside k R y.place node (ends_at node)) q.pairs) x.after (λ i d lt. stands _ (x.pairs i d lt)))
        (at_none k right (λ q. All (λ y. InInset g node y.place × Inside k R y.place node (ends_at right)) q.pairs) x.gone) n named l is;
    once = λ n l named is. (tidy_all n l named is).once;
  }
    where
      stands : (p : ℕ) → InKeyset g node p ⊎ InKeyset g right p → InInset g node p × Inside k R p node (ends_at node)
      stands p (inl y) = (y.0, pair_ends g k R p node node r s y x.before x.after named_node (x.else p y.0 (not_on g node p r y x.before right)))
      stands p (inr y) = let z = up p y.0 in (z.0, pair_ends g k R p right node q s y x.before_right x.after named_node (x.there p z.0 z.1))

  node_inset : (a b : ℕ) → IsInset g node a b → IsInset k node a b
  node_inset a b y = inset_like g k node node a b y (entry_back g R k node x.differs entry good) (entry_forth g R k node x.differs entry good)

  not_live : IsLive k right → ⊥
  not_live l = live_apart k right right l.0 l.1 x.gone refl

  spans : RegionSpans R k h
  spans = record {
    spans = λ n named live. by_name2 (λ n. IsLive k n → (last : ℕ) × IsInset k n (h n).low last) node right
        (λ _. let y = tree.spans node (r, x.before) in (y.0, subst (λ (a : ℕ). IsInset k node a y.0) (sym x.low) (node_inset (f node).low y.0 y.1)))
        (λ l. absurd (not_live l)) n named live;
    range = λ n o named live is. by_name2 (λ n. IsLive k n → (o : Span) → (h n).range ≡ Some o → IsInset k n o.low o.last) node right
        (λ _ o is. node_inset o.low o.last (tree.range node o (r, x.before) (sym x.range ∙ is)))
        (λ l. absurd (not_live l)) n named live o is;
  }

  pub absorb_own : KeepsTree g R k h
  absorb_own = keeps_tree g R k node f h [] (right ∷ []) x.differs entry good x.frames kept spans tree

  pub absorb_own_insets : AbsorbsInsetOwn g k node right
  absorb_own_insets = record {
    at_node = λ p. (back p, forth p);
    within = λ p i. (up p i).0;
    keyset = λ p. (
      λ i. split p i (back p i.0) (leads_or_not g p node right r good (back p i.0) x.before),
      λ i. elim i [
        | inl a ↦ keyset_forth g k node node p r s x.before x.after (x.else p a.0 (not_on g node p r a x.before right)) a (forth p a.0)
        | inr b ↦ (let z = up p b.0 in keyset_forth g k right node p q s x.before_right x.after (x.there p z.0 z.1) b (forth p z.0))
      ],
    );
  }
    where
      back : (p : ℕ) → InInset k node p → InInset g node p
      back p i = entry_back g R k node x.differs entry good p i

      forth : (p : ℕ) → InInset g node p → InInset k node p
      forth p i = entry_forth g R k node x.differs entry good p i

      split : (p : ℕ) → InKeyset k node p → InInset g node p → LeadsTo r p right ⊎ (LeadsTo r p right → ⊥) → InKeyset g node p ⊎ InKeyset g right p
      split p i inset (inl to) = inr (keyset_back g k right node p q s x.before_right x.after (x.there p inset to) i (down p inset to))
      split p i inset (inr not) = inl (keyset_back g k node node p r s x.before x.after (x.else p inset not) i inset)

-- a collapse is such an absorb
module _ (g k : ℕ → NodeState) (f h : ℕ → Frame) (node child : ℕ) (r q s : Record) (good : Good g) (tree : Tree g f) (x : Collapses g k f h node child r q s) where
  child_up : (p : ℕ) → InInset g child p → InInset g node p
  child_up p inset = let y = sole_parent g node child p r tree.edges x.before x.leads inset.1 in (inset.0, y.0)

  child_down : (p : ℕ) → InInset g node p → InInset g child p
  child_down p inset = (inset.0, along r inset.1 x.before (x.there p inset).0 (q, x.before_child))

  same_low : (f child).low ≡ (f node).low
  same_low =
      let y = tree.spans node (r, x.before) in
      let z = tree.spans child (q, x.before_child) in
      (inset_same g child (f child).low z.0 (f node).low y.0 z.1 (inset_like g g node child (f node).low y.0 y.1 child_up child_down)).0

  absorbs : AbsorbsOwn g k f h node child r q s
  absorbs = record {
    differs = x.differs;
    frames = x.frames;
    before = x.before;
    before_right = x.before_child;
    after = x.after;
    gone = x.gone;
    leads = x.leads;
    there = λ p inset to. (x.there p inset).1;
    else = λ p inset not. absurd (not (x.there p inset).0);
    tidy = x.tidy;
    edges = x.edges;
    edge = x.edge;
    pairs = λ i d lt. inr (x.pairs i d lt);
    low = x.low ∙ same_low;
    range = x.range;
  }

  pub collapse : KeepsTree g (node ∷ child ∷ []) k h
  collapse = absorb_own g k f h node child r q s good tree absorbs

  pub collapse_insets : CollapsesInset g k node child
  collapse_insets = record {
    at_node = (absorb_own_insets g k f h node child r q s good tree absorbs).at_node;
    at_child = λ p. (child_up p, child_down p);
    keyset = λ p. (
      λ i. elim (((absorb_own_insets g k f h node child r q s good tree absorbs).keyset p).0 i) [
        | inl a ↦ absurd (a.1 (r, x.before, leads_on r p child (x.there p a.0).0))
        | inr b ↦ b
      ],
      λ i. ((absorb_own_insets g k f h node child r q s good tree absorbs).keyset p).1 (inr i),
    );
  }
