-- A node that splits by itself keeps ways and the facts of trees.
use Rattle.ks_keysets.specs.declared.Record.{Record}
use Rattle.ks_keysets.specs.declared.Frame.{Frame}
use Rattle.std.proofs.Common.{ℕ, ◌≡◌, ◌<◌, ◌≤◌, ◌⊎◌, inl, inr, true, List, [], ◌∷◌, Some, None, refl, sym, ◌∙◌, subst, arith}
use Rattle.std.specs.Prelude.{All}
use Rattle.ks_keysets.specs.declared.NodeState.{NodeState}
use Rattle.ks_keysets.specs.declared.Span.{Span}
use Rattle.ks_keysets.specs.Record.{LeadsTo}
use Rattle.ks_keysets.specs.Keyset.{record_at, IsLive, along, InInset, InKeyset, Good}
use Rattle.ks_flow.specs.Walk.{Path, arrives}
use Rattle.ks_flow.specs.Ways.{names, Outcome, Inside, stays, AreAlike, ends_at}
use Rattle.ks_flow.specs.Tree.{edges_to, edges_between, OneEdge, Tree, IsInset}
use Rattle.ks_flow.proofs.Entry.{edges_into, EntryRegion, EdgesKept, RegionSpans}
use Rattle.ks_flow.specs.Shapes.{IsTidy, SplitsOff, SplitsOwn, KeepsTree}
use Rattle.ks_flow.specs.Insets.{SplitsInsetOwn}
use Rattle.ks_keysets.specs.Laws.Next.{edge_one, leads_on, leads_where, target_live}
use Rattle.ks_flow.proofs.Paths.{leads_some}
use Rattle.ks_flow.proofs.Edges.{named_here, named_there, named_either, out_either, out_of, none_between, one_after, leads_kept, sole_parent, leads_all}
use Rattle.ks_flow.proofs.Entries.{entry_back, entry_forth}
use Rattle.ks_flow.proofs.Acts.{no_way_back, GoesOut, acts_out}
use Rattle.ks_flow.proofs.Trees.{inset_like, inset_from, below_or_from, by_name1, by_name2, at_record, live_apart, between_is, pair_ends, keeps_tree, range_of_from, keyset_forth, keyset_back}

module _ (g k : ℕ → NodeState) (node right cut : ℕ) (r s t : Record) (good : Good g) (x : SplitsOff g k node right cut r s t) where
  abbrev R : List ℕ
  R = node ∷ right ∷ []

  apart : node ≡ right → ⊥
  apart = live_apart g node right r x.before x.fresh

  right_named : names R right ≡ true
  right_named = named_there node (right ∷ []) right (named_here right [])

  fresh_target : (p : ℕ) (c : ℕ) → LeadsTo r p c → c ≡ right → ⊥
  fresh_target p c to e = let live = target_live g r p c (good.leads node r x.before) to in live_apart g c right live.0 live.1 x.fresh e

  goes_out : (p : ℕ) → InInset g node p → GoesOut R p r
  goes_out p inset c to named = elim (named_either node (right ∷ []) c named) [
    | inl e ↦ no_way_back g p node c r good inset x.before to (subst (λ (m : ℕ). Path g p node m) (sym e) arrives)
    | inr h ↦ elim (named_either right [] c h) [ inl e ↦ fresh_target p c to e | inr h' ↦ cc ]
  ]

  alike : (p : ℕ) (o : Outcome) → InInset g node p → Inside g R p node o → (q : Outcome) × Inside k R p node q × AreAlike g k p o q
  alike p o inset i = elim (below_or_from p cut) [
    | inl lt ↦ acts_out g k R p node node o r s x.before x.after (named_here node (right ∷ [])) (x.below_cut p inset lt) (goes_out p inset) i
    | inr le ↦ (
        let there = x.from_cut p inset le in
        let q = acts_out g k R p node right o r t x.before x.after_right right_named there.1 (goes_out p inset) i in
        (q.0, stays s (named_here node (right ∷ [])) x.after there.0 q.1, q.2))
  ]

  tidy_all : (n : ℕ) (l : Record) → names R n ≡ true → record_at k n ≡ Some l → IsTidy l
  tidy_all n l named is = by_name2 (λ n. (q : Record) → record_at k n ≡ Some q → IsTidy q) node right (at_record k node s IsTidy x.after x.tidy) (at_record k right t IsTidy x.after_right x.tidy_right) n named l is

  pub split_entry : ((n : ℕ) (l : Record) → names R n ≡ true → record_at k n ≡ Some l → All (λ e. IsLive k e.node) l.edges) → EntryRegion g R k node
  split_entry leads = record {
    entry = named_here node (right ∷ []);
    root = λ named. by_name2 (λ n. (l : Record) → record_at g n ≡ Some l → n ≡ node) node right (λ l is. refl) (λ l is. absurd (live_apart g right right l is x.fresh refl)) 0 named good.root.0 good.root.1;
    alone = λ n m out named some. by_name2 (λ n'. 0 < edges_between g n n' → n' ≡ node) node right (λ _. refl) (λ lt. absurd (omega (arith, none_between g n right good x.fresh))) m named some;
    alike = alike;
    live = (s, x.after);
    apart = λ n l named is. (tidy_all n l named is).apart;
    leads = leads;
    stored = λ n l named is. by_name2 (λ n. (q : Record) → record_at k n ≡ Some q → All (λ y. InInset g node y.place × Inside k R y.place node (ends_at n)) q.pairs) node right
        (at_record k node s (λ q. All (λ y. InInset g node y.place × Inside k R y.place node (ends_at node)) q.pairs) x.after
        (λ i d lt. let y = x.pairs i d lt in (y.0.0, pair_ends g k R _ node node r s y.0 x.before x.after (named_here node (right ∷ [])) (x.below_cut _ y.0.0 y.1))))
        (at_record k right t (λ q. All (λ y. InInset g node y.place × Inside k R y.place node (ends_at right)) q.pairs) x.after_right
        (λ i d lt. let y = x.pairs_right i d lt in let there = x.from_cut _ y.0.0 y.1 in (y.0.0, stays s (named_here node (right ∷ [])) x.after there.0 (pair_ends g k R _ node right r t y.0 x.before x.after_right right_named there.1)))) n named l is;
    once = λ n l named is. (tidy_all n l named is).once;
  }

module _ (g k : ℕ → NodeState) (f h : ℕ → Frame) (node right cut : ℕ) (r s t : Record) (good : Good g) (tree : Tree g f) (w : SplitsOwn g k f h node right cut r s t) where
  abbrev S : List ℕ
  S = node ∷ right ∷ []

  kept : EdgesKept g S k (right ∷ []) []
  kept = record {
    distinct = (out_of right [] node (apart g k node right cut r s t good w.ways) refl, (refl, tt));
    kept = λ m a l. let ne = (out_either right [] m a).0 in omega (arith, between_is k node m s w.ways.after, between_is k right m t w.ways.after_right, between_is g node m r w.ways.before, w.edges m ne);
    live = λ m named l. by_name2 (λ n. IsLive k n) node right (s, w.ways.after) (t, w.ways.after_right) m named;
    new = λ m named. by_name1 (λ n. (record_at g n ≡ None) × IsLive k n × (edges_into k S n ≤ 1)) right (w.ways.fresh, (t, w.ways.after_right), omega (arith, between_is k node right s w.ways.after, between_is k right right t w.ways.after_right, w.edge)) m named;
    gone = λ m named. absurd (cc);
  }

  entry : EntryRegion g S k node
  entry = split_entry g k node right cut r s t good w.ways (leads_kept g S k (right ∷ []) [] w.ways.differs kept good)

  -- insets after

  node_back : (p : ℕ) → InInset k node p → InInset g node p
  node_back = entry_back g S k node w.ways.differs entry good

  node_forth : (p : ℕ) → InInset g node p → InInset k node p
  node_forth = entry_forth g S k node w.ways.differs entry good

  one_k : OneEdge k
  one_k = one_after g S k (right ∷ []) [] w.ways.differs kept good tree.edges

  to_right : 0 < edges_to s.edges right
  to_right = leads_some s cut right (w.ways.from_cut cut w.cut_inside (omega arith)).0

  right_back : (p : ℕ) → InInset k right p → InInset g node p × (cut ≤ p)
  right_back p i =
      let up = sole_parent k node right p s one_k w.ways.after to_right i.1 in
      let inset = node_back p (i.0, up.0) in
      (inset, at_least p inset up.1 (below_or_from p cut))
    where
      at_least : (p : ℕ) → InInset g node p → LeadsTo s p right → (p < cut) ⊎ (cut ≤ p) → cut ≤ p
      at_least p inset to (inr le) = le
      at_least p inset to (inl lt) =
          let acts = w.ways.below_cut p inset lt in
          let before = leads_where r p (acts.on (leads_on s p right to)) in
          let same : before.0 ≡ right = edge_one s.edges p before.0 right w.ways.tidy.apart (acts.to before.0 before.1) to in
          absurd (fresh_target g k node right cut r s t good w.ways p before.0 before.1 same)

  right_forth : (p : ℕ) → InInset g node p → cut ≤ p → InInset k right p
  right_forth p inset le = (inset.0, along s (node_forth p inset).1 w.ways.after (w.ways.from_cut p inset le).0 (t, w.ways.after_right))

  right_inset : (a b : ℕ) → IsInset g node a b → IsInset k right cut b
  right_inset a b y = inset_from g k node right a b cut y w.cut_inside right_back right_forth

  node_inset : (a b : ℕ) → IsInset g node a b → IsInset k node a b
  node_inset a b y = inset_like g k node node a b y node_back node_forth

  spans : RegionSpans S k h
  spans = record {
    spans = λ n named live. by_name2 (λ n. (last : ℕ) × IsInset k n (h n).low last) node right
        (let y = tree.spans node (r, w.ways.before) in (y.0, subst (λ (a : ℕ). IsInset k node a y.0) (sym w.low) (node_inset (f node).low y.0 y.1)))
        (let y = tree.spans node (r, w.ways.before) in (y.0, subst (λ (a : ℕ). IsInset k right a y.0) (sym w.low_right) (right_inset (f node).low y.0 y.1))) n named;
    range = λ n q named live is. by_name2 (λ n. (q : Span) → (h n).range ≡ Some q → IsInset k n q.low q.last) node right
        (λ q is. node_inset q.low q.last (tree.range node q (r, w.ways.before) (sym w.range ∙ is)))
        (λ q is. let y = range_of_from (f node).range (h right).range cut q w.range_right is in
        let z = right_inset y.0.low y.0.last (tree.range node y.0 (r, w.ways.before) y.1) in
        subst (λ (b : ℕ). IsInset k right q.low b) (sym y.3) (subst (λ (a : ℕ). IsInset k right a y.0.last) (sym y.2) z)) n named q is;
  }

  pub split_own : KeepsTree g S k h
  split_own = keeps_tree g S k node f h (right ∷ []) [] w.ways.differs entry good w.frames kept spans tree

  pub split_own_insets : SplitsInsetOwn g k node right cut
  split_own_insets = record {
    at_node = λ p. (node_back p, node_forth p);
    at_right = λ p. (right_back p, λ i. right_forth p i.0 i.1);
    keyset_node = λ p. (λ i. below p i (below_or_from p cut), λ i. keyset_forth g k node node p r s w.ways.before w.ways.after (w.ways.below_cut p i.0.0 i.1) i.0 (node_forth p i.0.0));
    keyset_right = λ p. (
      λ i. let y = right_back p i.0 in (keyset_back g k node right p r t w.ways.before w.ways.after_right (w.ways.from_cut p y.0 y.1).1 i y.0, y.1),
      λ i. keyset_forth g k node right p r t w.ways.before w.ways.after_right (w.ways.from_cut p i.0.0 i.1).1 i.0 (right_forth p i.0.0 i.1),
    );
    leads_right = leads_all k node right s one_k w.ways.after to_right;
  }
    where
      below : (p : ℕ) → InKeyset k node p → (p < cut) ⊎ (cut ≤ p) → InKeyset g node p × (p < cut)
      below p i (inl lt) = let inset = node_back p i.0 in (keyset_back g k node node p r s w.ways.before w.ways.after (w.ways.below_cut p inset lt) i inset, lt)
      below p i (inr le) = absurd (i.1 (s, w.ways.after, leads_on s p right (w.ways.from_cut p (node_back p i.0) le).0))
