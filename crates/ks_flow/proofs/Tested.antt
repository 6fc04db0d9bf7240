-- A graph in which each node on the walks of ascending places fits with no right neighbour is tight.
use Rattle.std.proofs.Common.{ℕ, suc, ◌≡◌, ◌<◌, ◌≤◌, ◌⊎◌, inl, inr, List, length, get_or, Some, sym, ◌∙◌, ap, subst, arith}
use Rattle.std.specs.Prelude.{All, Any, ◌≢◌}
use Rattle.std.proofs.lemmas.List.{get_or_default}
use Rattle.ks_keysets.specs.declared.Edge.{Edge}
use Rattle.ks_keysets.specs.declared.Frame.{Frame}
use Rattle.ks_keysets.specs.declared.Kind.{Kind}
use Rattle.ks_keysets.specs.declared.Kind.TheVariants.{NoBranch}
use Rattle.ks_keysets.specs.declared.NodeState.{NodeState}
use Rattle.ks_keysets.specs.declared.Record.{Record}
use Rattle.ks_keysets.specs.Record.{top, IsPlace, Carries, LeadsTo, LeadsOn}
use Rattle.ks_keysets.specs.Keyset.{record_at, IsLive, Reaches, at_root, along, InInset, InKeyset, Good}
use Rattle.ks_keysets.specs.Reframed.{SameNodes}
use Rattle.ks_keysets.specs.Spans.{CarriesAlike}
use Rattle.ks_keysets.specs.Layout.{Layout}
use Rattle.ks_keysets.specs.Tight.{chained, beside, Fit, IsLow, IsRightNeighbour, FitsNoRight, IsTight, IsTidyAt}
use Rattle.ks_flow.specs.Walk.{Path, arrives, passes, Ends, stops, goes}
use Rattle.ks_flow.specs.Tree.{edges_to, Tree}
use Rattle.ks_flow.specs.Tight.{IsTightBelow, EndsRun, ComesTo}
use Rattle.ks_keysets.specs.Laws.Next.{next_one, leads_on, same_record, target_live}
use Rattle.ks_flow.proofs.Walks.{keyset_ends}
use Rattle.ks_flow.proofs.Paths.{path_root, ends_reached, leads_some}
use Rattle.ks_flow.proofs.Edges.{sole_parent}
use Rattle.ks_flow.proofs.Trees.{below_or_from, between_is}
use Rattle.ks_flow.proofs.Used.{edges_two}

-- a record whose edges are disjoint, and of which only one leads to the node

-- if the same edge carries both places, each edge carries both or neither
alike_of : (es : List Edge) (k : ℕ) (x : Edge) (p q : ℕ) → ((i j : ℕ) (d : Edge) → i < j → j < length es → (o : ℕ) → Carries (get_or es i d) o → Carries (get_or es j d) o → ⊥) → k < length es → Carries (get_or es k x) p → Carries (get_or es k x) q → All (λ e. CarriesAlike e p q) es
alike_of es k x p q apart lt on on' i d lt' = go (cases i k)
  where
    cases : (i k : ℕ) → (i < k) ⊎ ((k < i) ⊎ (i ≡ k))
    cases i k = grind arith

    at : (o : ℕ) → Carries (get_or es k x) o → Carries (get_or es k d) o
    at o c = subst (λ (e : Edge). Carries e o) (get_or_default es k x d lt) c

    go : (i < k) ⊎ ((k < i) ⊎ (i ≡ k)) → CarriesAlike (get_or es i d) p q
    go (inl less) = record { forth = λ c. absurd (apart i k d less lt p c (at p on)); back = λ c. absurd (apart i k d less lt q c (at q on')) }
    go (inr (inl less)) = record { forth = λ c. absurd (apart k i d less lt' p (at p on) c); back = λ c. absurd (apart k i d less lt' q (at q on') c) }
    go (inr (inr same)) = subst (λ (j : ℕ). CarriesAlike (get_or es j d) p q) (sym same) (record { forth = λ c. at q on'; back = λ c. at p on })

-- if one record leads two places to a node, by only one edge, that edge carries both
same_edge : (es : List Edge) (p q m : ℕ) → edges_to es m ≤ 1 → Any (λ e. Carries e p × (e.node ≡ m)) es → Any (λ e. Carries e q × (e.node ≡ m)) es → (k : ℕ) × (x : Edge) × (k < length es) × Carries (get_or es k x) p × Carries (get_or es k x) q
same_edge es p q m one (k, x, lt, is, to) (l, y, lt', is', to') = go (cases k l)
  where
    cases : (i k : ℕ) → (i < k) ⊎ ((k < i) ⊎ (i ≡ k))
    cases i k = grind arith

    here : Carries (get_or es k x) p
    here = subst (λ (e : Edge). Carries e p) (sym is) to.0

    there : Carries (get_or es l x) q
    there = subst (λ (e : Edge). Carries e q) (sym is' ∙ get_or_default es l y x lt') to'.0

    node_k : (get_or es k x).node ≡ m
    node_k = ap (λ (e : Edge). e.node) is ∙ to.1

    node_l : (get_or es l x).node ≡ m
    node_l = ap (λ (e : Edge). e.node) (get_or_default es l x y lt' ∙ is') ∙ to'.1

    go : (k < l) ⊎ ((l < k) ⊎ (k ≡ l)) → (k : ℕ) × (x : Edge) × (k < length es) × Carries (get_or es k x) p × Carries (get_or es k x) q
    go (inl less) = absurd (omega (arith, one, edges_two es k l x m less lt' node_k node_l))
    go (inr (inl less)) = absurd (omega (arith, one, edges_two es l k x m less lt node_l node_k))
    go (inr (inr same)) = (k, x, lt, here, subst (λ (j : ℕ). Carries (get_or es j x) q) (sym same) there)

module _ (layout : Layout) (g : ℕ → NodeState) (f : ℕ → Frame) (good : Good g) (tree : Tree g f) where
  one_to : (n m : ℕ) (r : Record) → record_at g n ≡ Some r → edges_to r.edges m ≤ 1
  one_to n m r is = omega (arith, tree.edges.one m n (suc n) (λ e. omega arith), between_is g n m r is)

  pub opens : IsTightBelow layout g f 0
  opens = record { at = λ n live lt. absurd (omega arith) }

  -- the walk begins at the root
  pub begins : (p : ℕ) → IsPlace p → ComesTo layout g f p top 0
  begins p place = record {
    upto = place;
    along = λ q l u. (u, at_root good.root);
    most = λ lt. absurd (omega arith);
    before = λ m inset. inr (path_root g p m m inset.1 arrives);
  }

  -- below a node that is tested, a node is tested too, or the walk goes to it through the next node
  left_behind : (p n m : ℕ) (r : Record) → record_at g n ≡ Some r → LeadsTo r p m → FitsNoRight layout g f n → (x : ℕ) → Path g p x n → FitsNoRight layout g f x ⊎ Path g p x m
  left_behind p n m r is to tested x arrives = inl tested
  left_behind p n m r is to tested x (passes {b} s is' to' w) = inr (subst (λ (y : ℕ). Path g p x y) (next_one g p n b m s r good.apart is' is to' to) w)

  -- the walk goes on to the next node
  pub goes_down : (p last end n m : ℕ) (r : Record) → ComesTo layout g f p last n → record_at g n ≡ Some r → FitsNoRight layout g f n → LeadsTo r p m → EndsRun r p last end → ComesTo layout g f p end m
  goes_down p last end n m r x is tested to run = record {
    upto = run.above;
    along = λ q l u. let i = x.along q l (omega (arith, run.below)) in (i.0, along r i.1 is (carried q l u to) (target_live g r p m (good.leads n r is) to));
    most = λ lt i. let up = sole_parent g n m (suc end) r tree.edges is (leads_some r p m to) i.1 in over lt (i.0, up.0) up.1;
    before = λ y inset. elim (x.before y inset) [ inl t ↦ inl t | inr w ↦ left_behind p n m r is to tested y w ];
  }
    where
      carried : (q : ℕ) → p ≤ q → q ≤ end → LeadsTo r p m → LeadsTo r q m
      carried q l u (k, e, lt, at, (c, node)) = (k, e, lt, at, (subst (λ (z : Edge). Carries z q) at ((run.same q l u k e lt).forth (subst (λ (z : Edge). Carries z p) (sym at) c)), node))

      over : end < top → InInset g n (suc end) → LeadsTo r (suc end) m → ⊥
      over lt inset to' = elim (below_or_from end last) [
        | inl less ↦ (
            let y = same_edge r.edges p (suc end) m (one_to n m r is) to to' in
            run.turns less (alike_of r.edges y.0 y.1 p (suc end) (good.apart n r is) y.2 y.3 y.4))
        | inr more ↦ (
            let same : end ≡ last = omega (arith, run.below) in
            x.most (subst (λ (e : ℕ). e < top) same lt) (subst (λ (e : ℕ). InInset g n (suc e)) same inset))
      ]

  -- a walk that goes down to a node with one place comes there with each place of the node
  reach_back : (p q n m : ℕ) → Ends g q n m → Reaches g p n → Reaches g p m
  reach_back p q n m (stops r is on) reach = reach
  reach_back p q n m (goes {b} r is to w) reach = (sole_parent g m b p r tree.edges is (leads_some r q b to) (reach_back p q n b w reach)).0

  module _ (p last end n : ℕ) (r : Record) (x : ComesTo layout g f p last n) (is : record_at g n ≡ Some r) (off : LeadsOn r p → ⊥) (run : EndsRun r p last end) where
    -- the places up to the end are in the keyset of the node at which the walk ends
    pub span_keyset : (q : ℕ) → p ≤ q → q ≤ end → InKeyset g n q
    span_keyset q l u = (x.along q l (omega (arith, run.below)), λ o. not_on (subst (λ (s : Record). LeadsOn s q) (same_record g n o.0 r o.1 is) o.2))
      where
        not_on : LeadsOn r q → ⊥
        not_on (k, e, lt, at, c) = off (k, e, lt, at, subst (λ (z : Edge). Carries z p) at ((run.same q l u k e lt).back (subst (λ (z : Edge). Carries z q) (sym at) c)))

    -- and the next place is not
    pub span_ends : end < top → InKeyset g n (suc end) → ⊥
    span_ends lt h = elim (below_or_from end last) [
      | inl less ↦ run.turns less (λ k d l. record { forth = λ c. absurd (off (here p k d l c)); back = λ c. absurd (h.1 (r, is, here (suc end) k d l c)) })
      | inr more ↦ (
          let same : end ≡ last = omega (arith, run.below) in
          x.most (subst (λ (e : ℕ). e < top) same lt) (subst (λ (e : ℕ). InInset g n (suc e)) same h.0))
    ]
      where
        here : (q k : ℕ) (d : Edge) → k < length r.edges → Carries (get_or r.edges k d) q → LeadsOn r q
        here q k d l c = (k, get_or r.edges k d, l, get_or_default r.edges k (get_or r.edges k d) d l, c)

    -- so all nodes that begin up to the end of the span are tested
    pub tight_on : FitsNoRight layout g f n → IsTightBelow layout g f p → IsTightBelow layout g f (suc end)
    tight_on tested below = record { at = λ m live lt. elim (below_or_from (f m).low p) [ inl less ↦ below.at m live less | inr more ↦ met m live more (omega arith) ] }
      where
        on_walk : (m : ℕ) → Path g p m n → FitsNoRight layout g f m
        on_walk m w = go n w is off tested
          where
            go : (a : ℕ) → Path g p m a → record_at g a ≡ Some r → (LeadsOn r p → ⊥) → FitsNoRight layout g f a → FitsNoRight layout g f m
            go a arrives is off tested = tested
            go a (passes {b} s is' to w) is off tested = absurd (off (subst (λ (t : Record). LeadsOn t p) (same_record g a s r is' is) (leads_on s p b to)))

        met : (m : ℕ) → IsLive g m → p ≤ (f m).low → (f m).low ≤ end → FitsNoRight layout g f m
        met m live l u =
            let y = tree.spans m live in
            let q = (f m).low in
            let inset = y.1.back q (omega arith) y.1.filled in
            let key = span_keyset q l u in
            let way = ends_reached g q n m good.apart inset.1 (keyset_ends g q n key) in
            let start = x.along p (omega arith) x.upto in
            let back = reach_back p q n m way start.1 in
            elim (x.before m (start.0, back)) [ inl t ↦ t | inr w ↦ on_walk m w ]

  -- if all nodes are tested, and the root is no branch over one child, the graph is tight
  pub tight_all : IsTightBelow layout g f (suc top) → ((r : Record) (m : ℕ) → record_at g 0 ≡ Some r → (f 0).kind ≢ NoBranch → ¬ All (λ e. e.node ≡ m) r.edges) → IsTight layout g f
  tight_all below root = record {
    full = λ n m r s right is is' fit.
        let y = tree.spans n (r, is) in
        let place = (y.1.back (f n).low (omega arith) y.1.filled).0 in
        below.at n (r, is) (omega arith) m r s right is is' fit;
    root = root;
  }

-- a place is tidy if the node at which its walk ends is not low or fits with no right neighbour
pub tidy_here : (layout : Layout) (g : ℕ → NodeState) (f : ℕ → Frame) (n p : ℕ) (r : Record) → Good g → InKeyset g n p → record_at g n ≡ Some r → (IsLow layout (f n).kind r → FitsNoRight layout g f n) → IsTidyAt layout g f p
tidy_here layout g f n p r good here is tested = record { at = λ m s there is' low. at m s (good.one n m p here there) is' low }
  where
    at : (m : ℕ) (s : Record) → n ≡ m → record_at g m ≡ Some s → IsLow layout (f m).kind s → FitsNoRight layout g f m
    at m s same is' low =
        let rec : s ≡ r = same_record g m s r is' (subst (λ (x : ℕ). record_at g x ≡ Some r) same is) in
        subst (λ (x : ℕ). FitsNoRight layout g f x) same (tested (subst (λ (x : ℕ). IsLow layout (f x).kind r) (sym same) (subst (λ (t : Record). IsLow layout (f m).kind t) rec low)))

-- graphs with the same nodes

module _ (layout : Layout) (g k : ℕ → NodeState) (f h : ℕ → Frame) (same : SameNodes g f k h) where
  to_g : (n : ℕ) (r : Record) → record_at k n ≡ Some r → record_at g n ≡ Some r
  to_g n r is = sym (same.records n) ∙ is

  kind_is : (n : ℕ) → (h n).kind ≡ (f n).kind
  kind_is n = ap (λ (z : Frame). z.kind) (same.frames n)

  right_back : (n m : ℕ) → IsRightNeighbour k h n m → IsRightNeighbour g f n m
  right_back n m (chained r is own leads) = chained r (to_g n r is) (sym (kind_is n) ∙ own.0, own.1) leads
  right_back n m (beside r a s is own is' branch next) = beside r a s (to_g n r is) (λ o. own (kind_is n ∙ o.0, o.1)) (to_g a s is') (λ e. branch (kind_is a ∙ e)) next

  fits_along : (n : ℕ) → FitsNoRight layout g f n → FitsNoRight layout k h n
  fits_along n tested m r s right is is' fit =
      tested m r s (right_back n m right) (to_g n r is) (to_g m s is')
      (subst (λ (a : Kind). Fit layout a r (f m).kind s) (kind_is n) (subst (λ (b : Kind). Fit layout (h n).kind r b s) (kind_is m) fit))

  pub tight_along : IsTight layout g f → IsTight layout k h
  tight_along tight = record {
    full = λ n. fits_along n (tight.full n);
    root = λ r m is branch. tight.root r m (to_g 0 r is) (λ e. branch (kind_is 0 ∙ e));
  }

  live_back : (n : ℕ) → IsLive k n → IsLive g n
  live_back n live = (live.0, to_g n live.0 live.1)

  reach_in : (p n : ℕ) → Reaches k p n → Reaches g p n
  reach_in p n (at_root live) = at_root (live_back 0 live)
  reach_in p n (along {n = m} r w is to live) = along r (reach_in p m w) (to_g m r is) to (live_back n live)

  pub tidy_along : (p : ℕ) → IsTidyAt layout g f p → IsTidyAt layout k h p
  tidy_along p tidy = record {
    at = λ n r inside is low. fits_along n (tidy.at n r ((inside.0.0, reach_in p n inside.0.1), λ o. inside.1 (o.0, same.records n ∙ o.1, o.2)) (to_g n r is) (subst (λ (a : Kind). IsLow layout a r) (kind_is n) low));
  }
