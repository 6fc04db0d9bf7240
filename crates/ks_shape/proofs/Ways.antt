-- The steps of a search that keeps the parent of its node.
use Rattle.std.proofs.Common.{◌≡◌, ◌≢◌, ℕ, ◌≤◌, true, List, [], ◌∷◌, ◌++◌, length, sym, refl, ap, ◌∙◌, subst, inl, inr, arith}
use Rattle.std.specs.Prelude.{Some}
use Rattle.ks_keysets.specs.Record.{LeadsTo}
use Rattle.ks_keysets.specs.Keyset.{record_at, InInset, along}
use Rattle.ks_history.specs.declared.Event.{Event}
use Rattle.ks_history.specs.declared.Event.TheVariants.{Take, Give}
use Rattle.ks_history.specs.Own.{hand, drop_one}
use Rattle.ks_history.specs.Trace.{held, graph_after, turn_after}
use Rattle.ks_history.specs.Passes.{Has, GrowsWith}
use Rattle.ks_history.specs.Laws.Stays.{cond_here, cond_else, AreInTurn}
use Rattle.ks_history.specs.Hand.{AreOnce}
use Rattle.ks_history.specs.Laws.Hand.{is_hand}
use Rattle.ks_history.specs.Laws.Begins.{with_others}
use Rattle.ks_history.specs.declared.Op.{Op}
use Rattle.ks_history.specs.declared.Op.TheVariants.{Get, Put, Del, Add, Swap, Part, Move}
use Rattle.ks_history.specs.Done.{Template, coupling, from_above, most_held, MayTake}
use Rattle.ks_history.specs.Underway.{Underway}
use Rattle.ks_history.specs.Laws.Underway.{may_take_later, underway_with}
use Rattle.ks_flow.specs.Discipline.{BeginsTree, TreeStep}
use Rattle.ks_node.specs.Body.{Body}
use Rattle.ks_node.specs.Edges.{record_of}
use Rattle.ks_arena.specs.declared.held.Held.{Held as Hand}
use Rattle.ks_arena.specs.Sound.{Sort, Sound}
use Rattle.ks_arena.specs.Clauses.{Matches, HasTaken, StillMatchBut}
use Rattle.ks_shape.specs.Laws.Single.{led_live, record_is}
use Rattle.ks_shape.specs.OnWay.{IsOnWay}
use Rattle.ks_shape.specs.Stretches.{Stretches}
use Rattle.ks_shape.specs.Laws.Stretches.{stretches_give, stretches_take}
use Rattle.ks_shape.specs.OnPath.{IsOnPath}
use Rattle.ks_shape.specs.Laws.Search.{Laws, quiet_insets}

pub last_of_two : (i j : ℕ) → i ≢ j → drop_one j (i ∷ j ∷ []) ≡ i ∷ []
last_of_two i j ne = cond_else i j (j ∷ []) (i ∷ drop_one j (j ∷ [])) ne ∙ ap (λ (z : List ℕ). i ∷ z) (cond_here j j [] (j ∷ []) refl)

-- a call by lock coupling may hold two nodes
two_may : (op : Op) → 2 ≤ most_held coupling op
two_may (Get p) = omega arith
two_may (Put p v) = omega arith
two_may (Del p) = omega arith
two_may (Add p v) = omega arith
two_may (Swap p old new) = omega arith
two_may (Part low last) = omega arith
two_may (Move from to) = omega arith

module _ {N : Type 0} (sort : Sort) (shows : N → Body) where
  -- the other held node is released
  module _ (n c p : ℕ) (laws : Laws sort n) (h k : List Event) (x y : Hand N) (sound : Sound sort BeginsTree TreeStep n h) (sound' : Sound sort BeginsTree TreeStep n k)
      (both : hand c h ≡ x.node ∷ y.node ∷ []) (is : (x.live ≡ true) × Matches sort shows h x) (inside : InInset (graph_after h) x.node p) (gave : GrowsWith c (Give c y.node) h k) (hands : hand c k ≡ drop_one y.node (hand c h)) where
    apart : x.node ≢ y.node
    apart same = (subst AreOnce both (is_hand h c (laws.turns h sound)).once).0 (inl (sym same))

    alone : hand c k ≡ x.node ∷ []
    alone = hands ∙ ap (drop_one y.node) both ∙ last_of_two x.node y.node apart

    has : Has (hand c h) x.node
    has = subst (λ (z : List ℕ). Has z x.node) (sym both) (inl refl)

    has' : Has (hand c k) x.node
    has' = subst (λ (z : List ℕ). Has z x.node) (sym alone) (inl refl)

    pub goes_alone : StillMatchBut sort shows y.node (hand c h) h k → IsOnWay sort shows c p k x
    goes_alone still = record {
      alone = alone;
      live = is.0;
      matches = still x apart has is.1;
      inside = quiet_insets sort n c laws (Give c y.node) h k tt gave sound' x.node p ((is_hand h c (laws.turns h sound)).held x.node has) ((is_hand k c (laws.turns k sound')).held x.node has') inside;
    }

    pub alone_stretch : Stretches c h k
    alone_stretch = stretches_give c y.node h k (omega (arith, ap length both)) gave

    pub alone_under : (op : Op) (s : List Event) → Underway coupling c op s h → Underway coupling c op s k
    alone_under op s under = underway_with coupling c op (Give c y.node) s h k tt gave tt (omega (arith, ap length alone, two_may op)) under

  -- the child is taken
  module _ (n c p i : ℕ) (laws : Laws sort n) (h k : List Event) (x y : Hand N) (sound : Sound sort BeginsTree TreeStep n h) (sound' : Sound sort BeginsTree TreeStep n k)
      (way : IsOnWay sort shows c p h x) (to : LeadsTo (record_of (shows x.body)) p i) (took : HasTaken sort shows c i h k y) where
    is : record_at (graph_after h) x.node ≡ Some (record_of (shows x.body))
    is = record_is sort shows h x way.live way.matches

    both : hand c k ≡ i ∷ x.node ∷ []
    both = took.hand ∙ ap (λ (z : List ℕ). i ∷ z) way.alone

    mine : turn_after h x.node ≡ held c
    mine = (is_hand h c (laws.turns h sound)).held x.node (subst (λ (z : List ℕ). Has z x.node) (sym way.alone) (inl refl))

    mine' : turn_after k x.node ≡ held c
    mine' = (is_hand k c (laws.turns k sound')).held x.node (subst (λ (z : List ℕ). Has z x.node) (sym both) (inr (inl refl)))

    inside : Matches sort shows k x → InInset (graph_after k) i p
    inside still =
        let at : InInset (graph_after k) x.node p = quiet_insets sort n c laws (Take c i) h k tt took.grows sound' x.node p mine mine' way.inside in
        let here : record_at (graph_after k) x.node ≡ Some (record_of (shows x.body)) = record_is sort shows k x way.live still in
        (at.0, along (record_of (shows x.body)) at.1 here to (led_live (graph_after k) x.node p i (record_of (shows x.body)) (laws.good k sound') here to))

    pub goes_down : Matches sort shows k x → IsOnPath sort shows c p k (record { parent = Some x; node = y })
    goes_down still = record {
      hands = both ∙ ap (λ (z : ℕ). z ∷ x.node ∷ []) (sym took.node);
      live = took.live;
      matches = took.matches;
      inside = subst (λ (z : ℕ). InInset (graph_after k) z p) (sym took.node) (inside still);
      under = record { live = way.live; matches = still; leads = subst (λ (z : ℕ). LeadsTo (record_of (shows x.body)) p z) (sym took.node) to };
    }

    turns : AreInTurn (took.grows.rest ++ h)
    turns = laws.turns (took.grows.rest ++ h) (subst (Sound sort BeginsTree TreeStep n) took.grows.is sound').0

    may : (template : Template) (op : Op) → MayTake template op (took.grows.rest ++ h) c i
    may template op = may_take_later template c i op h (took.grows.rest ++ h) (with_others c (Take c i) h k took.grows) turns (from_above record { above = x.node; node = record_of (shows x.body); holds = mine; is = is; leads = (to.0, to.1, to.2, to.3, to.4.1) })

    pub down_stretch : Stretches c h k
    down_stretch = stretches_take c i h k (omega (arith, ap length way.alone)) (omega (arith, ap length both)) took.grows may

    pub down_under : (op : Op) (s : List Event) → Underway coupling c op s h → Underway coupling c op s k
    down_under op s under = underway_with coupling c op (Take c i) s h k tt took.grows (λ same. may coupling op) (omega (arith, ap length both, two_may op)) under
