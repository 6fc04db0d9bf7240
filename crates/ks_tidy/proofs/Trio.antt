-- A caller that holds a pair takes a node beside it.
use Rattle.std.proofs.Common.{◌≡◌, ◌∙◌, ℕ, true, List, ◌∷◌, refl, sym, ap, subst, inl, inr}
use Rattle.ks_history.specs.declared.Event.{Event}
use Rattle.ks_history.specs.declared.Event.TheVariants.{Take}
use Rattle.ks_history.specs.Laws.Alone.{alone_then}
use Rattle.ks_history.specs.Passes.{Has}
use Rattle.ks_history.specs.Laws.Hand.{is_hand}
use Rattle.ks_history.specs.Own.{hand}
use Rattle.ks_history.specs.Trace.{held, graph_after, turn_after}
use Rattle.ks_flow.specs.Discipline.{BeginsTree, TreeStep, SameInset}
use Rattle.ks_node.specs.Body.{Body}
use Rattle.ks_arena.specs.declared.held.Held.{Held as Hand}
use Rattle.ks_arena.specs.Sound.{Sort, Sound}
use Rattle.ks_arena.specs.Clauses.{HasLooked, HasTaken, StillMatch}
use Rattle.ks_shape.specs.Laws.Beside.{beside_others}
use Rattle.ks_shape.specs.Places.{HasPlacesOf}
use Rattle.ks_shape.specs.declared.path.Path.{Path}
use Rattle.ks_shape.specs.Laws.Search.{Laws}
use Rattle.ks_shape.specs.OnPath.{numbers}
use Rattle.ks_tidy.specs.declared.step.Step.{Step}
use Rattle.ks_tidy.specs.declared.step.Step.TheVariants.{Freed, Rests}
use Rattle.ks_shape.specs.Frees.{Frees}
use Rattle.ks_shape.specs.Laws.Frees.{frees_begins, frees_both}
use Rattle.ks_tidy.specs.Pair.{DidStep, IsPair, IsTrio, count_in}
use Rattle.ks_tidy.proofs.Keeping.{parent_has, places_kept, under_with}

module _ {N : Type 0} (sort : Sort) (shows : N → Body) (n c p i : ℕ) (laws : Laws sort n) (h k : List Event) (x : Path N) (right : Hand N)
    (sound : Sound sort BeginsTree TreeStep n h) (sound' : Sound sort BeginsTree TreeStep n k) (pair : IsPair sort shows c p h x) (took : HasTaken sort shows c i h k right) where
  hands_took : hand c k ≡ i ∷ x.node.node ∷ numbers x.parent
  hands_took = took.hand ∙ ap (λ (z : List ℕ). i ∷ z) pair.path.hands

  has : Has (hand c h) x.node.node
  has = subst (λ (z : List ℕ). Has z x.node.node) (sym pair.path.hands) (inl refl)

  -- the node keeps its places
  pub places_took : HasPlacesOf (graph_after h) (graph_after k) x.node.node x.node.node
  places_took = places_kept sort n c laws (Take c i) h k x.node.node tt took.grows sound sound' has (subst (λ (z : List ℕ). Has z x.node.node) (sym hands_took) (inr (inl refl)))

  pub trio_took : StillMatch sort shows (hand c h) h k → IsTrio sort shows c p k x right
  trio_took still = record {
    hands = hands_took ∙ ap (λ (z : ℕ). z ∷ x.node.node ∷ numbers x.parent) (sym took.node);
    live = pair.path.live;
    matches = still x.node has pair.path.matches;
    inside = places_took.inset p pair.path.inside;
    under = under_with sort shows p x.node x.node h k x.parent refl pair.rooted (λ y is m. still y (parent_has x.node.node x.parent (hand c h) pair.path.hands y is) m) pair.path.under;
    rooted = pair.rooted;
    right_live = took.live;
    right_matches = took.matches;
  }

-- others leave a pair as it is
module _ {N : Type 0} (sort : Sort) (shows : N → Body) (n c p : ℕ) (laws : Laws sort n) (h k : List Event) (x : Path N)
    (sound : Sound sort BeginsTree TreeStep n h) (sound' : Sound sort BeginsTree TreeStep n k) (pair : IsPair sort shows c p h x) (looked : HasLooked c h k) where
  mine : (m : List Event) → Sound sort BeginsTree TreeStep n m → hand c m ≡ x.node.node ∷ numbers x.parent → turn_after m x.node.node ≡ held c
  mine m so hands = (is_hand m c (laws.turns m so)).held x.node.node (subst (λ (z : List ℕ). Has z x.node.node) (sym hands) (inl refl))

  pub pair_stays : StillMatch sort shows (hand c h) h k → IsPair sort shows c p k x
  pair_stays still = let path = pair.path in let hands : hand c k ≡ x.node.node ∷ numbers x.parent = looked.hand ∙ path.hands in record {
    path = record {
      hands = hands;
      live = path.live;
      matches = still x.node (subst (λ (z : List ℕ). Has z x.node.node) (sym path.hands) (inl refl)) path.matches;
      inside = (beside_others SameInset sort BeginsTree TreeStep n laws.insets c h k looked.grows sound' x.node.node (mine h sound path.hands) (mine k sound' hands)).forth p path.inside;
      under = under_with sort shows p x.node x.node h k x.parent refl pair.rooted (λ y is m. still y (parent_has x.node.node x.parent (hand c h) path.hands y is) m) path.under;
    };
    rooted = pair.rooted;
  }

-- what a try to merge ensures of its own stretch, it ensures of one that begins before
module _ {N : Type 0} (sort : Sort) (shows : N → Body) (c : ℕ) (h h₁ k : List Event) (path : Path N) where
  pub did_after : (r : Step N) → Frees c h h₁ 0 → DidStep sort shows c h₁ k true path r → DidStep sort shows c h k true path r
  did_after (Freed x) before so = frees_both c 0 1 h h₁ k before so
  did_after (Rests x) before so = record {
    same = so.same;
    frees = frees_both c 0 0 h h₁ k before so.frees;
    no_sole = so.no_sole;
    tested = λ whole which alone. so.tested whole which (alone_then c h h₁ k (frees_begins c h h₁ before) (frees_begins c h₁ k so.frees) alone);
  }

  pub frees_after : (r : Step N) → Frees c h h₁ 0 → DidStep sort shows c h₁ k true path r → Frees c h k (count_in r)
  frees_after (Freed x) before so = frees_both c 0 1 h h₁ k before so
  frees_after (Rests x) before so = frees_both c 0 0 h h₁ k before so.frees
