-- What stays of a path, and of the places of its nodes, as a caller takes, releases and decides.
use Rattle.std.proofs.Common.{◌≡◌, ◌≢◌, ◌≤◌, ℕ, true, List, ◌∷◌, length, sym, refl, ap, ◌∙◌, subst, inl, inr, arith}
use Rattle.std.specs.Prelude.{Option, Some, None}
use Rattle.ks_keysets.specs.Record.{LeadsTo}
use Rattle.ks_history.specs.declared.Event.{Event}
use Rattle.ks_history.specs.Own.{hand, drop_one}
use Rattle.ks_history.specs.Trace.{held, graph_after, turn_after}
use Rattle.ks_history.specs.Passes.{Has, GrowsWith}
use Rattle.ks_history.specs.Laws.Stays.{cond_here, cond_else}
use Rattle.ks_history.specs.Hand.{AreOnce}
use Rattle.ks_history.specs.Laws.Hand.{is_hand}
use Rattle.ks_flow.specs.Discipline.{BeginsTree, TreeStep, SameInset, SameKeyset}
use Rattle.ks_node.specs.Body.{Body}
use Rattle.ks_node.specs.Edges.{record_of}
use Rattle.ks_arena.specs.declared.held.Held.{Held as Hand}
use Rattle.ks_arena.specs.Laws.FromSound.{IsPlain}
use Rattle.ks_arena.specs.Sound.{Sort, Sound}
use Rattle.ks_arena.specs.Clauses.{Matches}
use Rattle.ks_shape.specs.Laws.Beside.{beside_with}
use Rattle.ks_shape.specs.Places.{HasPlacesOf}
use Rattle.ks_shape.specs.OnPath.{IsUnder, numbers}
use Rattle.ks_shape.specs.Laws.Search.{Laws}
use Rattle.ks_tidy.specs.Pair.{TakesOver}

pub drop_first : (i : ℕ) (xs : List ℕ) → drop_one i (i ∷ xs) ≡ xs
drop_first i xs = cond_here i i xs (i ∷ drop_one i xs) refl

pub drop_later : (x i : ℕ) (xs : List ℕ) → x ≢ i → drop_one i (x ∷ xs) ≡ x ∷ drop_one i xs
drop_later x i xs ne = cond_else x i xs (x ∷ drop_one i xs) ne

pub few_on : {N : Type 0} (o : Option (Hand N)) (hs : List ℕ) (i : ℕ) → hs ≡ i ∷ numbers o → length hs ≤ 2
few_on None hs i is = omega (arith, ap length is)
few_on (Some y) hs i is = omega (arith, ap length is)

pub few_right : {N : Type 0} (o : Option (Hand N)) (hs : List ℕ) (i j : ℕ) → hs ≡ i ∷ j ∷ numbers o → length hs ≤ 3
few_right None hs i j is = omega (arith, ap length is)
few_right (Some y) hs i j is = omega (arith, ap length is)

module _ {N : Type 0} where
  -- the parent is held, and is not the node
  pub parent_has : (j : ℕ) (o : Option (Hand N)) (hs : List ℕ) → hs ≡ j ∷ numbers o → (y : Hand N) → o ≡ Some y → Has hs y.node
  parent_has j None hs is y e = absurd (let q : ⊥ = cc in q)
  parent_has j (Some z) hs is y e = let same : z ≡ y = cc in subst (λ (l : List ℕ). Has l y.node) (sym is) (inr (inl (ap (λ (w : Hand N). w.node) same)))

  pub parent_apart : (j : ℕ) (o : Option (Hand N)) → AreOnce (j ∷ numbers o) → (y : Hand N) → o ≡ Some y → y.node ≢ j
  parent_apart j None once y e = absurd (let q : ⊥ = cc in q)
  parent_apart j (Some z) once y e = λ same. let q : z ≡ y = cc in once.0 (inl (ap (λ (w : Hand N). w.node) q ∙ same))

module _ {N : Type 0} (sort : Sort) (shows : N → Body) where
  -- a node that takes over its child needs no parent
  pub under_none : (p : ℕ) (x : Hand N) (h : List Event) → TakesOver sort.layout x.node → IsUnder sort shows p x h None
  under_none p x h (inl root) = inl root
  under_none p x h (inr on) = inr (inr on)

  -- the parent still leads to the node, if it shows what it did
  pub under_with : (p : ℕ) (x x' : Hand N) (h k : List Event) (o : Option (Hand N)) → x'.node ≡ x.node → (o ≡ None → TakesOver sort.layout x.node) → ((y : Hand N) → o ≡ Some y → Matches sort shows h y → Matches sort shows k y) → IsUnder sort shows p x h o → IsUnder sort shows p x' k o
  under_with p x x' h k None same rooted keep so = under_none p x' k (subst (TakesOver sort.layout) (sym same) (rooted refl))
  under_with p x x' h k (Some y) same rooted keep so = record { live = so.live; matches = keep y refl so.matches; leads = subst (λ (z : ℕ). LeadsTo (record_of (shows y.body)) p z) (sym same) so.leads }

  pub under_leads : (p : ℕ) (x y : Hand N) (h : List Event) (o : Option (Hand N)) → o ≡ Some y → IsUnder sort shows p x h o → LeadsTo (record_of (shows y.body)) p x.node
  under_leads p x y h None e so = absurd (let q : ⊥ = cc in q)
  under_leads p x y h (Some z) e so = let same : z ≡ y = cc in subst (λ (w : Hand N). LeadsTo (record_of (shows w.body)) p x.node) same so.leads

  pub under_matches : (p : ℕ) (x y : Hand N) (h : List Event) (o : Option (Hand N)) → o ≡ Some y → IsUnder sort shows p x h o → (y.live ≡ true) × Matches sort shows h y
  under_matches p x y h None e so = absurd (let q : ⊥ = cc in q)
  under_matches p x y h (Some z) e so = let same : z ≡ y = cc in subst (λ (w : Hand N). (w.live ≡ true) × Matches sort shows h w) same (so.live, so.matches)

module _ (sort : Sort) (n c : ℕ) (laws : Laws sort n) where
  -- a node that c holds before and after an event of its own that is no Shape keeps its places
  pub places_stay : (e : Event) (h k : List Event) (i : ℕ) → IsPlain e → GrowsWith c e h k → Sound sort BeginsTree TreeStep n k → turn_after h i ≡ held c → turn_after k i ≡ held c → HasPlacesOf (graph_after h) (graph_after k) i i
  places_stay e h k i plain grows sound before after = record {
    inset = (beside_with SameInset sort BeginsTree TreeStep n laws.insets c e h k plain grows sound i before after).forth;
    keyset = (beside_with SameKeyset sort BeginsTree TreeStep n laws.keysets c e h k plain grows sound i before after).forth;
  }

  -- the same, by what c holds
  pub places_kept : (e : Event) (h k : List Event) (i : ℕ) → IsPlain e → GrowsWith c e h k → Sound sort BeginsTree TreeStep n h → Sound sort BeginsTree TreeStep n k → Has (hand c h) i → Has (hand c k) i → HasPlacesOf (graph_after h) (graph_after k) i i
  places_kept e h k i plain grows so sound has has' = places_stay e h k i plain grows sound ((is_hand h c (laws.turns h so)).held i has) ((is_hand k c (laws.turns k sound)).held i has')

  pub once_in : (h : List Event) (hs : List ℕ) → Sound sort BeginsTree TreeStep n h → hand c h ≡ hs → AreOnce hs
  once_in h hs so is = subst AreOnce is (is_hand h c (laws.turns h so)).once
