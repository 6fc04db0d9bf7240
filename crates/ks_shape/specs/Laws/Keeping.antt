-- What a search holds after it released one of its nodes.
use Rattle.std.proofs.Common.{◌≡◌, ◌≢◌, ℕ, true, List, ◌∷◌, sym, refl, subst, inl}
use Rattle.std.specs.Prelude.{Option, Some, None}
use Rattle.ks_keysets.specs.Keyset.{InInset}
use Rattle.ks_history.specs.declared.Event.{Event}
use Rattle.ks_history.specs.declared.Event.TheVariants.{Give}
use Rattle.ks_history.specs.Own.{hand, drop_one}
use Rattle.ks_history.specs.Trace.{graph_after}
use Rattle.ks_history.specs.Passes.{Has, GrowsWith}
use Rattle.ks_history.specs.Laws.Stays.{cond_here, cond_else}
use Rattle.ks_history.specs.Hand.{AreOnce}
use Rattle.ks_history.specs.Laws.Hand.{is_hand}
use Rattle.ks_flow.specs.Discipline.{BeginsTree, TreeStep}
use Rattle.ks_node.specs.Body.{Body}
use Rattle.ks_arena.specs.declared.held.Held.{Held as Hand}
use Rattle.ks_arena.specs.Sound.{Sort, Sound}
use Rattle.ks_arena.specs.Clauses.{Matches, StillMatchBut}
use Rattle.ks_shape.specs.OnPath.{IsUnder, IsOnPath, numbers}
use Rattle.ks_shape.specs.Laws.Search.{Laws, quiet_insets}

pub drop_first : (i : ℕ) (xs : List ℕ) → drop_one i (i ∷ xs) ≡ xs
drop_first i xs = cond_here i i xs (i ∷ drop_one i xs) refl

pub drop_later : (x i : ℕ) (xs : List ℕ) → x ≢ i → drop_one i (x ∷ xs) ≡ x ∷ drop_one i xs
drop_later x i xs ne = cond_else x i xs (x ∷ drop_one i xs) ne

module _ {N : Type 0} (sort : Sort) (shows : N → Body) (n c : ℕ) (laws : Laws sort n) (h k : List Event) (i : ℕ) (sound : Sound sort BeginsTree TreeStep n h) (sound' : Sound sort BeginsTree TreeStep n k)
    (gave : GrowsWith c (Give c i) h k) (still : StillMatchBut sort shows i (hand c h) h k) where
  -- no node is held twice
  pub once : (hs : List ℕ) → hand c h ≡ hs → AreOnce hs
  once hs is = subst AreOnce is (is_hand h c (laws.turns h sound)).once

  pub inside : (j p : ℕ) → Has (hand c h) j → Has (hand c k) j → InInset (graph_after h) j p → InInset (graph_after k) j p
  inside j p has has' = quiet_insets sort n c laws (Give c i) h k tt gave sound' j p ((is_hand h c (laws.turns h sound)).held j has) ((is_hand k c (laws.turns k sound')).held j has')

  -- the path is kept
  under_kept : (p : ℕ) (x : Hand N) (o : Option (Hand N)) → ((y : Hand N) → o ≡ Some y → Has (hand c h) y.node × (y.node ≢ i)) → IsUnder sort shows p x h o → IsUnder sort shows p x k o
  under_kept p x None has so = so
  under_kept p x (Some y) has so = let t = has y refl in record { live = so.live; matches = still y t.1 t.0 so.matches; leads = so.leads }

  pub path_kept : (p : ℕ) (x : Hand N) (o : Option (Hand N)) → hand c k ≡ x.node ∷ numbers o → Has (hand c h) x.node → x.node ≢ i → ((y : Hand N) → o ≡ Some y → Has (hand c h) y.node × (y.node ≢ i))
      → (x.live ≡ true) × Matches sort shows h x → InInset (graph_after h) x.node p → IsUnder sort shows p x h o → IsOnPath sort shows c p k (record { parent = o; node = x })
  path_kept p x o hands has ne has_o is inset under = record {
    hands = hands;
    live = is.0;
    matches = still x ne has is.1;
    inside = inside x.node p has (subst (λ (l : List ℕ). Has l x.node) (sym hands) (inl refl)) inset;
    under = under_kept p x o has_o under;
  }
