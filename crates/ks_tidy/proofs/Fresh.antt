-- The right neighbour of a node is not held by a caller that holds only the node and its parent.
use Rattle.std.proofs.Common.{◌≡◌, ◌≢◌, ◌<◌, ℕ, true, List, [], ◌∷◌, refl, sym, subst, inl, inr}
use Rattle.std.specs.Prelude.{Option, Some, None, Any, Bool, false, cond, IsTrue}
use Rattle.ks_keysets.specs.declared.Edge.{Edge}
use Rattle.ks_keysets.specs.Keyset.{InInset}
use Rattle.ks_history.specs.declared.Event.{Event}
use Rattle.ks_history.specs.Passes.{Has}
use Rattle.ks_history.specs.Trace.{graph_after}
use Rattle.ks_flow.specs.Tree.{OneEdge, edges_between}
use Rattle.ks_node.specs.Body.{Body}
use Rattle.ks_node.specs.Edges.{record_of, edges_of}
use Rattle.ks_arena.specs.declared.held.Held.{Held as Hand}
use Rattle.ks_arena.specs.Sound.{Sort}
use Rattle.ks_arena.specs.Clauses.{Matches}
use Rattle.ks_shape.specs.Laws.Single.{record_is}
use Rattle.ks_shape.specs.OnPath.{IsUnder, numbers}
use Rattle.ks_tidy.proofs.Beside.{any_counted, leads_counted, between, cycle}

-- if an option under a test has a value, the test passed
pub passed : {A : Type 0} (b : Bool) (o : Option A) (x : A) → cond b o None ≡ Some x → IsTrue b
passed true o x e = refl
passed false o x e = absurd (let q : ⊥ = cc in q)

pub fresh_two : (n parent m : ℕ) → n ≢ m → parent ≢ m → Has (n ∷ parent ∷ []) m → ⊥
fresh_two n parent m ne ne' (inl e) = ne e
fresh_two n parent m ne ne' (inr (inl e)) = ne' e
fresh_two n parent m ne ne' (inr (inr none)) = none

module _ {N : Type 0} (sort : Sort) (shows : N → Body) (h : List Event) (one : OneEdge (graph_after h)) where
  pub fresh_own : (p m : ℕ) (x : Hand N) (o : Option (Hand N)) → x.live ≡ true → Matches sort shows h x → InInset (graph_after h) x.node p → IsUnder sort shows p x h o
      → Any (λ (e : Edge). e.node ≡ m) (edges_of (shows x.body)) → x.node ≢ m → Has (x.node ∷ numbers o) m → ⊥
  fresh_own p m x None live matches inside under to apart (inl e) = apart e
  fresh_own p m x None live matches inside under to apart (inr none) = none
  fresh_own p m x (Some y) live matches inside under to apart (inl e) = apart e
  fresh_own p m x (Some y) live matches inside under to apart (inr (inr none)) = none
  fresh_own p m x (Some y) live matches inside under to apart (inr (inl e)) =
      let down : 0 < edges_between (graph_after h) y.node x.node = between (graph_after h) one y.node x.node (record_of (shows y.body)) (record_is sort shows h y under.live under.matches) (leads_counted (record_of (shows y.body)) p x.node under.leads) in
      let up : 0 < edges_between (graph_after h) x.node m = between (graph_after h) one x.node m (record_of (shows x.body)) (record_is sort shows h x live matches) (any_counted (edges_of (shows x.body)) m to) in
      cycle (graph_after h) one p x.node y.node x.node refl (subst (λ (z : ℕ). 0 < edges_between (graph_after h) x.node z) (sym e) up) down inside.1
