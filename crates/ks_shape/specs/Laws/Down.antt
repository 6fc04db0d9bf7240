-- Descents of non-blocking calls: how many nodes a caller took since its call began, and how deep its node is.
use Rattle.std.proofs.Common.{◌≡◌, ◌≢◌, ℕ, suc, ◌<◌, ◌≤◌, List, [], ◌∷◌, Some, refl, ◌∙◌}
use Rattle.std.specs.Prelude.{Any}
use Rattle.ks_keysets.specs.declared.Record.{Record}
use Rattle.ks_keysets.specs.Keyset.{record_at, IsLive}
use Rattle.ks_keysets.specs.Walk.{OneParent}
use Rattle.ks_history.specs.declared.Event.{Event}
use Rattle.ks_history.specs.declared.Event.TheVariants.{Take, Give, Claim, Shape, Call, Twin}
use Rattle.ks_history.specs.declared.Op.{Op}
use Rattle.ks_history.specs.Map.{Touches}
use Rattle.ks_history.specs.Trace.{◌⊑◌, held, graph_after, turn_after}
use Rattle.ks_history.specs.Callers.{NoneBy}
use Rattle.ks_history.specs.Passes.{GrowsWith}
use Rattle.ks_history.specs.Laws.Stays.{AreInTurn, cond_else}
use Rattle.ks_history.specs.Laws.Begins.{begins_both}
use Rattle.ks_history.specs.Refusals.{IsOnWay, takes_by, BusyDue, FarDue}
use Rattle.ks_history.specs.Descent.{TookSince}
use Rattle.ks_history.specs.Laws.Descent.{NoTakeBy, took_root, took_node, took_while, deep_at_root, deep_down, deep_with, far_due}
use Rattle.ks_shape.specs.Down.{IsDown}

no_takes : (c : ℕ) (es : List Event) → NoneBy c es → NoTakeBy c es
no_takes c [] none = refl
no_takes c (Take d i ∷ es) none = cond_else d c (i ∷ takes_by c es) (takes_by c es) none.0 ∙ no_takes c es none.1
no_takes c (Give d i ∷ es) none = no_takes c es none.1
no_takes c (Claim d i ∷ es) none = no_takes c es none.1
no_takes c (Shape d changes ∷ es) none = no_takes c es none.1
no_takes c (Call d i op reply ∷ es) none = no_takes c es none.1
no_takes c (Twin d i j op reply ∷ es) none = no_takes c es none.1

-- a Give takes no node
pub gave_no_take : (c i : ℕ) (h k : List Event) → (so : GrowsWith c (Give c i) h k) → NoTakeBy c (Give c i ∷ so.rest)
gave_no_take c i h k so = no_takes c so.rest so.others

-- the root is taken
pub down_root : (n c : ℕ) (s0 h k : List Event) (roots : ℕ) → GrowsWith c (Take c 0) h k → TookSince c s0 h 0 roots → IsDown n c s0 k 1 (suc roots) 0 0
down_root n c s0 h k roots took so = let now = took_root c s0 h k 0 roots took so in record { took = now; deep = deep_at_root n c s0 k now.grows }

-- the target of an edge is one step deeper
pub down_edge : (n c : ℕ) (s0 h : List Event) (taken roots steps i j : ℕ) (r : Record) → record_at (graph_after h) i ≡ Some r → Any (λ e. e.node ≡ j) r.edges → IsDown n c s0 h taken roots steps i → IsDown n c s0 h taken roots (suc steps) j
down_edge n c s0 h taken roots steps i j r is leads so = record { took = so.took; deep = deep_down n c [] s0 h steps i j r so.deep is leads }

-- another node than the root is taken
pub down_take : (n c : ℕ) (s0 h k : List Event) (taken roots steps i j : ℕ) → j ≢ 0 → GrowsWith c (Take c j) h k → AreInTurn k → IsDown n c s0 h taken roots steps i → IsDown n c s0 k (suc taken) roots steps i
down_take n c s0 h k taken roots steps i j apart took are so = record {
  took = took_node c j s0 h k taken roots apart took so.took;
  deep = deep_with n c (Take c j) [] s0 h k steps i tt took are so.deep;
}

-- a node is released
pub down_give : (n c : ℕ) (s0 h k : List Event) (taken roots steps i j : ℕ) → GrowsWith c (Give c j) h k → AreInTurn k → IsDown n c s0 h taken roots steps i → IsDown n c s0 k taken roots steps i
down_give n c s0 h k taken roots steps i j gave are so = record {
  took = took_while c s0 h k taken roots (record { rest = Give c j ∷ gave.rest; is = gave.is }) (gave_no_take c j h k gave) so.took;
  deep = deep_with n c (Give c j) [] s0 h k steps i tt gave are so.deep;
}

-- Far is due if c took as many nodes as there are, and an edge leads on to one more
pub down_far : (n c : ℕ) (s0 h : List Event) (taken roots steps i j : ℕ) (r : Record) → roots ≤ 2 → n ≤ taken → taken ≤ suc steps → OneParent (graph_after h) → ((m : ℕ) → IsLive (graph_after h) m → m < n)
    → record_at (graph_after h) i ≡ Some r → Any (λ e. e.node ≡ j) r.edges → IsLive (graph_after h) j → IsDown n c s0 h taken roots steps i → FarDue n c s0 h
down_far n c s0 h taken roots steps i j r twice all counted one few is leads live so = far_due n c [] s0 h taken roots steps i j r so.took twice all so.deep counted one few is leads live

-- Busy is due if the node was on the search path of the place, and then another caller held it
pub busy_since : (c node holder p : ℕ) (op : Op) (s0 h k : List Event) → s0 ⊑ h → h ⊑ k → Touches op p → IsOnWay (graph_after h) p node → turn_after k node ≡ held holder → holder ≢ c → BusyDue c op s0 k node holder
busy_since c node holder p op s0 h k since later touched on_way busy other = record {
  another = other;
  place = p;
  touched = touched;
  on_way = record { moment = h; since = since; until = later; so = on_way };
  is_held = record { moment = k; since = begins_both s0 h k since later; until = record { rest = []; is = refl }; so = busy };
}
