-- Where a non-blocking search by giving up is before and after a visit.
use Rattle.std.proofs.Common.{◌≡◌, ◌≢◌, ◌<◌, ◌≤◌, ◌∙◌, ℕ, suc, List, ◌∷◌, inl, inr, sym, subst, arith}
use Rattle.std.specs.Prelude.{◌⊎◌, Option, Some, None, IsTrue, is_some}
use Rattle.ks_keysets.specs.declared.Frame.{Frame}
use Rattle.ks_keysets.specs.declared.NodeState.{NodeState}
use Rattle.ks_keysets.specs.declared.Span.{Span}
use Rattle.ks_keysets.specs.Keyset.{IsLive}
use Rattle.ks_flow.specs.Tree.{Tree, IsInset}
use Rattle.ks_history.specs.declared.Event.{Event}
use Rattle.ks_history.specs.declared.Event.TheVariants.{Give, Take}
use Rattle.ks_history.specs.Trace.{◌⊑◌}
use Rattle.ks_history.specs.Passes.{GrowsWith}
use Rattle.ks_history.specs.Refusals.{FarDue}
use Rattle.ks_history.specs.Laws.Begins.{with_begins}
use Rattle.ks_history.specs.Laws.Beside.{spare_others, quiet_spares}
use Rattle.ks_history.specs.Laws.Stays.{AreInTurn}
use Rattle.ks_history.specs.Laws.Descent.{took_none, far_later}
use Rattle.ks_node.specs.Body.{first_of, last_of}
use Rattle.ks_arena.specs.Sound.{Sort}
use Rattle.ks_shape.specs.Down.{IsDown}
use Rattle.ks_shape.specs.Next.{LeadsOnTo}
use Rattle.ks_shape.specs.Laws.Down.{down_root, down_edge, down_take, down_give, down_far, gave_no_take}
use Rattle.ks_giveup.specs.Tries.{WasOnWay}

-- a range is the inset
pub ranged_inset : (g : ℕ → NodeState) (f : ℕ → Frame) (i : ℕ) (o : Option Span) → Tree g f → IsLive g i → (f i).range ≡ o → IsTrue (is_some o) → IsInset g i (first_of o) (last_of o)
ranged_inset g f i None facts live e some = absurd (let q : ⊥ = cc in q)
ranged_inset g f i (Some s) facts live e some = facts.range i s live e

-- c, whose search began at s, has taken and released this many nodes, and is to take node j next: the root at first, and then
-- one to which an edge of the last one led; and if there are no more nodes, Far is due
abbrev pub IsNext : ℕ → ℕ → List Event → List Event → ℕ → ℕ → Type 0
IsNext n c s h taken j = ((taken ≡ 0) × (j ≡ 0) × (h ≡ s)) ⊎ ((j ≢ 0) × IsDown n c s h taken 1 taken j × (n ≤ taken → FarDue n c s h))

-- it takes that node
pub taken_next : (n c : ℕ) (s h k : List Event) (taken i j : ℕ) → AreInTurn k → i ≡ j → GrowsWith c (Take c j) h k → IsNext n c s h taken j → IsDown n c s k (suc taken) 1 taken i
taken_next n c s h k taken i j turns same took (inl root) =
    let first : GrowsWith c (Take c 0) s k = subst (λ (z : List Event). GrowsWith c (Take c 0) z k) root.2 (subst (λ (z : ℕ). GrowsWith c (Take c z) h k) root.1 took) in
    let down : IsDown n c s k 1 1 0 0 = down_root n c s s k 0 first (took_none c s) in
    subst (λ (z : ℕ). IsDown n c s k (suc z) 1 z i) (sym root.0) (subst (λ (z : ℕ). IsDown n c s k 1 1 0 z) (sym (same ∙ root.1)) down)
taken_next n c s h k taken i j turns same took (inr next) =
    subst (λ (z : ℕ). IsDown n c s k (suc taken) 1 taken z) (sym same) (down_take n c s h k taken 1 taken j j next.0 took turns next.1)

-- it releases the node, whose edge leads on
pub left_next : (sort : Sort) (slots n c p : ℕ) (s h k : List Event) (taken i j : ℕ) → AreInTurn k → LeadsOnTo sort slots n c p h i j → GrowsWith c (Give c i) h k → IsDown n c s h (suc taken) 1 taken i → IsNext n c s k (suc taken) j
left_next sort slots n c p s h k taken i j turns next gave down = inr (
  next.below,
  down_give n c s h k (suc taken) 1 (suc taken) j i gave turns (down_edge n c s h (suc taken) 1 taken i j next.node next.is next.among down),
  λ all. far_later n c s h k (record { rest = Give c i ∷ gave.rest; is = gave.is }) (gave_no_take c i h k gave)
      (down_far n c s h (suc taken) 1 taken i j next.node (omega arith) all (omega arith) next.parents next.few next.is next.among next.live down),
)

-- the node to which the edge leads was on the search path
pub led_on : (sort : Sort) (slots n c p : ℕ) (s h k : List Event) (i j : ℕ) → s ⊑ h → LeadsOnTo sort slots n c p h i j → GrowsWith c (Give c i) h k → WasOnWay c p s k j
led_on sort slots n c p s h k i j since next gave = record {
  moment = h;
  since = since;
  later = with_begins c (Give c i) h k gave;
  spare = ((λ own. quiet_spares j (Give c i) tt), spare_others c j gave.rest gave.others);
  on_way = inr (i, next.node, next.is, next.leads);
  inside = next.inside;
}

-- it has taken as many nodes as there are
pub none_next : (n c : ℕ) (s h : List Event) (taken j : ℕ) → 0 < n → n ≤ taken → IsNext n c s h taken j → FarDue n c s h
none_next n c s h taken j some all (inl root) = absurd (let none : taken ≡ 0 = root.0 in let q : ⊥ = omega (arith, none, some, all) in q)
none_next n c s h taken j some all (inr next) = next.2 all
