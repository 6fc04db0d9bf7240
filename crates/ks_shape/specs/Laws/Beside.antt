-- What stays at the nodes that a caller holds while it takes, claims and releases nodes, whatever others do.
use Rattle.std.proofs.Common.{◌≡◌, ℕ, List, ◌∷◌, ◌++◌, sym, subst}
use Rattle.ks_keysets.specs.declared.Change.{Change}
use Rattle.ks_keysets.specs.declared.Frame.{Frame}
use Rattle.ks_keysets.specs.declared.NodeState.{NodeState}
use Rattle.ks_keysets.specs.Keyset.{opening, Good}
use Rattle.ks_history.specs.declared.Event.{Event}
use Rattle.ks_history.specs.Trace.{◌⊑◌, held, graph_after, turn_after}
use Rattle.ks_history.specs.Passes.{GrowsByOthers, GrowsWith}
use Rattle.ks_history.specs.Stays.{StaysHeld}
use Rattle.ks_history.specs.Laws.Stays.{AreInTurn}
use Rattle.ks_history.specs.Laws.Begins.{begins_more, by_others_keeps, with_others}
use Rattle.ks_flow.specs.Discipline.{IsDiscipline, SameKeyset}
use Rattle.ks_flow.specs.Tree.{SameEdges}
use Rattle.ks_arena.specs.Sound.{Sort, Sound}
use Rattle.ks_arena.specs.Laws.FromSound.{IsPlain, plain_edges, fine, sound_begins, unshaped}
use Rattle.ks_arena.specs.Clauses.{Kept}
use Rattle.ks_shape.specs.Beside.{KeepsBeside}

module _ (beside : ℕ → (ℕ → NodeState) → (ℕ → NodeState) → Type 0) where
  -- the laws by which it stays in sound traces
  module _ (sort : Sort) (begins : Frame → Type 0) (asks : (ℕ → NodeState) → (ℕ → Frame) → List Change → Type 0) (n : ℕ) where
    pub record StaysBeside : Type 0 where
      pub turns : (h : List Event) → Sound sort begins asks n h → AreInTurn h
      pub older : (k h : List Event) → k ⊑ h → Sound sort begins asks n h → Sound sort begins asks n k
      pub others : (c i : ℕ) (k h : List Event) → GrowsByOthers c k h → turn_after h i ≡ held c → Sound sort begins asks n h → beside i (graph_after k) (graph_after h)
      pub along : (g k : ℕ → NodeState) (i : ℕ) → SameEdges g k → beside i g k
      pub on : (g k l : ℕ → NodeState) (i : ℕ) → beside i g k → beside i k l → beside i g l

    module _ (laws : StaysBeside) (c : ℕ) where
      pub beside_others : (h k : List Event) → GrowsByOthers c h k → Sound sort begins asks n k → KeepsBeside beside c h k
      beside_others h k grows sound i before after = laws.others c i h k grows after sound

      -- one event of its own that is no Shape
      pub beside_with : (e : Event) (h k : List Event) → IsPlain e → GrowsWith c e h k → Sound sort begins asks n k → KeepsBeside beside c h k
      beside_with e h k plain grows sound i before after =
          let later : List Event = grows.rest ++ h in
          let all : Sound sort begins asks n (e ∷ later) = subst (Sound sort begins asks n) grows.is sound in
          let so : Sound sort begins asks n later = laws.older later (e ∷ later) (begins_more e later) all in
          let alone : GrowsByOthers c h later = with_others c e h k grows in
          let kept : StaysHeld c i h later = by_others_keeps c i h later alone (laws.turns later so) before in
          subst (λ (z : List Event). beside i (graph_after h) (graph_after z)) (sym grows.is)
          (laws.on (graph_after h) (graph_after later) (graph_after (e ∷ later)) i
          (laws.others c i h later alone kept.turn so)
          (laws.along (graph_after later) (graph_after (e ∷ later)) i (plain_edges later e plain (laws.turns later so) (laws.turns (e ∷ later) all).1)))

      pub beside_both : (g h k : List Event) → Kept c g h → KeepsBeside beside c g h → KeepsBeside beside c h k → KeepsBeside beside c g k
      beside_both g h k kept a b i before after = laws.on (graph_after g) (graph_after h) (graph_after k) i (a i before (kept i before).turn) (b i (kept i before).turn after)

-- what a discipline keeps at a node stays so, and its keyset stays
module _ (sort : Sort) {begins : Frame → Type 0} {facts : (ℕ → NodeState) → (ℕ → Frame) → Type 0} {asks : (ℕ → NodeState) → (ℕ → Frame) → List Change → Type 0} {lasts : (ℕ → NodeState) → (ℕ → Frame) → (ℕ → NodeState) → (ℕ → Frame) → Type 0} {beside : ℕ → (ℕ → NodeState) → (ℕ → NodeState) → Type 0}
    (laws : IsDiscipline begins facts asks lasts beside) (good_opening : Good opening) (n : ℕ) where
  pub stays_beside : StaysBeside beside sort begins asks n
  stays_beside = record {
    turns = λ h so. (fine sort laws good_opening n h so).turns;
    older = λ k h since so. sound_begins sort laws good_opening n k h since so;
    others = λ c i k h grows mine so. (unshaped sort laws good_opening n c i k h grows mine so).aside;
    along = λ g k i same. laws.beside_along g k i same;
    on = λ g k l i a b. laws.beside_on g k l i a b;
  }

  pub keyset_beside : StaysBeside SameKeyset sort begins asks n
  keyset_beside = record {
    turns = λ h so. (fine sort laws good_opening n h so).turns;
    older = λ k h since so. sound_begins sort laws good_opening n k h since so;
    others = λ c i k h grows mine so. (unshaped sort laws good_opening n c i k h grows mine so).keyset;
    along = λ g k i same. laws.keyset_along g k i same;
    on = λ g k l i a b. record { forth = λ p inside. b.forth p (a.forth p inside); back = λ p inside. a.back p (b.back p inside) };
  }
