-- What claims leave of what a caller holds, and when they were refused.
use Rattle.std.proofs.Common.{◌≡◌, ◌≢◌, ℕ, ◌≤◌, ◌<◌, List, ◌∷◌, ◌++◌, length, sym, refl, ap, ◌∙◌, subst, inl, inr, ⊎_elim, arith}
use Rattle.ks_keysets.specs.declared.Change.{Change}
use Rattle.ks_keysets.specs.declared.Frame.{Frame}
use Rattle.ks_keysets.specs.declared.NodeState.{NodeState}
use Rattle.ks_keysets.specs.Keyset.{live_record, IsLive, InKeyset}
use Rattle.ks_keysets.specs.Layout.{Layout}
use Rattle.ks_history.specs.declared.Event.{Event}
use Rattle.ks_history.specs.declared.Event.TheVariants.{Claim, Give}
use Rattle.ks_history.specs.Trace.{◌⊑◌, held, graph_after, turn_after}
use Rattle.ks_history.specs.Own.{hand, drop_one}
use Rattle.ks_history.specs.Passes.{Has, GrowsByOthers, GrowsWith}
use Rattle.ks_history.specs.Stays.{StaysHeld}
use Rattle.ks_history.specs.Laws.Stays.{cond_here}
use Rattle.ks_history.specs.Laws.Hand.{is_hand, held_in_hand}
use Rattle.ks_history.specs.Laws.Begins.{begins_more, begins_self, by_others_keeps, by_others_turn, claim_hand, with_others}
use Rattle.ks_history.specs.Done.{Template}
use Rattle.ks_history.specs.Due.{HoldsLive, MayGrow, NoneFree}
use Rattle.ks_history.specs.Laws.Dues.{none_free_by, none_free_but, none_free_later, none_free_earlier, may_grow_along, between_by_others}
use Rattle.ks_history.specs.Stretch.{Stretch}
use Rattle.ks_history.specs.Laws.Stretch.{stretch_both, stretch_claim, stretch_give, stretch_others, stretch_begins}
use Rattle.ks_flow.specs.Discipline.{SameKeyset}
use Rattle.ks_node.specs.Body.{Body}
use Rattle.ks_arena.specs.declared.held.Held.{Held as Hand}
use Rattle.ks_arena.specs.Sound.{Sort, Sound}
use Rattle.ks_arena.specs.Clauses.{HasLooked, HasClaimed, WasTaken, Kept, KeptBut}
use Rattle.ks_shape.specs.Beside.{KeepsBeside}
use Rattle.ks_shape.specs.Laws.Beside.{StaysBeside, beside_others, beside_with}
use Rattle.ks_shape.specs.Claims.{HoldsForClaim, GotOne}
use Rattle.ks_shape.specs.Does.{HoldsToSplit}
use Rattle.ks_shape.specs.Laws.Does.{splits_kept}

-- after a node was claimed
module _ {N : Type 0} (sort : Sort) (shows : N → Body) (c : ℕ) (h k : List Event) (x : Hand N) (got : HasClaimed sort shows c h k x) where
  pub claimed_stretch : (template : Template) → length (hand c h) ≤ 2 → Stretch template c h k
  claimed_stretch template few =
      let after : length (hand c got.moment) ≤ 3 = omega (arith, few, ap length (claim_hand c x.node h got.moment got.grows)) in
      stretch_both template c h got.moment k (stretch_claim template c h got.moment x.node (omega (arith, few)) after got.grows) (stretch_others template c got.moment k after got.since)

  module _ (begins : Frame → Type 0) (asks : (ℕ → NodeState) → (ℕ → Frame) → List Change → Type 0) (n : ℕ) (beside : ℕ → (ℕ → NodeState) → (ℕ → NodeState) → Type 0) (laws : StaysBeside beside sort begins asks n) (sound : Sound sort begins asks n k) where
    pub claimed_beside : KeepsBeside beside c h k
    claimed_beside i before after =
        let mid : turn_after got.moment i ≡ held c = by_others_turn c i got.moment k got.since after in
        let so : Sound sort begins asks n got.moment = laws.older got.moment k (record { rest = got.since.rest; is = got.since.is }) sound in
        laws.on (graph_after h) (graph_after got.moment) (graph_after k) i
        (beside_with beside sort begins asks n laws c (Claim c x.node) h got.moment tt got.grows so i before mid)
        (beside_others beside sort begins asks n laws c got.moment k got.since sound i mid after)

-- what is to be split is so just before an event of the caller
module _ (sort : Sort) (begins : Frame → Type 0) (asks : (ℕ → NodeState) → (ℕ → Frame) → List Change → Type 0) (n c : ℕ) (laws : StaysBeside SameKeyset sort begins asks n) where
  pub splits_before : (e : Event) (place : ℕ) (h k : List Event) (so : GrowsWith c e h k) → Sound sort begins asks n k → HoldsToSplit sort place h c → HoldsToSplit sort place (so.rest ++ h) c
  splits_before e place h k so sound x =
      let later : List Event = so.rest ++ h in
      let all : Sound sort begins asks n (e ∷ later) = subst (Sound sort begins asks n) so.is sound in
      let turns = laws.turns later (laws.older later (e ∷ later) (begins_more e later) all) in
      splits_kept sort place c h later x (by_others_keeps c x.node h later (with_others c e h k so) turns x.holds)

-- after no node was found free
module _ (sort : Sort) (begins : Frame → Type 0) (asks : (ℕ → NodeState) → (ℕ → Frame) → List Change → Type 0) (n c nodes : ℕ) (laws : StaysBeside SameKeyset sort begins asks n) (h k : List Event) (looked : HasLooked c h k) (taken : (j : ℕ) → j < nodes → WasTaken h k j) (sound : Sound sort begins asks n k) where
  -- a node that is held keeps its keyset meanwhile
  keyset_meanwhile : (i place : ℕ) → turn_after h i ≡ held c → (m : List Event) → h ⊑ m → m ⊑ k → InKeyset (graph_after h) i place → InKeyset (graph_after m) i place
  keyset_meanwhile i place holds m since until inside =
      let grows : GrowsByOthers c h m = between_by_others c h m k since until (record { rest = looked.grows.rest; is = looked.grows.is }) looked.grows.others in
      let so : Sound sort begins asks n m = laws.older m k until sound in
      let stays : StaysHeld c i h m = by_others_keeps c i h m grows (laws.turns m so) holds in
      (laws.others c i h m grows stays.turn so).forth place inside

  pub refused : (place : ℕ) → HoldsForClaim sort.layout place h c → NoneFree sort.layout nodes c place h k
  refused place (inl live) = none_free_by sort.layout nodes c place h h k k (begins_self h) looked.grows (begins_self k) (laws.turns k sound) live taken
  refused place (inr (but, mine)) = none_free_but sort.layout nodes c place h h k k (begins_self h) looked.grows (begins_self k) (laws.turns k sound) but mine (keyset_meanwhile but.node place but.holds) taken

pub stays_both : (c i : ℕ) (h k l : List Event) → StaysHeld c i h k → StaysHeld c i k l → StaysHeld c i h l
stays_both c i h k l a b = record { turn = b.turn; state = b.state ∙ a.state; frame = λ blank. b.frame blank ∙ a.frame blank }

-- after one node was claimed, another was not, and the first is released
module _ {N : Type 0} (sort : Sort) (shows : N → Body) (c : ℕ) (h h₁ : List Event) (y : Hand N) (got : GotOne sort shows c h h₁ y) where
  in_hand : (j : ℕ) → Has (hand c h) j → Has (hand c h₁) j
  in_hand j has = subst (λ (z : List ℕ). Has z j) (sym got.hands) (inr has)

  apart : (j : ℕ) → Has (hand c h) j → j ≢ y.node
  apart j has same = got.fresh (subst (Has (hand c h)) same has)

  -- what is held beside the claimed node was held before
  before : (j : ℕ) → j ≢ y.node → turn_after h₁ j ≡ held c → Has (hand c h) j
  before j ne mine = ⊎_elim (λ (e : y.node ≡ j). absurd (ne (sym e))) (λ (has : Has (hand c h) j). has) (subst (λ (z : List ℕ). Has z j) got.hands (held_in_hand h₁ c j mine))

  module _ (begins : Frame → Type 0) (asks : (ℕ → NodeState) → (ℕ → Frame) → List Change → Type 0) (n : ℕ) (laws : StaysBeside SameKeyset sort begins asks n) (sound : Sound sort begins asks n h) (sound' : Sound sort begins asks n h₁) (kept : Kept c h h₁) (keysets : KeepsBeside SameKeyset c h h₁) where
    pub still_for_claim : (node place : ℕ) → HoldsLive h c → turn_after h node ≡ held c → MayGrow sort.layout (graph_after h) node place → HoldsForClaim sort.layout place h₁ c
    still_for_claim node place live holds grows =
        let at_node : StaysHeld c node h h₁ = kept node holds in
        inr (
          record {
            one = y.node;
            claimed = got.claimed;
            node = node;
            holds = at_node.turn;
            grows = may_grow_along sort.layout (graph_after h) (graph_after h₁) node place (ap live_record at_node.state) ((keysets node holds at_node.turn).forth place) grows;
            others = others;
          },
          (is_hand h₁ c (laws.turns h₁ sound')).held y.node got.free.has,
        )
      where
        others : (j : ℕ) → j ≢ y.node → turn_after h₁ j ≡ held c → IsLive (graph_after h₁) j
        others j ne mine =
            let mine' : turn_after h j ≡ held c = (is_hand h c (laws.turns h sound)).held j (before j ne mine) in
            let l : IsLive (graph_after h) j = live j mine' in
            (l.0, ap live_record (kept j mine').state ∙ l.1)

  module _ (h₂ h₃ : List Event) (same : hand c h₂ ≡ hand c h₁) (gave : GrowsWith c (Give c y.node) h₂ h₃) (hands : hand c h₃ ≡ drop_one y.node (hand c h₂)) where
    pub back_hand : hand c h₃ ≡ hand c h
    back_hand = hands ∙ ap (drop_one y.node) (same ∙ got.hands) ∙ cond_here y.node y.node (hand c h) (y.node ∷ drop_one y.node (hand c h)) refl

    back_give : (template : Template) → length (hand c h) ≤ 1 → Stretch template c h₂ h₃
    back_give template few = stretch_give template c h₂ h₃ y.node (omega (arith, few, ap length (same ∙ got.hands))) gave

    pub back_stretch : (template : Template) → length (hand c h) ≤ 1 → Stretch template c h h₁ → Stretch template c h₁ h₂ → Stretch template c h h₃
    back_stretch template few a b = stretch_both template c h h₁ h₃ a (stretch_both template c h₁ h₂ h₃ b (back_give template few))

    pub back_refused : (template : Template) (layout : Layout) (nodes place : ℕ) → length (hand c h) ≤ 1 → Stretch template c h h₁ → NoneFree layout nodes c place h₁ h₂ → NoneFree layout nodes c place h h₃
    back_refused template layout nodes place few a none = none_free_earlier layout nodes c place h h₁ h₃ (stretch_begins template c h h₁ a) (none_free_later layout nodes c place h₁ h₂ h₃ (stretch_begins template c h₂ h₃ (back_give template few)) none)

    pub back_kept : Kept c h h₁ → Kept c h₁ h₂ → KeptBut y.node c h₂ h₃ → Kept c h h₃
    back_kept a b d j mine =
        let one = a j mine in
        let two = b j one.turn in
        stays_both c j h h₁ h₃ one (stays_both c j h₁ h₂ h₃ two (d j (apart j (held_in_hand h c j mine)) two.turn))
