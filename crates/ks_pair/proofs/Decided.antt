-- How a move under way is done, and what else its steps leave of it.
use Rattle.std.proofs.Common.{◌≡◌, ◌≢◌, ℕ, ◌≤◌, true, List, [], ◌∷◌, ◌++◌, length, append_assoc, sym, refl, ap, ◌∙◌, subst, inl, inr, arith}
use Rattle.std.specs.Prelude.{Option, Some, None, IsTrue, is_some}
use Rattle.ks_keysets.specs.declared.NodeState.{NodeState}
use Rattle.ks_keysets.specs.Keyset.{live_record, value_in}
use Rattle.ks_keysets.specs.Layout.{Layout}
use Rattle.ks_history.specs.declared.Event.{Event}
use Rattle.ks_history.specs.declared.Event.TheVariants.{Give, Take, Twin}
use Rattle.ks_history.specs.declared.Op.{Op}
use Rattle.ks_history.specs.declared.Op.TheVariants.{Move}
use Rattle.ks_history.specs.declared.Reply.{Reply}
use Rattle.ks_history.specs.declared.Reply.TheVariants.{Full}
use Rattle.ks_history.specs.Own.{hand, drop_one}
use Rattle.ks_history.specs.Trace.{held, graph_after, turn_after}
use Rattle.ks_history.specs.Passes.{Has, GrowsByOthers, GrowsWith}
use Rattle.ks_history.specs.Due.{HasNoRoomFor, NoneFree, FullDue}
use Rattle.ks_history.specs.Done.{Template, give_up, joined, most_held, Hands, at_first, and_on, Done}
use Rattle.ks_history.specs.Stays.{StaysHeld}
use Rattle.ks_history.specs.Underway.{Underway, Decided}
use Rattle.ks_history.specs.Laws.Begins.{begins_append, by_others_hand, by_others_keeps, no_call_both, with_others}
use Rattle.ks_history.specs.Laws.Dues.{full_kept, none_free_later}
use Rattle.ks_history.specs.Laws.Stays.{AreInTurn, cond_here, cond_else}
use Rattle.ks_history.specs.Laws.Underway.{done_of, underway_calls, underway_both, underway_with}
use Rattle.ks_node.specs.Body.{Body}
use Rattle.ks_arena.specs.declared.held.Held.{Held as Hand}
use Rattle.ks_arena.specs.Sound.{Sort}
use Rattle.ks_arena.specs.Clauses.{HasTaken, Numbered}
use Rattle.ks_shape.specs.Stretches.{Stretches}
use Rattle.ks_pair.specs.Both.{HoldsTwo}

-- by each template a move may hold three nodes
pub three_may : (template : Template) (from to : ℕ) → 3 ≤ most_held template (Move from to)
three_may template from to = omega arith

-- what is held

pub one_of : (c i j : ℕ) (h : List Event) → HoldsTwo c h i j → Has (hand c h) i
one_of c i j h (apart, inl is) = subst (λ (z : List ℕ). Has z i) (sym is) (inl refl)
one_of c i j h (apart, inr is) = subst (λ (z : List ℕ). Has z i) (sym is) (inr (inl refl))

pub other_of : (c i j : ℕ) (h : List Event) → HoldsTwo c h i j → Has (hand c h) j
other_of c i j h (apart, inl is) = subst (λ (z : List ℕ). Has z j) (sym is) (inr (inl refl))
other_of c i j h (apart, inr is) = subst (λ (z : List ℕ). Has z j) (sym is) (inl refl)

-- with what is held unchanged
pub holds_on : (c d i j : ℕ) (h k : List Event) → hand d k ≡ hand c h → HoldsTwo c h i j → HoldsTwo d k i j
holds_on c d i j h k same (apart, inl is) = (apart, inl (same ∙ is))
holds_on c d i j h k same (apart, inr is) = (apart, inr (same ∙ is))

-- two are no more than three
pub two_few : (c i j : ℕ) (h : List Event) → HoldsTwo c h i j → length (hand c h) ≤ 3
two_few c i j h (apart, inl is) = omega (arith, ap length is)
two_few c i j h (apart, inr is) = omega (arith, ap length is)

-- without the one the other is left
pub left_of : (c i j : ℕ) (h k : List Event) → HoldsTwo c h i j → hand c k ≡ drop_one i (hand c h) → hand c k ≡ j ∷ []
left_of c i j h k (apart, inl is) hands = hands ∙ ap (drop_one i) is ∙ cond_here i i (j ∷ []) (i ∷ drop_one i (j ∷ [])) refl
left_of c i j h k (apart, inr is) hands = hands ∙ ap (drop_one i) is ∙ cond_else j i (i ∷ []) (j ∷ drop_one i (i ∷ [])) (λ e. apart (sym e)) ∙ ap (λ (z : List ℕ). j ∷ z) (cond_here i i [] (i ∷ []) refl)

-- a call at two nodes, or at one, after which all is released

hands_both : {template : Template} {c : ℕ} {op : Op} {s0 h k : List Event} → Hands template c op s0 h → Hands template c op h k → Hands template c op s0 k
hands_both a (at_first few) = a
hands_both a (and_on before well few) = and_on (hands_both a before) well few

decided_on : (layout : Layout) (template : Template) (n c : ℕ) (op : Op) (s0 h k : List Event) (reply : Reply) (number : ℕ) → Decided layout template n c op s0 h reply number → Underway template c op h k → Decided layout template n c op s0 k reply number
decided_on layout template n c op s0 h k reply number was b = record {
  before = was.before;
  event = was.event;
  after = b.rest ++ was.after;
  is = b.is ∙ ap (λ (z : List Event). b.rest ++ z) was.is ∙ sym (append_assoc b.rest was.after (was.event ∷ (was.before ++ s0)));
  call = was.call;
  none_before = was.none_before;
  none_after = no_call_both c b.rest was.after b.none was.none_after;
  numbered = was.numbered;
  hands = hands_both was.hands b.hands;
  full = was.full;
}

pub twin_done : (layout : Layout) (template : Template) (n c i j number : ℕ) (op : Op) (reply : Reply) (s0 h h₁ h₂ : List Event) → 3 ≤ most_held template op → (called : Numbered c (Twin c i j op reply) h h₁ number) → length (hand c h₁) ≤ 3
    → (reply ≡ Full → FullDue layout n s0 (called.grows.rest ++ h) (Twin c i j op reply)) → Stretches c h₁ h₂ → hand c h₂ ≡ [] → Underway template c op s0 h → Done layout template n c op s0 h₂ reply number
twin_done layout template n c i j number op reply s0 h h₁ h₂ three called few full after empty under =
    done_of layout template n c op s0 h₂ reply number
    (decided_on layout template n c op s0 h₁ h₂ reply number
    (underway_calls layout template n c op reply number (Twin c i j op reply) s0 h h₁ refl called.grows tt (omega (arith, few, three)) called.number full under)
    (after template op three))
    empty

-- a Full that is due before is due at the call, for the second place, for which no node was free since s0
pub twin_due : (layout : Layout) (n c i j from to : ℕ) (r s0 h : List Event) (e : Event) (h₁ : List Event) (grows : GrowsWith c e h h₁) → AreInTurn h₁ → turn_after h i ≡ held c → turn_after h j ≡ held c → FullDue layout n r h (Twin c i j (Move from to) Full) → NoneFree layout n c to s0 h
    → FullDue layout n s0 (grows.rest ++ h) (Twin c i j (Move from to) Full)
twin_due layout n c i j from to r s0 h e h₁ grows are mine mine' due none =
    let before : List Event = grows.rest ++ h in
    let turns : AreInTurn before = (subst AreInTurn grows.is are).0 in
    let here : StaysHeld c i h before = by_others_keeps c i h before (with_others c e h h₁ grows) turns mine in
    let there : StaysHeld c j h before = by_others_keeps c j h before (with_others c e h h₁ grows) turns mine' in
    let was = due.no_room.0 in
    record {
      place = due.place;
      no_room = ((was.0, was.1, full_kept layout (graph_after h) (graph_after before) j to there.state was.2, subst (λ (z : NodeState). IsTrue (is_some (value_in (live_record z) from))) (sym here.state) was.3), refl);
      none_free = none_free_later layout n c due.place s0 h before (begins_append grows.rest h) (subst (λ (p : ℕ). NoneFree layout n c p s0 h) was.0 none);
    }

-- a move that holds one node takes another one
pub takes_other : {N : Type 0} (sort : Sort) (shows : N → Body) (c i j from to : ℕ) (s0 h k : List Event) (x : Hand N) → hand c h ≡ i ∷ [] → HasTaken sort shows c j h k x → Underway give_up c (Move from to) s0 h → Underway give_up c (Move from to) s0 k
takes_other sort shows c i j from to s0 h k x alone took under = underway_with give_up c (Move from to) (Take c j) s0 h k tt took.grows
    (λ same. joined tt i (by_others_hand c h (took.grows.rest ++ h) (with_others c (Take c j) h k took.grows) ∙ alone))
    (omega (arith, ap length (took.hand ∙ ap (λ (z : List ℕ). j ∷ z) alone)))
    under

-- then it holds both
pub took_two : {N : Type 0} (sort : Sort) (shows : N → Body) (c i j : ℕ) (h k : List Event) (x : Hand N) → hand c h ≡ i ∷ [] → j ≢ i → HasTaken sort shows c j h k x → HoldsTwo c k i x.node
took_two sort shows c i j h k x alone other took = ((λ e. other (sym took.node ∙ sym e)), inr (took.hand ∙ ap (λ (z : List ℕ). j ∷ z) alone ∙ ap (λ (z : ℕ). z ∷ i ∷ []) (sym took.node)))
