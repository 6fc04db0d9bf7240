-- Calls under way: what holds between their steps, and how it becomes Done or Left. One law for each kind of step.
use Rattle.std.proofs.Common.{◌≡◌, ◌≢◌, ℕ, ◌≤◌, List, [], ◌∷◌, ◌++◌, length, Some, None, sym, refl, ap, ◌∙◌, subst, append_assoc, arith}
use Rattle.ks_keysets.specs.Keyset.{live_record}
use Rattle.ks_keysets.specs.Layout.{Layout}
use Rattle.ks_history.specs.declared.Op.{Op}
use Rattle.ks_history.specs.declared.Reply.{Reply}
use Rattle.ks_history.specs.declared.Reply.TheVariants.{Full}
use Rattle.ks_history.specs.declared.Event.{Event}
use Rattle.ks_history.specs.declared.Event.TheVariants.{Take, Give, Claim, Shape, Call, Twin}
use Rattle.ks_history.specs.Trace.{caller_of, call_in, number_after}
use Rattle.ks_history.specs.Own.{called, hand}
use Rattle.ks_history.specs.Callers.{NoneBy}
use Rattle.ks_history.specs.Passes.{NoCallBy, GrowsByOthers, GrowsWith}
use Rattle.ks_history.specs.Due.{FullDue}
use Rattle.ks_history.specs.Done.{Template, HoldsAbove, MayTake, first_taken, from_above, joined, TakesWell, most_held, Hands, at_first, and_on, Done, Left}
use Rattle.ks_history.specs.Stays.{StaysHeld}
use Rattle.ks_history.specs.Laws.Stays.{AreInTurn}
use Rattle.ks_history.specs.Laws.Hand.{hand_other}
use Rattle.ks_history.specs.Laws.Begins.{no_call_both, none_no_call, by_others_keeps, by_others_hand}
use Rattle.ks_history.specs.Underway.{Underway, Decided}

-- once its caller holds nothing it is Left, or Done
pub left_of : (template : Template) (c : ℕ) (op : Op) (s0 s1 : List Event) → Underway template c op s0 s1 → hand c s1 ≡ [] → Left template c op s0 s1
left_of template c op s0 s1 so empty = record { rest = so.rest; is = so.is; none = so.none; gave_all = empty; hands = so.hands }

abbrev pub done_of : (layout : Layout) (template : Template) (n c : ℕ) (op : Op) (s0 s1 : List Event) (reply : Reply) (number : ℕ) → Decided layout template n c op s0 s1 reply number → hand c s1 ≡ [] → Done layout template n c op s0 s1 reply number
done_of layout template n c op s0 s1 reply number so empty = record {
  before = so.before;
  event = so.event;
  after = so.after;
  is = so.is;
  call = so.call;
  none_before = so.none_before;
  none_after = so.none_after;
  numbered = so.numbered;
  gave_all = empty;
  hands = so.hands;
  full = so.full;
}

-- the hands of c as the trace goes on
takes_other : (template : Template) (c : ℕ) (op : Op) (h : List Event) (e : Event) → caller_of e ≢ c → TakesWell template c op h e
takes_other template c op h (Take d i) other = λ same. absurd (other same)
takes_other template c op h (Give d i) other = tt
takes_other template c op h (Claim d i) other = tt
takes_other template c op h (Shape d changes) other = tt
takes_other template c op h (Call d i op' reply) other = tt
takes_other template c op h (Twin d i i' op' reply) other = tt

hands_few : {template : Template} {c : ℕ} {op : Op} {s0 h : List Event} → Hands template c op s0 h → length (hand c h) ≤ most_held template op
hands_few (at_first few) = few
hands_few (and_on before well few) = few

hands_after : (template : Template) (c : ℕ) (op : Op) (s0 h rest : List Event) → NoneBy c rest → Hands template c op s0 h → Hands template c op s0 (rest ++ h)
hands_after template c op s0 h [] none so = so
hands_after template c op s0 h (e ∷ es) none so =
    let before : Hands template c op s0 (es ++ h) = hands_after template c op s0 h es none.1 so in
    and_on before (takes_other template c op (es ++ h) e none.0) (subst (λ (xs : List ℕ). length xs ≤ most_held template op) (sym (hand_other (es ++ h) e c none.0)) (hands_few before))

pub hands_others : (template : Template) (c : ℕ) (op : Op) (s0 g h : List Event) → GrowsByOthers c g h → Hands template c op s0 g → Hands template c op s0 h
hands_others template c op s0 g h so hands = subst (Hands template c op s0) (sym so.is) (hands_after template c op s0 g so.rest so.others hands)

pub hands_with : (template : Template) (c : ℕ) (op : Op) (e : Event) (s0 g h : List Event) → (so : GrowsWith c e g h) → TakesWell template c op (so.rest ++ g) e → length (hand c h) ≤ most_held template op → Hands template c op s0 g → Hands template c op s0 h
hands_with template c op e s0 g h so well few hands =
    subst (Hands template c op s0) (sym so.is) (and_on (hands_after template c op s0 g so.rest so.others hands) well (subst (λ (z : List Event). length (hand c z) ≤ most_held template op) so.is few))

-- what may be taken may be taken later, if only others act meanwhile
above_later : (c i : ℕ) (g h : List Event) → GrowsByOthers c g h → AreInTurn h → HoldsAbove g c i → HoldsAbove h c i
above_later c i g h so are above =
    let stays : StaysHeld c above.above g h = by_others_keeps c above.above g h so are above.holds in
    record { above = above.above; node = above.node; holds = stays.turn; is = ap live_record stays.state ∙ above.is; leads = above.leads }

pub may_take_later : (template : Template) (c i : ℕ) (op : Op) (g h : List Event) → GrowsByOthers c g h → AreInTurn h → MayTake template op g c i → MayTake template op h c i
may_take_later template c i op g h so are (first_taken empty at) = first_taken (by_others_hand c g h so ∙ empty) at
may_take_later template c i op g h so are (from_above above) = from_above (above_later c i g h so are above)
may_take_later template c i op g h so are (joined may one is) = joined may one (by_others_hand c g h so ∙ is)

-- steps of a call under way
abbrev pub IsNoCall : Event → Type 0
IsNoCall e = elim (call_in e) [ None ↦ Unit {0} | Some call ↦ ⊥ ]

pub none_with : (c : ℕ) (e : Event) (es : List Event) → IsNoCall e → NoCallBy c es → NoCallBy c (e ∷ es)
none_with c (Take d i) es quiet none = none
none_with c (Give d i) es quiet none = none
none_with c (Claim d i) es quiet none = none
none_with c (Shape d changes) es quiet none = none
none_with c (Call d i op reply) es quiet none = absurd quiet
none_with c (Twin d i i' op reply) es quiet none = absurd quiet

pub underway_first : (template : Template) (c : ℕ) (op : Op) (s : List Event) → hand c s ≡ [] → Underway template c op s s
underway_first template c op s empty = record { rest = []; is = refl; none = tt; hands = at_first (omega (arith, ap length empty)) }

pub underway_others : (template : Template) (c : ℕ) (op : Op) (s0 g h : List Event) → GrowsByOthers c g h → Underway template c op s0 g → Underway template c op s0 h
underway_others template c op s0 g h so under = record {
  rest = so.rest ++ under.rest;
  is = so.is ∙ ap (λ (z : List Event). so.rest ++ z) under.is ∙ sym (append_assoc so.rest under.rest s0);
  none = no_call_both c so.rest under.rest (none_no_call c so.rest so.others) under.none;
  hands = hands_others template c op s0 g h so under.hands;
}

-- an event of c that is no Call
pub underway_with : (template : Template) (c : ℕ) (op : Op) (e : Event) (s0 g h : List Event) → IsNoCall e → (so : GrowsWith c e g h) → TakesWell template c op (so.rest ++ g) e → length (hand c h) ≤ most_held template op → Underway template c op s0 g → Underway template c op s0 h
underway_with template c op e s0 g h quiet so well few under = record {
  rest = e ∷ (so.rest ++ under.rest);
  is = so.is ∙ ap (λ (z : List Event). e ∷ z) (ap (λ (z : List Event). so.rest ++ z) under.is ∙ sym (append_assoc so.rest under.rest s0));
  none = none_with c e (so.rest ++ under.rest) quiet (no_call_both c so.rest under.rest (none_no_call c so.rest so.others) under.none);
  hands = hands_with template c op e s0 g h so well few under.hands;
}

-- its event that is a call
abbrev pub underway_calls : (layout : Layout) (template : Template) (n c : ℕ) (op : Op) (reply : Reply) (number : ℕ) (e : Event) (s0 g h : List Event) → call_in e ≡ Some (called c op reply) → (so : GrowsWith c e g h) → TakesWell template c op (so.rest ++ g) e
    → length (hand c h) ≤ most_held template op → number ≡ number_after (so.rest ++ g) → (reply ≡ Full → FullDue layout n s0 (so.rest ++ g) e) → Underway template c op s0 g → Decided layout template n c op s0 h reply number
underway_calls layout template n c op reply number e s0 g h call so well few numbered full under =
    let joined : so.rest ++ g ≡ (so.rest ++ under.rest) ++ s0 = ap (λ (z : List Event). so.rest ++ z) under.is ∙ sym (append_assoc so.rest under.rest s0) in
    record {
      before = so.rest ++ under.rest;
      event = e;
      after = [];
      is = so.is ∙ ap (λ (z : List Event). e ∷ z) joined;
      call = call;
      none_before = no_call_both c so.rest under.rest (none_no_call c so.rest so.others) under.none;
      none_after = tt;
      numbered = numbered ∙ ap number_after joined;
      hands = hands_with template c op e s0 g h so well few under.hands;
      full = λ is. subst (λ (z : List Event). FullDue layout n s0 z e) joined (full is);
    }

-- its Call
abbrev pub underway_call : (layout : Layout) (template : Template) (n c i : ℕ) (op : Op) (reply : Reply) (number : ℕ) (s0 g h : List Event) → (so : GrowsWith c (Call c i op reply) g h) → length (hand c h) ≤ most_held template op → number ≡ number_after (so.rest ++ g)
    → (reply ≡ Full → FullDue layout n s0 (so.rest ++ g) (Call c i op reply)) → Underway template c op s0 g → Decided layout template n c op s0 h reply number
underway_call layout template n c i op reply number s0 g h so few numbered full under = underway_calls layout template n c op reply number (Call c i op reply) s0 g h refl so tt few numbered full under

abbrev pub decided_with : (layout : Layout) (template : Template) (n c : ℕ) (op : Op) (reply : Reply) (number : ℕ) (e : Event) (s0 g h : List Event) → IsNoCall e → (so : GrowsWith c e g h) → TakesWell template c op (so.rest ++ g) e → length (hand c h) ≤ most_held template op → Decided layout template n c op s0 g reply number → Decided layout template n c op s0 h reply number
decided_with layout template n c op reply number e s0 g h quiet so well few was = record {
  before = was.before;
  event = was.event;
  after = e ∷ (so.rest ++ was.after);
  is = so.is ∙ ap (λ (z : List Event). e ∷ z) (ap (λ (z : List Event). so.rest ++ z) was.is ∙ sym (append_assoc so.rest was.after (was.event ∷ (was.before ++ s0))));
  call = was.call;
  none_before = was.none_before;
  none_after = none_with c e (so.rest ++ was.after) quiet (no_call_both c so.rest was.after (none_no_call c so.rest so.others) was.none_after);
  numbered = was.numbered;
  hands = hands_with template c op e s0 g h so well few was.hands;
  full = was.full;
}

-- a stretch of a call from one moment to a later one is a call under way from there; two stretches are one
pub underway_here : (template : Template) (c : ℕ) (op : Op) (h : List Event) → length (hand c h) ≤ most_held template op → Underway template c op h h
underway_here template c op h few = record { rest = []; is = refl; none = tt; hands = at_first few }

hands_both : {template : Template} {c : ℕ} {op : Op} {s0 h k : List Event} → Hands template c op s0 h → Hands template c op h k → Hands template c op s0 k
hands_both a (at_first few) = a
hands_both a (and_on before well few) = and_on (hands_both a before) well few

pub underway_both : (template : Template) (c : ℕ) (op : Op) (s0 h k : List Event) → Underway template c op s0 h → Underway template c op h k → Underway template c op s0 k
underway_both template c op s0 h k a b = record {
  rest = b.rest ++ a.rest;
  is = b.is ∙ ap (λ (z : List Event). b.rest ++ z) a.is ∙ sym (append_assoc b.rest a.rest s0);
  none = no_call_both c b.rest a.rest b.none a.none;
  hands = hands_both a.hands b.hands;
}

-- a call that is done remains done after further steps
pub done_on : (layout : Layout) (template : Template) (n c : ℕ) (op : Op) (s0 h k : List Event) (reply : Reply) (number : ℕ) → Done layout template n c op s0 h reply number → Underway template c op h k → hand c k ≡ [] → Done layout template n c op s0 k reply number
done_on layout template n c op s0 h k reply number was b empty = record {
  before = was.before;
  event = was.event;
  after = b.rest ++ was.after;
  is = b.is ∙ ap (λ (z : List Event). b.rest ++ z) was.is ∙ sym (append_assoc b.rest was.after (was.event ∷ (was.before ++ s0)));
  call = was.call;
  none_before = was.none_before;
  none_after = no_call_both c b.rest was.after b.none was.none_after;
  numbered = was.numbered;
  gave_all = empty;
  hands = hands_both was.hands b.hands;
  full = was.full;
}
