-- Laws of traces: what is due stays due for an earlier beginning, how a Full becomes due, and where the last call is.
use Rattle.std.proofs.Common.{◌≡◌, ◌≢◌, ℕ, ◌<◌, inl, inr, List, [], ◌∷◌, ◌++◌, sym, refl, ap, ◌∙◌, subst, append_assoc}
use Rattle.std.proofs.lemmas.List.{append_cancel_right}
use mathlib.Core.Logic.{dite}
use native.Mathlib.Decide.{ℕ_discrete}
use Rattle.ks_keysets.specs.declared.NodeState.{NodeState}
use Rattle.ks_keysets.specs.Keyset.{live_record, record_at, IsLive, InKeyset}
use Rattle.ks_keysets.specs.Layout.{Layout, list_layout, bplus_layout, hash_layout, bst_layout, wide_layout}
use Rattle.ks_history.specs.declared.Op.{Op}
use Rattle.ks_history.specs.declared.Op.TheVariants.{Get, Put, Del, Add, Swap, Part, Move}
use Rattle.ks_history.specs.declared.Reply.TheVariants.{Full}
use Rattle.ks_history.specs.declared.Event.{Event}
use Rattle.ks_history.specs.declared.Event.TheVariants.{Take, Give, Claim, Shape, Call, Twin}
use Rattle.ks_history.specs.Map.{Touches}
use Rattle.ks_history.specs.Trace.{◌⊑◌, free, held, caller_of, graph_after, turn_after}
use Rattle.ks_history.specs.Own.{hand}
use Rattle.ks_history.specs.Callers.{NoneBy}
use Rattle.ks_history.specs.Passes.{NoCallBy, GrowsByOthers, Has}
use Rattle.ks_history.specs.Laws.Hand.{held_in_hand}
use Rattle.ks_history.specs.Due.{IsFullFor, HasNoRoom, FindsNoRoom, MayGrow, HoldsLive, HoldsLiveBut, NoneFree, FullDue, last_call}
use Rattle.ks_history.specs.Refusals.{Sometime}
use Rattle.ks_history.specs.Stays.{StaysHeld}
use Rattle.ks_history.specs.Laws.Stays.{AreInTurn, cond_here, cond_else}
use Rattle.ks_history.specs.Laws.Begins.{none_by_older, begins_self, begins_more, begins_both, by_others_keeps, by_others_turn, in_turn_begins}

-- that no node was free remains so as the trace grows, and for an earlier beginning

pub none_free_later : (layout : Layout) (n c place : ℕ) (s h k : List Event) → h ⊑ k → NoneFree layout n c place s h → NoneFree layout n c place s k
none_free_later layout n c place s h k begins none = record {
  from = none.from;
  to = none.to;
  since = none.since;
  ordered = none.ordered;
  before = begins_both none.to h k none.before begins;
  waits = none.waits;
  holds = none.holds;
  taken = none.taken;
}

pub none_free_earlier : (layout : Layout) (n c place : ℕ) (r s h : List Event) → r ⊑ s → NoneFree layout n c place s h → NoneFree layout n c place r h
none_free_earlier layout n c place r s h begins none = record {
  from = none.from;
  to = none.to;
  since = begins_both r s none.from begins none.since;
  ordered = none.ordered;
  before = none.before;
  waits = none.waits;
  holds = none.holds;
  taken = none.taken;
}

pub full_due_earlier : (layout : Layout) (n : ℕ) (r s h : List Event) (e : Event) → r ⊑ s → FullDue layout n s h e → FullDue layout n r h e
full_due_earlier layout n r s h e begins due = record {
  place = due.place;
  no_room = due.no_room;
  none_free = none_free_earlier layout n (caller_of e) due.place r s h begins due.none_free;
}

pub sometime_wider : (r s t u : List Event) (P : List Event → Type 0) → r ⊑ s → t ⊑ u → Sometime s t P → Sometime r u P
sometime_wider r s t u P left right so = record { moment = so.moment; since = begins_both r s so.moment left so.since; until = begins_both so.moment t u so.until right; so = so.so }

-- what c holds is live as long as only others act

pub live_while_waiting : (c : ℕ) (g h : List Event) → GrowsByOthers c g h → AreInTurn h → HoldsLive g c → HoldsLive h c
live_while_waiting c g h so are live j mine =
    let before : turn_after g j ≡ held c = by_others_turn c j g h so mine in
    let stays : StaysHeld c j g h = by_others_keeps c j g h so are before in
    let l : IsLive (graph_after g) j = live j before in
    (l.0, ap live_record stays.state ∙ l.1)

-- a node that may grow still may if its record and its keyset at the place remain
pub may_grow_along : (layout : Layout) (g k : ℕ → NodeState) (node place : ℕ) → record_at k node ≡ record_at g node → (InKeyset g node place → InKeyset k node place) → MayGrow layout g node place → MayGrow layout k node place
may_grow_along list_layout g k node place same keyset grows = grows
may_grow_along bplus_layout g k node place same keyset grows = (grows.0, grows.1, same ∙ grows.2, grows.3)
may_grow_along hash_layout g k node place same keyset grows = (grows.0, grows.1, same ∙ grows.2, grows.3)
may_grow_along bst_layout g k node place same keyset grows = (keyset grows.0, grows.1, same ∙ grows.2, grows.3)
may_grow_along (wide_layout pairs children) g k node place same keyset grows = (grows.0, grows.1, same ∙ grows.2, grows.3)

pub live_but_while_waiting : (layout : Layout) (place c : ℕ) (g h : List Event) → GrowsByOthers c g h → AreInTurn h → (b : HoldsLiveBut layout place g c) → turn_after g b.one ≡ held c
    → (InKeyset (graph_after g) b.node place → InKeyset (graph_after h) b.node place) → HoldsLiveBut layout place h c
live_but_while_waiting layout place c g h so are b one keyset =
    let at_node : StaysHeld c b.node g h = by_others_keeps c b.node g h so are b.holds in
    let at_one : StaysHeld c b.one g h = by_others_keeps c b.one g h so are one in
    record {
      one = b.one;
      claimed = at_one.state ∙ b.claimed;
      node = b.node;
      holds = at_node.turn;
      grows = may_grow_along layout (graph_after g) (graph_after h) b.node place (ap live_record at_node.state) keyset b.grows;
      others = λ j ne mine.
          let before : turn_after g j ≡ held c = by_others_turn c j g h so mine in
          let stays : StaysHeld c j g h = by_others_keeps c j g h so are before in
          let l : IsLive (graph_after g) j = b.others j ne before in
          (l.0, ap live_record stays.state ∙ l.1);
    }

-- a beginning between two traces, if only others act from the one to the other
pub between_by_others : (c : ℕ) (g k h : List Event) → g ⊑ k → (b : k ⊑ h) → (a : g ⊑ h) → NoneBy c a.rest → GrowsByOthers c g k
between_by_others c g k h gk kh gh none =
    let both : k ≡ gk.rest ++ g = gk.is in
    let whole : h ≡ kh.rest ++ (gk.rest ++ g) = kh.is ∙ ap (λ (z : List Event). kh.rest ++ z) both in
    let same : (kh.rest ++ gk.rest) ++ g ≡ gh.rest ++ g = append_assoc kh.rest gk.rest g ∙ sym whole ∙ gh.is in
    let rests : gh.rest ≡ kh.rest ++ gk.rest = sym (append_cancel_right (kh.rest ++ gk.rest) gh.rest g same) in
    record { rest = gk.rest; is = both; others = none_by_older c kh.rest gk.rest (subst (NoneBy c) rests none) }

-- no node was free if only others act from one moment to another, at the first of which all that the caller holds is live,
-- and every node is at some moment between not free
pub none_free_by : (layout : Layout) (n c place : ℕ) (s from to h : List Event) → s ⊑ from → GrowsByOthers c from to → to ⊑ h → AreInTurn h
    → HoldsLive from c → ((j : ℕ) → j < n → Sometime from to (λ k. turn_after k j ≢ free)) → NoneFree layout n c place s h
none_free_by layout n c place s from to h since so before are live taken =
    let ordered : from ⊑ to = record { rest = so.rest; is = so.is } in
    record {
      from = from;
      to = to;
      since = since;
      ordered = ordered;
      before = before;
      waits = so.others;
      holds = λ k a b. inl (live_while_waiting c from k (between_by_others c from k to a b ordered so.others) (in_turn_begins k h (begins_both k to h b before) are) live);
      taken = λ j lt. let t = taken j lt in (t.moment, t.since, t.until, t.so);
    }

-- the same if it holds a node that it has claimed, and one that may grow, whose keyset at the place stays meanwhile
pub none_free_but : (layout : Layout) (n c place : ℕ) (s from to h : List Event) → s ⊑ from → GrowsByOthers c from to → to ⊑ h → AreInTurn h
    → (b : HoldsLiveBut layout place from c) → turn_after from b.one ≡ held c → ((k : List Event) → from ⊑ k → k ⊑ to → InKeyset (graph_after from) b.node place → InKeyset (graph_after k) b.node place)
    → ((j : ℕ) → j < n → Sometime from to (λ k. turn_after k j ≢ free)) → NoneFree layout n c place s h
none_free_but layout n c place s from to h since so before are live one keyset taken =
    let ordered : from ⊑ to = record { rest = so.rest; is = so.is } in
    record {
      from = from;
      to = to;
      since = since;
      ordered = ordered;
      before = before;
      waits = so.others;
      holds = λ k a b. inr (live_but_while_waiting layout place c from k (between_by_others c from k to a b ordered so.others) (in_turn_begins k h (begins_both k to h b before) are) live one (keyset k a b));
      taken = λ j lt. let t = taken j lt in (t.moment, t.since, t.until, t.so);
    }

-- the last call of a caller is the same after more events without a call of it

pub last_call_kept : (c : ℕ) (rest s : List Event) → NoCallBy c rest → last_call c (rest ++ s) ≡ last_call c s
last_call_kept c [] s none = refl
last_call_kept c (Take d i ∷ es) s none = last_call_kept c es s none
last_call_kept c (Give d i ∷ es) s none = last_call_kept c es s none
last_call_kept c (Claim d i ∷ es) s none = last_call_kept c es s none
last_call_kept c (Shape d changes ∷ es) s none = last_call_kept c es s none
last_call_kept c (Call d i op reply ∷ es) s none = cond_else d c (Call d i op reply ∷ (es ++ s)) (last_call c (es ++ s)) none.0 ∙ last_call_kept c es s none.1
last_call_kept c (Twin d i i' op reply ∷ es) s none = cond_else d c (Twin d i i' op reply ∷ (es ++ s)) (last_call c (es ++ s)) none.0 ∙ last_call_kept c es s none.1

-- it is a beginning of the trace
pub last_call_begins : (c : ℕ) (h : List Event) → last_call c h ⊑ h
last_call_begins c [] = begins_self []
last_call_begins c (Take d i ∷ h) = begins_both (last_call c h) h (Take d i ∷ h) (last_call_begins c h) (begins_more (Take d i) h)
last_call_begins c (Give d i ∷ h) = begins_both (last_call c h) h (Give d i ∷ h) (last_call_begins c h) (begins_more (Give d i) h)
last_call_begins c (Claim d i ∷ h) = begins_both (last_call c h) h (Claim d i ∷ h) (last_call_begins c h) (begins_more (Claim d i) h)
last_call_begins c (Shape d changes ∷ h) = begins_both (last_call c h) h (Shape d changes ∷ h) (last_call_begins c h) (begins_more (Shape d changes) h)
last_call_begins c (Call d i op reply ∷ h) = dite (ℕ_discrete d c)
    (λ own. subst (λ (z : List Event). z ⊑ Call d i op reply ∷ h) (sym (cond_here d c (Call d i op reply ∷ h) (last_call c h) own)) (begins_self (Call d i op reply ∷ h)))
    (λ other. subst (λ (z : List Event). z ⊑ Call d i op reply ∷ h) (sym (cond_else d c (Call d i op reply ∷ h) (last_call c h) other)) (begins_both (last_call c h) h (Call d i op reply ∷ h) (last_call_begins c h) (begins_more (Call d i op reply) h)))
last_call_begins c (Twin d i i' op reply ∷ h) = dite (ℕ_discrete d c)
    (λ own. subst (λ (z : List Event). z ⊑ Twin d i i' op reply ∷ h) (sym (cond_here d c (Twin d i i' op reply ∷ h) (last_call c h) own)) (begins_self (Twin d i i' op reply ∷ h)))
    (λ other. subst (λ (z : List Event). z ⊑ Twin d i i' op reply ∷ h) (sym (cond_else d c (Twin d i i' op reply ∷ h) (last_call c h) other)) (begins_both (last_call c h) h (Twin d i i' op reply ∷ h) (last_call_begins c h) (begins_more (Twin d i i' op reply) h)))

-- and of the trace before those events
pub last_call_before : (c : ℕ) (rest s : List Event) → NoCallBy c rest → last_call c (rest ++ s) ⊑ s
last_call_before c rest s none = subst (λ (z : List Event). z ⊑ s) (sym (last_call_kept c rest s none)) (last_call_begins c s)

-- if no node was free since s, and c made no call since s, a Full that finds no room is due
pub is_due_by : (layout : Layout) (n place : ℕ) (s h : List Event) (e : Event) → FindsNoRoom layout (graph_after h) e place → NoneFree layout n (caller_of e) place s h → (begins : s ⊑ h) → NoCallBy (caller_of e) begins.rest
    → FullDue layout n (last_call (caller_of e) h) h e
is_due_by layout n place s h e no_room none begins quiet = record {
  place = place;
  no_room = no_room;
  none_free = none_free_earlier layout n (caller_of e) place (last_call (caller_of e) h) s h
      (subst (λ (z : List Event). last_call (caller_of e) z ⊑ s) (sym begins.is) (last_call_before (caller_of e) begins.rest s quiet)) none;
}

-- a node that stays as it is has no room later either

pub full_kept : (layout : Layout) (g k : ℕ → NodeState) (i p : ℕ) → k i ≡ g i → IsFullFor layout g i p → IsFullFor layout k i p
full_kept layout g k i p same full = record { node = full.node; is = ap live_record same ∙ full.is; filled = full.filled; absent = full.absent }

pub no_room_kept : (layout : Layout) (g k : ℕ → NodeState) (i place : ℕ) (op : Op) → k i ≡ g i → HasNoRoom layout g i op place → HasNoRoom layout k i op place
no_room_kept layout g k i place (Get p) same none = none
no_room_kept layout g k i place (Put p v) same none = (none.0, full_kept layout g k i p same none.1)
no_room_kept layout g k i place (Del p) same none = none
no_room_kept layout g k i place (Add p v) same none = (none.0, full_kept layout g k i p same none.1)
no_room_kept layout g k i place (Swap p old new) same none = none
no_room_kept layout g k i place (Part low last) same none = none
no_room_kept layout g k i place (Move from to) same none = none

-- the place for which it has none is the operation's
pub no_room_place : (layout : Layout) (g : ℕ → NodeState) (i p q : ℕ) (op : Op) → Touches op p → HasNoRoom layout g i op q → p ≡ q
no_room_place layout g i p q (Get k) at none = absurd none
no_room_place layout g i p q (Put k v) at none = at ∙ none.0
no_room_place layout g i p q (Del k) at none = absurd none
no_room_place layout g i p q (Add k v) at none = at ∙ none.0
no_room_place layout g i p q (Swap k old new) at none = absurd none
no_room_place layout g i p q (Part low last) at none = absurd none
no_room_place layout g i p q (Move from to) at none = absurd none

-- a Full that is due is due at a later moment too, if its node is then as it was, and since any beginning since which no
-- node was free for its place
pub full_due_later : (layout : Layout) (n c i place : ℕ) (op : Op) (r s h k : List Event) → h ⊑ k → graph_after k i ≡ graph_after h i → Touches op place → NoneFree layout n c place s h → FullDue layout n r h (Call c i op Full) → FullDue layout n s k (Call c i op Full)
full_due_later layout n c i place op r s h k begins same touched none due = record {
  place = due.place;
  no_room = (no_room_kept layout (graph_after h) (graph_after k) i due.place op same due.no_room.0, refl);
  none_free = none_free_later layout n c due.place s h k begins (subst (λ (p : ℕ). NoneFree layout n c p s h) (no_room_place layout (graph_after h) i place due.place op touched due.no_room.0) none);
}

-- what a caller holds: one live node, or that node and one that it has claimed

pub holds_one : (c i : ℕ) (h : List Event) → hand c h ≡ i ∷ [] → IsLive (graph_after h) i → HoldsLive h c
holds_one c i h is live j mine = elim (subst (λ (z : List ℕ). Has z j) is (held_in_hand h c j mine)) [ inl same ↦ subst (IsLive (graph_after h)) same live | inr none ↦ absurd none ]

pub holds_others : (c i one : ℕ) (h : List Event) → hand c h ≡ one ∷ i ∷ [] → IsLive (graph_after h) i → (j : ℕ) → j ≢ one → turn_after h j ≡ held c → IsLive (graph_after h) j
holds_others c i one h is live j other mine = elim (subst (λ (z : List ℕ). Has z j) is (held_in_hand h c j mine)) [
  | inl same ↦ absurd (other (sym same))
  | inr rest ↦ elim rest [ inl same ↦ subst (IsLive (graph_after h)) same live | inr none ↦ absurd none ]
]
