-- Small traces that show what the definitions mean: some at which each holds, and some at which it does not.
use Rattle.std.proofs.Common.{ℕ, zero, suc, ◌≡◌, ◌≢◌, ◌<◌, ◌≤◌, ◌+◌, ◌*◌, ◌%◌, ◌^◌, ◌⊎◌, inl, inr, cond, ◌==◌, List, [], ◌∷◌, ◌++◌, length, length-append, map, get_or, slice_get, Some, None, refl, sym, ◌∙◌, ap, subst, arith}
use Rattle.std.specs.Prelude.{All, Any, Contains}
use mathlib.Core.Logic.{dite}
use native.Mathlib.Decide.{ℕ_discrete}
use Rattle.std.proofs.lemmas.Nat.{mul-mod_first, mod-mul-add}
use Rattle.std.proofs.lemmas.List.{append_cancel_right}
use Rattle.std.proofs.lemmas.List.Elements.{All-nil, All-cons}
use Rattle.std.proofs.lemmas.Option.{same_Some}
use Rattle.ks_keysets.specs.declared.NewState.{NewState}
use Rattle.ks_keysets.specs.declared.NewState.TheVariants.{BecomesLive, BecomesFree}
use Rattle.ks_keysets.specs.declared.NodeState.{NodeState}
use Rattle.ks_keysets.specs.declared.NodeState.TheVariants.{Claimed, Live}
use Rattle.ks_keysets.specs.declared.Edge.{Edge}
use Rattle.ks_keysets.specs.declared.Frame.{Frame}
use Rattle.ks_keysets.specs.declared.Change.{Change}
use Rattle.ks_keysets.specs.declared.Kind.TheVariants.{NoBranch, Inner, Directory}
use Rattle.ks_keysets.specs.declared.Record.{Record}
use Rattle.ks_keysets.specs.declared.Pair.{Pair}
use Rattle.ks_keysets.specs.Record.{IsPlace, LeadsTo, top}
use Rattle.ks_keysets.specs.Frame.{empty_record, blank_frame}
use Rattle.ks_keysets.specs.Keyset.{opening, live_record, record_at, IsLive, Reaches, at_root, along, InInset, InKeyset, InOutset}
use Rattle.ks_keysets.specs.Laws.Found.{reached_live}
use Rattle.ks_keysets.specs.Layout.{Layout, list_layout, bplus_layout, hash_layout, bst_layout, wide_layout, room}
use Rattle.ks_keysets.specs.Tight.{Fit, IsLow, IsNext, IsRightNeighbour, chained, beside}
use Rattle.ks_history.specs.declared.Op.TheVariants.{Get, Put}
use Rattle.ks_history.specs.declared.Reply.TheVariants.{Nothing, Full}
use Rattle.ks_history.specs.declared.Reply.{Reply}
use Rattle.ks_history.specs.declared.Answered.{Answered}
use Rattle.ks_history.specs.declared.Op.{Op}
use Rattle.ks_history.specs.declared.Event.{Event}
use Rattle.ks_history.specs.declared.Event.TheVariants.{Take, Give, Claim, Shape, Call}
use Rattle.ks_history.specs.Map.{IsAnswer, map_after, Legal}
use Rattle.ks_history.specs.Trace.{◌⊑◌, free, idle, held, given, call_in, graph_after, turn_after, calls_of, calls_by}
use Rattle.ks_history.specs.Own.{called, decided_at}
use Rattle.ks_history.specs.Frames.{frame_after}
use Rattle.ks_history.specs.Served.{at_place, CalledBelow, IsListing, Served}
use Rattle.ks_history.specs.Due.{MayGrow, HoldsLiveBut, FullDue, last_call, FullsDue}
use Rattle.ks_history.specs.Refusals.{BusyDue, MovedDue, FarDue, IsOnWay}
use Rattle.ks_history.specs.Done.{Template, coupling, give_up, link_move, MayTake, first_taken, from_above, joined, Hands, at_first, and_on, Done, DoneAt, Left, Tight, TidyAt}
use Rattle.ks_history.specs.Laws.Begins.{begins_self, begins_append, begins_both, by_others_none}
use Rattle.ks_history.specs.Laws.Calls.{done_calls, left_calls}
use Rattle.ks_history.specs.Laws.Dues.{none_free_by, none_free_but, full_due_earlier, full_due_later}
use Rattle.ks_history.specs.Laws.Beside.{spare_others, moved_due}
use Rattle.ks_history.specs.Descent.{IsDeep}
use Rattle.ks_history.specs.Laws.Descent.{HeldUnder, the_node, target, deep_at_root, deep_freeing}
use Rattle.ks_history.specs.Laws.Stays.{AreInTurn, cond_here, cond_else}

-- a Full with one node free all the while is refused
full_needs_all : (layout : Layout) (n j : ℕ) (s h : List Event) (e : Event) → FullDue layout n s h e → j < n → ((k : List Event) → s ⊑ k → k ⊑ h → turn_after k j ≡ free) → ⊥
full_needs_all layout n j s h e due lt unused =
    let none = due.none_free in
    let t = none.taken j lt in
    t.3 (unused t.0 (begins_both s none.from t.0 none.since t.1) (begins_both t.0 none.to h t.2 none.before))

-- the opening graph has neither pair nor edge

opening_is : (j : ℕ) (r : Record) → record_at (graph_after []) j ≡ Some r → r ≡ empty_record
opening_is zero r is = sym (same_Some empty_record r is)
opening_is (suc j) r is = absurd (cc)

no_pairs : (j : ℕ) (r : Record) → record_at (graph_after []) j ≡ Some r → length r.pairs ≡ 0
no_pairs j r is = ap (λ (t : Record). length t.pairs) (opening_is j r is)

no_edges : (j : ℕ) (r : Record) → record_at (graph_after []) j ≡ Some r → length r.edges ≡ 0
no_edges j r is = ap (λ (t : Record). length t.edges) (opening_is j r is)

-- so a Full is refused at the opening root, which has room
full_needs_room : (layout : Layout) → room layout ≢ 0 → (s : List Event) → FullDue layout 4 s [] (Call 0 0 (Put 5 50) Full) → ⊥
full_needs_room layout some s due = let full = due.no_room.0.1 in some (sym full.filled ∙ no_pairs 0 full.node full.is)

-- eight pairs fill a list node, and if it is the only node of the arena a ninth is Full

abbrev pair : ℕ → Pair
pair p = record { place = p; value = p }

abbrev full_root : Record
full_root = record { edges = []; pairs = pair 0 ∷ pair 1 ∷ pair 2 ∷ pair 3 ∷ pair 4 ∷ pair 5 ∷ pair 6 ∷ pair 7 ∷ [] }

abbrev filled : List Event
filled = Shape 0 (record { node = 0; state = BecomesLive full_root blank_frame } ∷ []) ∷ Take 0 0 ∷ []

holds_root : (j : ℕ) → turn_after filled j ≡ held 0 → IsLive (graph_after filled) j
holds_root zero mine = (full_root, refl)
holds_root (suc j) mine = let x : free ≡ held 0 = sym (cond_else (suc j) 0 idle free (λ e. omega arith)) ∙ sym (cond_else (suc j) 0 (held 0) (cond (suc j == 0) idle free) (λ e. omega arith)) ∙ mine in absurd (cc)

full_is_due : FullDue list_layout 1 filled filled (Call 0 0 (Put 9 90) Full)
full_is_due = record {
  place = 9;
  no_room = ((refl, record { node = full_root; is = refl; filled = refl; absent = refl }), refl);
  none_free = none_free_by list_layout 1 0 9 filled filled filled filled (begins_self filled) (by_others_none 0 filled) (begins_self filled)
      ((tt, refl), λ k d lt. elim (first k lt) [ inl e ↦ subst (λ (i : ℕ). turn_after (Take 0 0 ∷ []) (get_or (record { node = 0; state = BecomesLive full_root blank_frame } ∷ []) i d).node ≡ held 0) (sym e) refl | inr f ↦ absurd f ])
      holds_root
      (λ j lt. record { moment = filled; since = begins_self filled; until = begins_self filled; so = λ is. root_held j lt is });
}
  where
    first : (k : ℕ) → k < 1 → (k ≡ 0) ⊎ ⊥
    first k lt = inl (omega arith)

    root_held : (j : ℕ) → j < 1 → turn_after filled j ≡ free → ⊥
    root_held j lt is = let zero_is : j ≡ 0 = omega arith in let x : held 0 ≡ free = subst (λ (i : ℕ). turn_after filled i ≡ free) zero_is is in cc

-- there the Full of a ninth put is due
filled_due : FullsDue list_layout 1 (Call 0 0 (Put 9 90) Full ∷ filled)
filled_due = (((tt, tt), tt), λ is. full_due_earlier list_layout 1 [] filled filled (Call 0 0 (Put 9 90) Full) (record { rest = filled; is = refl }) full_is_due)

-- in an arena of one more node, which is free all the while, it is not
filled_not_due : FullsDue list_layout 2 (Call 0 0 (Put 9 90) Full ∷ filled) → ⊥
filled_not_due due = full_needs_all list_layout 2 1 [] filled (Call 0 0 (Put 9 90) Full) (due.1 refl) (omega arith) (λ k since until. unused until.rest k until.is)
  where
    unused : (rest k : List Event) → filled ≡ rest ++ k → turn_after k 1 ≡ free
    unused [] k is = ap (λ (h : List Event). turn_after h 1) (sym is)
    unused (a ∷ []) k is = let e : Take 0 0 ∷ [] ≡ k = cc in ap (λ (h : List Event). turn_after h 1) (sym e)
    unused (a ∷ b ∷ []) k is = let e : [] ≡ k = cc in ap (λ (h : List Event). turn_after h 1) (sym e)
    unused (a ∷ b ∷ c ∷ rest) k is = let e : [] ≡ c ∷ (rest ++ k) = cc in absurd (cc)

-- that no node was free may be before the Call, with events of the caller between: it released the root, and took it again
abbrev filled_again : List Event
filled_again = Take 0 0 ∷ Give 0 0 ∷ filled

full_is_due_later : FullDue list_layout 1 filled filled_again (Call 0 0 (Put 9 90) Full)
unfolding full_is_due
full_is_due_later = full_due_later list_layout 1 0 0 9 (Put 9 90) filled filled filled filled_again (begins_append (Take 0 0 ∷ Give 0 0 ∷ []) filled) refl refl full_is_due.none_free full_is_due

-- a list node claims one node at a time, so nothing is known of a caller that holds a claimed one beside it
list_claims_alone : (h : List Event) (c place : ℕ) → HoldsLiveBut list_layout place h c → ⊥
list_claims_alone h c place but = but.grows

-- a Busy that names the caller itself is refused
busy_by_another : (c node : ℕ) (op : Op) (s0 s1 : List Event) → BusyDue c op s0 s1 node c → ⊥
busy_by_another c node op s0 s1 due = due.another refl

-- caller 1 holds the root, so caller 0 may find it busy
busy_root : BusyDue 0 (Get 5) (Take 1 0 ∷ []) (Take 1 0 ∷ []) 0 1
busy_root = record {
  another = λ e. omega arith;
  place = 5;
  touched = refl;
  on_way = record { moment = Take 1 0 ∷ []; since = begins_self (Take 1 0 ∷ []); until = begins_self (Take 1 0 ∷ []); so = inl refl };
  is_held = record { moment = Take 1 0 ∷ []; since = begins_self (Take 1 0 ∷ []); until = begins_self (Take 1 0 ∷ []); so = refl };
}

-- a node off the search path is not busy: no edge leads to node 1
busy_on_way : (holder : ℕ) → BusyDue 0 (Get 5) [] [] 1 holder → ⊥
busy_on_way holder due = off due.on_way.so
  where
    opening : due.on_way.moment ≡ []
    opening = none_of due.on_way.until.rest due.on_way.moment due.on_way.until.is
      where
        none_of : (a b : List Event) → [] ≡ a ++ b → b ≡ []
        none_of [] b is = sym is
        none_of (e ∷ a) b is = absurd (cc)

    off : IsOnWay (graph_after due.on_way.moment) due.place 1 → ⊥
    off (inl e) = omega arith
    off (inr way) = omega (arith, way.3.2, no_edges way.0 way.1 (subst (λ (h : List Event). record_at (graph_after h) way.0 ≡ Some way.1) opening way.2))

-- nothing moves while nothing happens
moved_takes_time : (c node : ℕ) (op : Op) (s : List Event) → MovedDue c op s s node → ⊥
moved_takes_time c node op s due = let rest : due.grows.rest ≡ [] = sym (append_cancel_right [] due.grows.rest s due.grows.is) in absurd (omega (arith, due.shaped.2, ap length rest))

-- nor is Far due if the caller took no node
far_takes_steps : (n c : ℕ) (s : List Event) → FarDue (suc n) c s s → ⊥
far_takes_steps n c s due = let rest : due.grows.rest ≡ [] = sym (append_cancel_right [] due.grows.rest s due.grows.is) in absurd (omega (arith, due.shaped.2, ap length rest))

-- node 1 below the root, both idle

abbrev to_one : Record
to_one = record { edges = record { span = record { low = 0; last = top }; node = 1 } ∷ []; pairs = [] }

abbrev grown : List Event
grown = Shape 1 (record { node = 0; state = BecomesLive to_one blank_frame } ∷ record { node = 1; state = BecomesLive empty_record blank_frame } ∷ []) ∷ Claim 1 1 ∷ Take 1 0 ∷ []

abbrev grown_by_one : List Event
grown_by_one = Give 1 1 ∷ Give 1 0 ∷ grown

-- by coupling a caller that holds nothing takes only the root, by giving up any node
coupling_begins : MayTake coupling (Get 5) [] 0 0
coupling_begins = first_taken refl refl

coupling_no_jump : MayTake coupling (Get 5) [] 0 5 → ⊥
coupling_no_jump (first_taken empty at) = omega (arith, at)
coupling_no_jump (from_above above) = omega (arith, above.leads.2, no_edges above.above above.node above.is)
coupling_no_jump (joined may one is) = absurd may

-- one that holds a node takes a node to which that one leads
coupling_steps_down : MayTake coupling (Get 5) (Take 0 0 ∷ grown_by_one) 0 1
coupling_steps_down = from_above (record { above = 0; node = to_one; holds = refl; is = refl; leads = (0, record { span = record { low = 0; last = top }; node = 1 }, omega arith, refl, refl) })

give_up_jumps : MayTake give_up (Get 5) [] 0 5
give_up_jumps = first_taken refl tt

-- a get at the root: done
abbrev one_get : List Event
one_get = Give 0 0 ∷ Call 0 0 (Get 5) Nothing ∷ Take 0 0 ∷ []

-- two Calls in one call are refused
abbrev two_gets : List Event
two_gets = Give 0 0 ∷ Call 0 0 (Get 5) Nothing ∷ Call 0 0 (Get 5) Nothing ∷ Take 0 0 ∷ []

-- the last Call of caller 0 is before its Give; caller 1 has made none
last_stands : last_call 0 one_get ≡ Call 0 0 (Get 5) Nothing ∷ Take 0 0 ∷ []
last_stands = refl

last_none : last_call 1 one_get ≡ []
last_none = refl

-- of two Calls the last is the later one
last_not_first : last_call 0 two_gets ≢ Call 0 0 (Get 5) Nothing ∷ Take 0 0 ∷ []
last_not_first e = let n = ap length e in omega arith

get_done : Done list_layout coupling 4 0 (Get 5) [] one_get Nothing 0
get_done = record {
  before = Take 0 0 ∷ [];
  event = Call 0 0 (Get 5) Nothing;
  after = Give 0 0 ∷ [];
  is = refl;
  call = refl;
  none_before = tt;
  none_after = tt;
  numbered = refl;
  gave_all = refl;
  hands = and_on (and_on (and_on (at_first (omega arith)) (λ e. first_taken refl refl) (omega arith)) tt (omega arith)) tt (omega arith);
  full = λ e. absurd (cc);
}

-- it was decided at the root, whose frame was that of a blank body
get_at_root : DoneAt list_layout coupling 4 0 (Get 5) [] one_get Nothing 0 0 blank_frame blank_frame
unfolding get_done
get_at_root = record { done = get_done; at = refl; framed = refl }

-- and not at node 1
get_not_at_one : (blank frame : Frame) → DoneAt list_layout coupling 4 0 (Get 5) [] one_get Nothing 0 1 blank frame → ⊥
get_not_at_one blank frame so = go so.done.after so.done.event (so.done.before ++ []) so.done.is so.done.call so.at
  where
    go : (after : List Event) (e : Event) (before : List Event) → one_get ≡ after ++ e ∷ before → call_in e ≡ Some (called 0 (Get 5) Nothing) → decided_at e ≡ 1 ∷ [] → ⊥
    go [] e before is call at = let x : Give 0 0 ≡ e = cc in let y : None ≡ Some (called 0 (Get 5) Nothing) = ap call_in x ∙ call in cc
    go (a ∷ []) e before is call at = let x : Call 0 0 (Get 5) Nothing ≡ e = cc in let y : 0 ∷ [] ≡ 1 ∷ [] = ap decided_at x ∙ at in omega (arith, ap (λ (xs : List ℕ). get_or xs 0 0) y)
    go (a ∷ b ∷ []) e before is call at = let x : Take 0 0 ≡ e = cc in let y : None ≡ Some (called 0 (Get 5) Nothing) = ap call_in x ∙ call in cc
    go (a ∷ b ∷ d ∷ after) e before is call at = let x : [] ≡ after ++ e ∷ before = cc in omega (arith, ap length x, length-append after (e ∷ before))

get_once : (n number : ℕ) → Done list_layout coupling n 0 (Get 5) [] two_gets Nothing number → ⊥
get_once n number done = let e = ap length (done_calls list_layout coupling n 0 (Get 5) [] two_gets Nothing number done) in omega arith

-- nor does it keep a node
keeps_nothing : (number : ℕ) → Done list_layout coupling 4 0 (Get 5) [] (Call 0 0 (Get 5) Nothing ∷ Take 0 0 ∷ []) Nothing number → ⊥
keeps_nothing number done = let e = ap length done.gave_all in omega arith

-- a get that holds three nodes at once is refused
three_held : Hands coupling 0 (Get 5) [] (Take 0 2 ∷ Take 0 1 ∷ Take 0 0 ∷ []) → ⊥
three_held (and_on before well few) = omega (arith, few)

-- along links, one that holds two is refused
two_held : Hands link_move 0 (Get 5) [] (Take 0 1 ∷ Take 0 0 ∷ []) → ⊥
two_held (and_on before well few) = omega (arith, few)

-- a call that releases its node without a Call is left
gives_back : Left give_up 0 (Get 5) [] (Give 0 3 ∷ Take 0 3 ∷ [])
gives_back = record {
  rest = Give 0 3 ∷ Take 0 3 ∷ [];
  is = refl;
  none = tt;
  gave_all = refl;
  hands = and_on (and_on (at_first (omega arith)) (λ e. first_taken refl tt) (omega arith)) tt (omega arith);
}

-- one that made its Call is not
left_made_none : (template : Template) → Left template 0 (Get 5) [] one_get → ⊥
left_made_none template left = let e = ap length (left_calls template 0 (Get 5) [] one_get left) in omega arith

-- caller 1 made node 1 live below the root, and frees it again while caller 0 searches for it

abbrev freed : Event
freed = Shape 1 (record { node = 0; state = BecomesLive empty_record blank_frame } ∷ record { node = 1; state = BecomesFree } ∷ [])

one_moved : MovedDue 0 (Get 5) grown (freed ∷ grown) 1
one_moved = record {
  place = 5;
  touched = refl;
  before = grown;
  next = freed;
  after = freed ∷ grown;
  since = begins_self grown;
  later = begins_self (freed ∷ grown);
  until = begins_self (freed ∷ grown);
  on_way = inr (0, to_one, refl, (0, record { span = record { low = 0; last = top }; node = 1 }, omega arith, refl, ((omega arith, omega arith), refl)));
  gone = λ inset. let live : IsLive (graph_after (freed ∷ grown)) 1 = reached_live inset.1 in not_live live.0 live.1;
  grows = begins_append (freed ∷ []) grown;
  shaped = (0, freed, omega arith, refl, ((λ e. omega arith), (1, record { node = 1; state = BecomesFree }, omega arith, refl, refl)));
}
  where
    not_live : (r : Record) → record_at (graph_after (freed ∷ grown)) 1 ≡ Some r → ⊥
    not_live r is = let x : None ≡ Some r = is in cc

-- caller 0 takes the root twice, and between is a Shape of caller 1: in an arena of two nodes Far is due
far_way : FarDue 2 0 [] (Give 0 0 ∷ Take 0 0 ∷ Shape 1 [] ∷ Give 0 0 ∷ Take 0 0 ∷ [])
far_way = record {
  grows = record { rest = Give 0 0 ∷ Take 0 0 ∷ Shape 1 [] ∷ Give 0 0 ∷ Take 0 0 ∷ []; is = refl };
  many = omega arith;
  root = omega arith;
  shaped = (2, Shape 1 [], omega arith, refl, λ e. omega arith);
}

-- the opening is tight, as no edge leads anywhere
opening_tight : (layout : Layout) → Tight layout blank_frame []
opening_tight layout = record {
  full = λ n m r s right is is'. absurd (alone n m right);
  root = λ r m is branch. absurd (branch refl);
}
  where
    alone : (n m : ℕ) → IsRightNeighbour (graph_after []) (frame_after blank_frame []) n m → ⊥
    alone n m (chained r is own leads) = own.1 (no_edges n r is)
    alone n m (beside r a s is own is' branch next) = branch refl

-- halves of a list node fit, and more do not; a directory fits with nothing and is never low

abbrev halves : Record → Record → Type 0
halves r s = (length r.pairs ≡ 4) × (length s.pairs ≡ 4)

halves_fit : (r s : Record) → halves r s → Fit list_layout NoBranch r NoBranch s × IsLow list_layout NoBranch r
halves_fit r s h = (omega (arith, h.0, h.1), omega (arith, h.0))

more_do_not : (r s : Record) → length r.pairs ≡ 5 → length s.pairs ≡ 4 → Fit list_layout NoBranch r NoBranch s → ⊥
more_do_not r s e f fit = omega arith

directory_alone : (layout : Layout) (r s : Record) → Fit layout Directory r Directory s → ⊥
directory_alone layout r s fit = fit

-- only in the B+ layouts do inner nodes fit, and are they low
inner_fit : (r s : Record) → length r.edges ≡ 1 → length s.edges ≡ 1 → Fit bplus_layout Inner r Inner s × IsLow bplus_layout Inner r
inner_fit r s e f = (omega (arith, e, f), omega (arith, e))

wide_fit : (r s : Record) → length r.edges ≡ 31 → length s.edges ≡ 33 → Fit (wide_layout 32 64) Inner r Inner s × IsLow (wide_layout 32 64) Inner r
wide_fit r s e f = (omega (arith, e, f), omega (arith, e))

wide_do_not : (r s : Record) → length r.edges ≡ 31 → length s.edges ≡ 34 → Fit (wide_layout 32 64) Inner r Inner s → ⊥
wide_do_not r s e f fit = omega arith

inner_alone : (r s : Record) → ¬ Fit hash_layout Inner r Inner s × ¬ IsLow hash_layout Inner r × ¬ Fit list_layout Inner r Inner s × ¬ IsLow list_layout Inner r
inner_alone r s = (λ fit. fit, λ low. low, λ fit. fit, λ low. low)

-- node 1 right of the root, by an edge of the root's own

abbrev over_one : List Pair → Record
over_one xs = record { edges = record { span = record { low = 4; last = top }; node = 1 } ∷ []; pairs = xs }

abbrev edgeless : List Pair → Record
edgeless ys = record { edges = []; pairs = ys }

abbrev made_chain : List Pair → List Pair → List Change
made_chain xs ys = record { node = 0; state = BecomesLive (over_one xs) blank_frame } ∷ record { node = 1; state = BecomesLive (edgeless ys) blank_frame } ∷ []

abbrev chain : List Pair → List Pair → List Event
chain xs ys = Shape 0 (made_chain xs ys) ∷ Claim 0 1 ∷ Take 0 0 ∷ []

chain_right : (xs ys : List Pair) → IsRightNeighbour (graph_after (chain xs ys)) (frame_after blank_frame (chain xs ys)) 0 1
chain_right xs ys = chained (over_one xs) refl (refl, λ e. omega (arith, e)) (0, record { span = record { low = 4; last = top }; node = 1 }, omega arith, refl, refl)

chain_is : (xs ys : List Pair) (i : ℕ) (r : Record) → record_at (graph_after (chain xs ys)) i ≡ Some r → ((i ≡ 0) × (r ≡ over_one xs)) ⊎ ((i ≡ 1) × (r ≡ edgeless ys))
chain_is xs ys zero r is = inl (refl, sym (same_Some (over_one xs) r is))
chain_is xs ys (suc zero) r is = inr (refl, sym (same_Some (edgeless ys) r is))
chain_is xs ys (suc (suc j)) r is =
    let i : ℕ = suc (suc j) in
    let e = cond_else i 0 (Live (over_one xs)) (cond (i == 1) (Live (edgeless ys)) (cond (i == 1) (Claimed 0) (opening i))) (λ e. omega arith)
    ∙ cond_else i 1 (Live (edgeless ys)) (cond (i == 1) (Claimed 0) (opening i)) (λ e. omega arith)
    ∙ cond_else i 1 (Claimed 0) (opening i) (λ e. omega arith) in
    let x : None ≡ Some r = sym (ap live_record e) ∙ is in absurd (cc)

chain_kind : (xs ys : List Pair) (i : ℕ) → (frame_after blank_frame (chain xs ys) i).kind ≡ NoBranch
chain_kind xs ys zero = refl
chain_kind xs ys (suc zero) = refl
chain_kind xs ys (suc (suc j)) =
    let i : ℕ = suc (suc j) in
    ap (λ (f : Frame). f.kind) (cond_else i 0 blank_frame (cond (i == 1) blank_frame blank_frame) (λ e. omega arith) ∙ cond_else i 1 blank_frame blank_frame (λ e. omega arith))

leads_one : (xs : List Pair) (m : ℕ) → Any (λ e. e.node ≡ m) (over_one xs).edges → m ≡ 1
leads_one xs m (zero, d, lt, is, to) = sym to ∙ ap (λ (e : Edge). e.node) (sym is)
leads_one xs m (suc k, d, lt, is, to) = absurd (omega arith)

-- there is no other right neighbour
chain_alone : (xs ys : List Pair) (n m : ℕ) → IsRightNeighbour (graph_after (chain xs ys)) (frame_after blank_frame (chain xs ys)) n m → (n ≡ 0) × (m ≡ 1)
chain_alone xs ys n m (chained r is has leads) = go (chain_is xs ys n r is)
  where
    go : ((n ≡ 0) × (r ≡ over_one xs)) ⊎ ((n ≡ 1) × (r ≡ edgeless ys)) → (n ≡ 0) × (m ≡ 1)
    go (inl e) = (e.0, leads_one xs m (subst (λ (t : Record). Any (λ e. e.node ≡ m) t.edges) e.1 leads))
    go (inr e) = absurd (has.1 (ap (λ (t : Record). length t.edges) e.1))
chain_alone xs ys n m (beside r a s is has is' branch next) = absurd (branch (chain_kind xs ys a))

chain_no_left : (xs ys : List Pair) → IsRightNeighbour (graph_after (chain xs ys)) (frame_after blank_frame (chain xs ys)) 1 0 → ⊥
chain_no_left xs ys left = omega (arith, (chain_alone xs ys 1 0 left).0)

-- four and five pairs do not fit: that is tight
abbrev four : List Pair
four = pair 0 ∷ pair 1 ∷ pair 2 ∷ pair 3 ∷ []

abbrev five : List Pair
five = pair 4 ∷ pair 5 ∷ pair 6 ∷ pair 7 ∷ pair 8 ∷ []

chain_tight : Tight list_layout blank_frame (chain four five)
chain_tight = record {
  full = λ n m r s right is is' fit. let at = chain_alone four five n m right in no_fit n m r s at.0 at.1 is is' fit;
  root = λ r m is branch. absurd (branch refl);
}
  where
    no_fit : (n m : ℕ) (r s : Record) → n ≡ 0 → m ≡ 1 → record_at (graph_after (chain four five)) n ≡ Some r → record_at (graph_after (chain four five)) m ≡ Some s
        → Fit list_layout (frame_after blank_frame (chain four five) n).kind r (frame_after blank_frame (chain four five) m).kind s → ⊥
    no_fit zero (suc zero) r s e f is is' fit = omega (arith, ap (λ (t : Record). length t.pairs) (same_Some (over_one four) r is), ap (λ (t : Record). length t.pairs) (same_Some (edgeless five) s is'), fit)
    no_fit zero zero r s e f is is' fit = omega arith
    no_fit zero (suc (suc m)) r s e f is is' fit = omega arith
    no_fit (suc n) m r s e f is is' fit = omega arith

-- empty ones fit: that is not tight
chain_loose : Tight list_layout blank_frame (chain [] []) → ⊥
chain_loose tight = tight.full 0 1 (over_one []) (edgeless []) (chain_right [] []) refl refl (omega arith)

-- a tight graph is tidy at every place
tight_tidy : (layout : Layout) (h : List Event) (p : ℕ) → Tight layout blank_frame h → TidyAt layout blank_frame h p
tight_tidy layout h p tight = record { at = λ n r inside is low. tight.full n }

-- the two empty nodes are tidy at the places of the right one, which has no right neighbour

outset_from_four : (xs ys : List Pair) → InOutset (graph_after (chain xs ys)) 0 4
outset_from_four xs ys = (over_one xs, refl, (0, record { span = record { low = 4; last = top }; node = 1 }, omega arith, refl, (omega arith, omega arith)))

loose_tidy_right : TidyAt list_layout blank_frame (chain [] []) 4
loose_tidy_right = record { at = λ n r inside is low m t s right is' is'' fit. inside.1 (subst (λ (i : ℕ). InOutset (graph_after (chain [] [])) i 4) (sym (chain_alone [] [] n m right).0) (outset_from_four [] [])) }

-- and not at those of the left one

keyset_to_three : InKeyset (graph_after (chain [] [])) 0 3
keyset_to_three = ((omega arith, at_root (over_one [], refl)), λ o. not_on o.0 o.1 o.2)
  where
    below_four : Any (λ e. (e.span.low ≤ 3) × (3 ≤ e.span.last)) (over_one []).edges → ⊥
    below_four (zero, d, lt, is, on) = let e = ap (λ (t : Edge). t.span.low) is in omega (arith, e, on.0)
    below_four (suc k, d, lt, is, on) = omega arith

    not_on : (r : Record) → record_at (graph_after (chain [] [])) 0 ≡ Some r → Any (λ e. (e.span.low ≤ 3) × (3 ≤ e.span.last)) r.edges → ⊥
    not_on r is on = below_four (subst (λ (t : Record). Any (λ e. (e.span.low ≤ 3) × (3 ≤ e.span.last)) t.edges) (sym (same_Some (over_one []) r is)) on)

loose_not_tidy : TidyAt list_layout blank_frame (chain [] []) 3 → ⊥
loose_not_tidy tidy = tidy.at 0 (over_one []) keyset_to_three refl (omega arith) 1 (over_one []) (edgeless []) (chain_right [] []) refl refl (omega arith)

-- nodes 1 and 2 side by side below an inner root

abbrev inner_frame : Frame
inner_frame = record { low = 0; kind = Inner; range = None; level = 0; link = None }

abbrev to_low : Edge
to_low = record { span = record { low = 0; last = 3 }; node = 1 }

abbrev to_high : Edge
to_high = record { span = record { low = 4; last = top }; node = 2 }

abbrev fork : List Event
fork = Shape 0 (record { node = 0; state = BecomesLive (record { edges = to_low ∷ to_high ∷ []; pairs = [] }) inner_frame } ∷ record { node = 1; state = BecomesLive empty_record blank_frame } ∷ record { node = 2; state = BecomesLive empty_record blank_frame } ∷ [])
    ∷ Claim 0 2 ∷ Claim 0 1 ∷ Take 0 0 ∷ []

fork_right : IsRightNeighbour (graph_after fork) (frame_after blank_frame fork) 1 2
fork_right = beside empty_record 0 (record { edges = to_low ∷ to_high ∷ []; pairs = [] }) refl (λ has. has.1 refl) refl (λ e. absurd (cc))
    (record { at = 0; one = to_low; other = to_high; first = refl; second = refl; from = refl; to = refl })

fork_no_left : IsRightNeighbour (graph_after fork) (frame_after blank_frame fork) 2 1 → ⊥
fork_no_left (chained r is has leads) = has.1 (ap (λ (t : Record). length t.edges) (sym (same_Some empty_record r is)))
fork_no_left (beside r a s is has is' branch next) = below a is' branch
  where
    step : (at : ℕ) (one other : Edge) → slice_get (to_low ∷ to_high ∷ []) at ≡ Some one → slice_get (to_low ∷ to_high ∷ []) (suc at) ≡ Some other → one.node ≡ 2 → ⊥
    step zero one other first second from = omega (arith, ap (λ (e : Edge). e.node) (same_Some to_low one first), from)
    step (suc zero) one other first second from = cc
    step (suc (suc at)) one other first second from = cc

    after : IsNext (to_low ∷ to_high ∷ []) 2 1 → ⊥
    after n = step n.at n.one n.other n.first n.second n.from

    below : (i : ℕ) → record_at (graph_after fork) i ≡ Some s → (frame_after blank_frame fork i).kind ≢ NoBranch → ⊥
    below zero at other = after (subst (λ (t : Record). IsNext t.edges 2 1) (sym (same_Some (record { edges = to_low ∷ to_high ∷ []; pairs = [] }) s at)) next)
    below (suc zero) at other = other refl
    below (suc (suc zero)) at other = other refl
    below (suc (suc (suc j))) at other =
        let i : ℕ = suc (suc (suc j)) in
        other (ap (λ (f : Frame). f.kind)
        (cond_else i 0 inner_frame (cond (i == 1) blank_frame (cond (i == 2) blank_frame blank_frame)) (λ e. omega arith)
        ∙ cond_else i 1 blank_frame (cond (i == 2) blank_frame blank_frame) (λ e. omega arith)
        ∙ cond_else i 2 blank_frame blank_frame (λ e. omega arith)))

-- an inner root with all edges to one child is not tight

abbrev stem : List Event
stem = Shape 0 (record { node = 0; state = BecomesLive (over_one []) inner_frame } ∷ record { node = 1; state = BecomesLive empty_record blank_frame } ∷ []) ∷ Claim 0 1 ∷ Take 0 0 ∷ []

stem_not_tight : Tight bplus_layout blank_frame stem → ⊥
stem_not_tight tight = tight.root (over_one []) 1 refl (λ e. absurd (cc)) all_to_one
  where
    all_to_one : (k : ℕ) (d : Edge) → k < 1 → (get_or (over_one []).edges k d).node ≡ 1
    all_to_one zero d lt = refl
    all_to_one (suc k) d lt = absurd (omega arith)

-- one put is served under a placing that spreads the keys, as for hash nodes: a factor, and its inverse modulo 2^64

abbrev spread : ℕ → ℕ
spread k = (k * 0x9E3779B97F4A7C15) % 2 ^ 64

abbrev gathered : ℕ → ℕ
gathered p = (p * 0xF1DE83E19937733D) % 2 ^ 64

undone : (a b q m k : ℕ) → a * b ≡ q * m + 1 → k < m → (k * a) % m * b % m ≡ k
undone a b q m k inverse lt =
    let whole : k * (a * b) ≡ k * (q * m + 1) = ap (λ n. k * n) inverse in
    let regroup : k * a * b ≡ k * q * m + k = omega (arith, whole) in
    mul-mod_first (k * a) b m ∙ ap (λ n. n % m) regroup ∙ mod-mul-add (k * q) m k lt

spread_back : (k : ℕ) → IsPlace k → gathered (spread k) ≡ k
spread_back k place = undone 0x9E3779B97F4A7C15 0xF1DE83E19937733D 10771413168148108919 (2 ^ 64) k refl (omega arith)

-- no two keys have the same place
spread_apart : (j k : ℕ) → IsPlace j → IsPlace k → spread j ≡ spread k → j ≡ k
spread_apart j k place place' same = sym (spread_back j place) ∙ ap gathered same ∙ spread_back k place'

abbrev one_put : List Event
one_put = Give 0 0 ∷ Call 0 0 (Put (spread 5) 50) Nothing ∷ Take 0 0 ∷ []

abbrev one_pair : List (ℕ × ℕ)
one_pair = (5, 50) ∷ []

one_listed : IsListing (λ k. map_after (calls_of one_put) (spread k)) one_pair
one_listed = record { exact = λ k v. (there k v, back k v); ascend = λ i j d lt lt'. absurd (omega arith) }
  where
    pair_is : (k v : ℕ) → 5 ≡ k → 50 ≡ v → let x : ℕ × ℕ = (5, 50) in let y : ℕ × ℕ = (k, v) in x ≡ y
    pair_is k v key value = ap (λ (n : ℕ). let x : ℕ × ℕ = (n, 50) in x) key ∙ ap (λ (n : ℕ). let x : ℕ × ℕ = (k, n) in x) value

    there : (k v : ℕ) → IsPlace k × (map_after (calls_of one_put) (spread k) ≡ Some v) → Contains one_pair (k, v)
    there k v is = dite (ℕ_discrete (spread 5) (spread k))
        (λ same. (0, omega arith, pair_is k v (spread_apart 5 k (omega arith) is.0 same) (same_Some 50 v (sym (cond_here (spread 5) (spread k) (Some 50) None same) ∙ is.1))))
        (λ apart. let x : None ≡ Some v = sym (cond_else (spread 5) (spread k) (Some 50) None apart) ∙ is.1 in absurd (cc))

    back : (k v : ℕ) → Contains one_pair (k, v) → IsPlace k × (map_after (calls_of one_put) (spread k) ≡ Some v)
    back k v (zero, lt, same) =
        let key : 5 ≡ k = ap (λ (x : ℕ × ℕ). x.0) same in
        let value : 50 ≡ v = ap (λ (x : ℕ × ℕ). x.1) same in
        (omega arith, cond_here (spread 5) (spread k) (Some 50) None (ap spread key) ∙ ap (λ (n : ℕ). Some n) value)
    back k v (suc i, lt, same) = absurd (omega arith)

one_served : Served spread ((Put 5 50 ∷ []) ∷ []) (((0, Nothing) ∷ []) ∷ []) one_pair one_put
one_served = record { asked = asked; told = told_so; callers = refl; others = called; legal = legal; final = one_listed }
  where
    asked : (c : ℕ) (ops : List Op) → slice_get ((Put 5 50 ∷ []) ∷ []) c ≡ Some ops → map (λ x. x.call.op) (calls_by c one_put) ≡ map (at_place spread) ops
    asked zero ops is = ap (map (at_place spread)) (same_Some (Put 5 50 ∷ []) ops is)
    asked (suc c) ops is = absurd (cc)

    told_so : (c : ℕ) (ls : List (ℕ × Reply)) → slice_get (((0, Nothing) ∷ []) ∷ []) c ≡ Some ls → map (λ x. (x.number, x.call.reply)) (calls_by c one_put) ≡ ls
    told_so zero ls is = same_Some ((0, Nothing) ∷ []) ls is
    told_so (suc c) ls is = absurd (cc)

    called : All (CalledBelow 1) one_put
    called zero d lt = tt
    called (suc zero) d lt = omega arith
    called (suc (suc zero)) d lt = tt
    called (suc (suc (suc k))) d lt = absurd (omega arith)

    legal : Legal (calls_of one_put)
    legal zero a is = subst (λ (x : Answered). IsAnswer (map_after []) x.op x.reply) (same_Some (record { op = Put (spread 5) 50; reply = Nothing }) a is) (inl refl)
    legal (suc k) a is = absurd (cc)

-- a printed map that leaves out the pair does not report it
pair_left_out : Served spread ((Put 5 50 ∷ []) ∷ []) (((0, Nothing) ∷ []) ∷ []) [] one_put → ⊥
pair_left_out served = let there = (served.final.exact 5 50).0 (omega arith, refl) in omega (arith, there.1)

-- under a hash layout a node that is claimed beside the full root is allowed, in an arena of these two

abbrev filled_claim : List Event
filled_claim = Claim 0 1 ∷ filled

claimed_beside : HoldsLiveBut hash_layout 9 filled_claim 0
claimed_beside = record { one = 1; claimed = refl; node = 0; holds = refl; grows = (refl, full_root, refl, inl refl); others = others }
  where
    others : (j : ℕ) → j ≢ 1 → turn_after filled_claim j ≡ held 0 → IsLive (graph_after filled_claim) j
    others zero ne mine = (full_root, refl)
    others (suc zero) ne mine = absurd (ne refl)
    others (suc (suc j)) ne mine =
        let i : ℕ = suc (suc j) in
        let e = cond_else i 1 (held 0) (cond (i == 0) (held 0) (cond (i == 0) idle free)) (λ e. omega arith) ∙ cond_else i 0 (held 0) (cond (i == 0) idle free) (λ e. omega arith) ∙ cond_else i 0 idle free (λ e. omega arith) in
        let x : free ≡ held 0 = sym e ∙ mine in absurd (cc)

same_between : (t k : List Event) → t ⊑ k → k ⊑ t → k ≡ t
same_between t k a b = a.is ∙ ap (λ (z : List Event). z ++ t) (empty a.rest (omega (arith, ap length a.is, ap length b.is, length-append a.rest t, length-append b.rest k)))
  where
    empty : (rest : List Event) → length rest ≡ 0 → rest ≡ []
    empty [] none = refl
    empty (e ∷ rest) none = absurd (omega arith)

claimed_is_due : FullDue hash_layout 2 filled_claim filled_claim (Call 0 0 (Put 9 90) Full)
unfolding claimed_beside
claimed_is_due = record {
  place = 9;
  no_room = ((refl, record { node = full_root; is = refl; filled = refl; absent = refl }), refl);
  none_free = none_free_but hash_layout 2 0 9 filled_claim filled_claim filled_claim filled_claim (begins_self filled_claim) (by_others_none 0 filled_claim) (begins_self filled_claim)
      (((tt, refl), All-cons (λ x. turn_after (Take 0 0 ∷ []) x.node ≡ held 0) (record { node = 0; state = BecomesLive full_root blank_frame }) [] refl (All-nil (λ x. turn_after (Take 0 0 ∷ []) x.node ≡ held 0))), refl)
      claimed_beside refl
      (λ k a b inside. subst (λ (z : List Event). InKeyset (graph_after z) 0 9) (sym (same_between filled_claim k a b)) inside)
      (λ j lt. record { moment = filled_claim; since = begins_self filled_claim; until = begins_self filled_claim; so = both_held j lt });
}
  where
    both_held : (j : ℕ) → j < 2 → turn_after filled_claim j ≡ free → ⊥
    both_held zero lt is = let x : held 0 ≡ free = is in cc
    both_held (suc zero) lt is = let x : held 0 ≡ free = is in cc
    both_held (suc (suc j)) lt is = omega arith

-- under a layout of binary search trees a claimed node is excused beside a full leaf whose keyset has the place: the root
-- leads to leaf 1 below 10, and from there on to leaf 2, which is full

abbrev fork_root : Record
fork_root = record { edges = record { span = record { low = 0; last = 9 }; node = 1 } ∷ record { span = record { low = 10; last = top }; node = 2 } ∷ []; pairs = [] }

abbrev full_leaf : Record
full_leaf = record { edges = []; pairs = pair 10 ∷ pair 20 ∷ [] }

abbrev forked : List Event
forked = Claim 0 3 ∷ Shape 0 (record { node = 0; state = BecomesLive fork_root blank_frame } ∷ record { node = 1; state = BecomesLive empty_record blank_frame } ∷ record { node = 2; state = BecomesLive full_leaf blank_frame } ∷ []) ∷ Claim 0 2 ∷ Claim 0 1 ∷ Take 0 0 ∷ []

claimed_beside_leaf : HoldsLiveBut bst_layout 15 forked 0
claimed_beside_leaf = record { one = 3; claimed = refl; node = 2; holds = refl; grows = (keyset, full_leaf, refl, refl); others = others }
  where
    to_leaf : LeadsTo fork_root 15 2
    to_leaf = (1, record { span = record { low = 10; last = top }; node = 2 }, omega arith, refl, ((omega arith, omega arith), refl))

    bare : InOutset (graph_after forked) 2 15 → ⊥
    bare (r, is, (at, x, lt, eq, on)) = let e = ap (λ (z : Record). length z.edges) (same_Some full_leaf r is) in omega (arith, lt, e)

    keyset : InKeyset (graph_after forked) 2 15
    keyset = ((omega arith, along fork_root (at_root (fork_root, refl)) refl to_leaf (full_leaf, refl)), bare)

    others : (j : ℕ) → j ≢ 3 → turn_after forked j ≡ held 0 → IsLive (graph_after forked) j
    others zero ne mine = (fork_root, refl)
    others (suc zero) ne mine = (empty_record, refl)
    others (suc (suc zero)) ne mine = (full_leaf, refl)
    others (suc (suc (suc zero))) ne mine = absurd (ne refl)
    others (suc (suc (suc (suc j)))) ne mine =
        let i : ℕ = suc (suc (suc (suc j))) in
        let e = cond_else i 3 (held 0) (cond (i == 2) (held 0) (cond (i == 1) (held 0) (cond (i == 0) (held 0) (cond (i == 0) idle free)))) (λ e. omega arith)
        ∙ cond_else i 2 (held 0) (cond (i == 1) (held 0) (cond (i == 0) (held 0) (cond (i == 0) idle free))) (λ e. omega arith)
        ∙ cond_else i 1 (held 0) (cond (i == 0) (held 0) (cond (i == 0) idle free)) (λ e. omega arith)
        ∙ cond_else i 0 (held 0) (cond (i == 0) idle free) (λ e. omega arith) ∙ cond_else i 0 idle free (λ e. omega arith) in
        let x : free ≡ held 0 = sym e ∙ mine in absurd (cc)

-- it is not beside a full leaf whose keyset lacks the place
not_beside_another_leaf : HoldsLiveBut bst_layout 5 forked 0 → ⊥
not_beside_another_leaf but = go but.node but.grows
  where
    no_edge_on : (r : Record) (m : ℕ) → length r.edges ≡ 0 → LeadsTo r 5 m → ⊥
    no_edge_on r m none (at, x, lt, eq, on) = omega (arith, lt, none)

    forth : (m : ℕ) → LeadsTo fork_root 5 m → m ≡ 1
    forth m (zero, x, lt, is, on) = sym on.1 ∙ ap (λ (e : Edge). e.node) (sym is)
    forth m (suc zero, x, lt, is, on) = let low = ap (λ (e : Edge). e.span.low) is in absurd (omega (arith, on.0.0, low))
    forth m (suc (suc k), x, lt, is, on) = absurd (omega (arith, lt))

    reached : (m : ℕ) → Reaches (graph_after forked) 5 m → (m ≡ 0) ⊎ (m ≡ 1)
    reached zero way = inl refl
    reached (suc m) (along {n} r way is leads live) = elim (reached n way) [
      | inl root ↦ let same : fork_root ≡ r = same_Some fork_root r (subst (λ (i : ℕ). record_at (graph_after forked) i ≡ Some r) root is) in inr (forth (suc m) (subst (λ (z : Record). LeadsTo z 5 (suc m)) (sym same) leads))
      | inr leaf ↦ let same : empty_record ≡ r = same_Some empty_record r (subst (λ (i : ℕ). record_at (graph_after forked) i ≡ Some r) leaf is) in absurd (no_edge_on r (suc m) (ap (λ (z : Record). length z.edges) (sym same)) leads)
    ]

    go : (n : ℕ) → MayGrow bst_layout (graph_after forked) n 5 → ⊥
    go n grows = elim (reached n grows.0.0.1) [
      | inl root ↦ let same : fork_root ≡ grows.1 = same_Some fork_root grows.1 (subst (λ (i : ℕ). record_at (graph_after forked) i ≡ Some grows.1) root grows.2) in omega (arith, grows.3, ap (λ (z : Record). length z.pairs) same)
      | inr leaf ↦ let same : empty_record ≡ grows.1 = same_Some empty_record grows.1 (subst (λ (i : ℕ). record_at (graph_after forked) i ≡ Some grows.1) leaf grows.2) in omega (arith, grows.3, ap (λ (z : Record). length z.pairs) same)
    ]

-- and under a layout of B+ trees only the root grows, which is not full here
not_beside_leaf_of_bplus : HoldsLiveBut bplus_layout 15 forked 0 → ⊥
not_beside_leaf_of_bplus but =
    let root : record_at (graph_after forked) but.node ≡ Some fork_root = ap (λ (i : ℕ). record_at (graph_after forked) i) but.grows.0 in
    let same : fork_root ≡ but.grows.1 = same_Some fork_root but.grows.1 (sym root ∙ but.grows.2) in
    elim but.grows.3 [
      | inl pairs ↦ omega (arith, pairs, ap (λ (z : Record). length z.pairs) same)
      | inr edges ↦ omega (arith, same_Some 16 (length but.grows.1.edges) edges, ap (λ (z : Record). length z.edges) same)
    ]

-- the node of `one_moved` moved, by the law: each Shape there leaves the insets of the nodes that it does not name

abbrev two_changes : NewState → NewState → List Change
two_changes s t = record { node = 0; state = s } ∷ record { node = 1; state = t } ∷ []

past_one : (s t : NewState) (i : ℕ) → All (λ x. x.node ≢ i) (two_changes s t) → (j : ℕ) × (i ≡ suc (suc j))
past_one s t zero apart = absurd (apart 0 (record { node = 0; state = s }) (omega arith) refl)
past_one s t (suc zero) apart = absurd (apart 1 (record { node = 0; state = s }) (omega arith) refl)
past_one s t (suc (suc j)) apart = (j, refl)

both_changes : (P : Change → Type 0) (s t : NewState) → P (record { node = 0; state = s }) → P (record { node = 1; state = t }) → All P (two_changes s t)
both_changes P s t p q = All-cons P (record { node = 0; state = s }) (record { node = 1; state = t } ∷ []) p (All-cons P (record { node = 1; state = t }) [] q (All-nil P))

one_moved_by_law : MovedDue 0 (Get 5) grown (freed ∷ grown) 1
one_moved_by_law = moved_due 0 1 5 (Get 5) grown grown (freed ∷ grown) (freed ∷ grown) (begins_self grown) (begins_append (freed ∷ []) grown) (begins_self (freed ∷ grown)) refl
    turns (((((tt, tt), tt), first), second)) (spare_others 0 1 (freed ∷ []) ((λ e. omega arith), tt))
    (inr (0, to_one, refl, leads))
    ((omega arith), along to_one (at_root (to_one, refl)) refl leads (empty_record, refl))
    (λ inset. let live : IsLive (graph_after (freed ∷ grown)) 1 = reached_live inset.1 in let x : None ≡ Some live.0 = live.1 in cc)
  where
    leads : LeadsTo to_one 5 1
    leads = (0, record { span = record { low = 0; last = top }; node = 1 }, omega arith, refl, ((omega arith, omega arith), refl))

    turns : AreInTurn (freed ∷ grown)
    turns = (
      (((tt, refl), refl), both_changes (λ x. turn_after (Claim 1 1 ∷ Take 1 0 ∷ []) x.node ≡ held 1) (BecomesLive to_one blank_frame) (BecomesLive empty_record blank_frame) refl refl),
      both_changes (λ x. turn_after grown x.node ≡ held 1) (BecomesLive empty_record blank_frame) BecomesFree refl refl,
    )

    none_live : (j : ℕ) → IsLive (graph_after (Claim 1 1 ∷ Take 1 0 ∷ [])) (suc (suc j)) → ⊥
    none_live j live =
        let i : ℕ = suc (suc j) in
        let x : None ≡ Some live.0 = sym (ap live_record (cond_else i 1 (Claimed 1) (opening i) (λ e. omega arith))) ∙ live.1 in cc

    none_grown : (j : ℕ) → IsLive (graph_after grown) (suc (suc j)) → ⊥
    none_grown j live =
        let i : ℕ = suc (suc j) in
        let e = cond_else i 0 (Live to_one) (cond (i == 1) (Live empty_record) (cond (i == 1) (Claimed 1) (opening i))) (λ e. omega arith)
        ∙ cond_else i 1 (Live empty_record) (cond (i == 1) (Claimed 1) (opening i)) (λ e. omega arith) in
        none_live j (live.0, sym (ap live_record e) ∙ live.1)

    first : (i p : ℕ) → All (λ x. x.node ≢ i) (two_changes (BecomesLive to_one blank_frame) (BecomesLive empty_record blank_frame)) → InInset (graph_after (Claim 1 1 ∷ Take 1 0 ∷ [])) i p → InInset (graph_after grown) i p
    first i p apart inset =
        let past = past_one (BecomesLive to_one blank_frame) (BecomesLive empty_record blank_frame) i apart in
        absurd (none_live past.0 (subst (IsLive (graph_after (Claim 1 1 ∷ Take 1 0 ∷ []))) past.1 (reached_live inset.1)))

    second : (i p : ℕ) → All (λ x. x.node ≢ i) (two_changes (BecomesLive empty_record blank_frame) BecomesFree) → InInset (graph_after grown) i p → InInset (graph_after (freed ∷ grown)) i p
    second i p apart inset =
        let past = past_one (BecomesLive empty_record blank_frame) BecomesFree i apart in
        absurd (none_grown past.0 (subst (IsLive (graph_after grown)) past.1 (reached_live inset.1)))

-- caller 0 takes the root and its one child, and collapses them: the root then counts as one step deep, as a node is gone

abbrev twig : List Event
twig = Give 0 1 ∷ Give 0 0 ∷ Shape 0 (record { node = 0; state = BecomesLive to_one blank_frame } ∷ record { node = 1; state = BecomesLive empty_record blank_frame } ∷ []) ∷ Claim 0 1 ∷ Take 0 0 ∷ []

abbrev both_taken : List Event
both_taken = Take 0 1 ∷ Take 0 0 ∷ twig

abbrev collapse : List Change
collapse = record { node = 0; state = BecomesLive empty_record blank_frame } ∷ record { node = 1; state = BecomesFree } ∷ []

collapse_counts : IsDeep 2 0 (1 ∷ []) twig (Shape 0 collapse ∷ both_taken) 1 0
collapse_counts = deep_freeing 2 0 collapse [] twig both_taken (Shape 0 collapse ∷ both_taken) 0 0 1 (record { rest = []; is = refl; others = tt }) turns
    (record { one = one; root = none_to_root })
    (both_changes (λ x. HeldUnder both_taken 0 0 x.node) (BecomesLive empty_record blank_frame) BecomesFree the_node (target to_one the_node refl refl (0, record { span = record { low = 0; last = top }; node = 1 }, omega arith, refl, refl)))
    (inl refl) (omega arith) refl (empty_record, refl) refl
    (deep_at_root 2 0 twig both_taken (begins_append (Take 0 1 ∷ Take 0 0 ∷ []) twig))
  where
    turns : AreInTurn (Shape 0 collapse ∷ both_taken)
    turns = (
      (((((((tt, refl), refl), both_changes (λ x. turn_after (Claim 0 1 ∷ Take 0 0 ∷ []) x.node ≡ held 0) (BecomesLive to_one blank_frame) (BecomesLive empty_record blank_frame) refl refl), refl), refl), refl), refl),
      both_changes (λ x. turn_after both_taken x.node ≡ held 0) (BecomesLive empty_record blank_frame) BecomesFree refl refl,
    )

    twig_is : (i : ℕ) (r : Record) → record_at (graph_after both_taken) i ≡ Some r → ((i ≡ 0) × (r ≡ to_one)) ⊎ (r ≡ empty_record)
    twig_is zero r is = inl (refl, sym (same_Some to_one r is))
    twig_is (suc zero) r is = inr (sym (same_Some empty_record r is))
    twig_is (suc (suc j)) r is =
        let i : ℕ = suc (suc j) in
        let shaped : ℕ → NodeState = graph_after (Shape 0 (record { node = 0; state = BecomesLive to_one blank_frame } ∷ record { node = 1; state = BecomesLive empty_record blank_frame } ∷ []) ∷ Claim 0 1 ∷ Take 0 0 ∷ []) in
        let e = cond_else i 1 (given (graph_after (Give 0 0 ∷ Shape 0 (record { node = 0; state = BecomesLive to_one blank_frame } ∷ record { node = 1; state = BecomesLive empty_record blank_frame } ∷ []) ∷ Claim 0 1 ∷ Take 0 0 ∷ []) 1)) (cond (i == 0) (given (shaped 0)) (shaped i)) (λ e. omega arith)
        ∙ cond_else i 0 (given (shaped 0)) (shaped i) (λ e. omega arith)
        ∙ cond_else i 0 (Live to_one) (cond (i == 1) (Live empty_record) (cond (i == 1) (Claimed 0) (opening i))) (λ e. omega arith)
        ∙ cond_else i 1 (Live empty_record) (cond (i == 1) (Claimed 0) (opening i)) (λ e. omega arith)
        ∙ cond_else i 1 (Claimed 0) (opening i) (λ e. omega arith) in
        let x : None ≡ Some r = sym (ap live_record e) ∙ is in absurd (cc)

    no_edge : (r : Record) (m : ℕ) → r ≡ empty_record → Any (λ e. e.node ≡ m) r.edges → ⊥
    no_edge r m is leads = let e = ap (λ (t : Record). length t.edges) is in omega (arith, leads.2, e)

    to_one_alone : (m : ℕ) → Any (λ e. e.node ≡ m) to_one.edges → m ≡ 1
    to_one_alone m (zero, d, lt, is, to) = sym to ∙ ap (λ (e : Edge). e.node) (sym is)
    to_one_alone m (suc k, d, lt, is, to) = absurd (omega arith)

    one : (n m b : ℕ) (r s : Record) → record_at (graph_after both_taken) n ≡ Some r → record_at (graph_after both_taken) m ≡ Some s → Any (λ e. e.node ≡ b) r.edges → Any (λ e. e.node ≡ b) s.edges → n ≡ m
    one n m b r s is is' leads leads' = go (twig_is n r is) (twig_is m s is')
      where
        go : ((n ≡ 0) × (r ≡ to_one)) ⊎ (r ≡ empty_record) → ((m ≡ 0) × (s ≡ to_one)) ⊎ (s ≡ empty_record) → n ≡ m
        go (inl x) (inl y) = x.0 ∙ sym y.0
        go (inr none) y = absurd (no_edge r b none leads)
        go (inl x) (inr none) = absurd (no_edge s b none leads')

    none_to_root : (n : ℕ) (r : Record) → record_at (graph_after both_taken) n ≡ Some r → ¬ Any (λ e. e.node ≡ 0) r.edges
    none_to_root n r is leads = go (twig_is n r is)
      where
        go : ((n ≡ 0) × (r ≡ to_one)) ⊎ (r ≡ empty_record) → ⊥
        go (inl x) = let e = to_one_alone 0 (subst (λ (t : Record). Any (λ e. e.node ≡ 0) t.edges) x.1 leads) in omega arith
        go (inr none) = no_edge r 0 none leads
