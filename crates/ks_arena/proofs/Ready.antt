-- A call that is ready stays so while others act.
use Rattle.std.proofs.Common.{◌≡◌, ◌⊎◌, ℕ, List, sym, ap, ◌∙◌, subst}
use Rattle.std.specs.Prelude.{IsTrue, is_some}
use Rattle.ks_keysets.specs.declared.Frame.{Frame}
use Rattle.ks_keysets.specs.declared.NodeState.{NodeState}
use Rattle.ks_keysets.specs.declared.Change.{Change}
use Rattle.ks_keysets.specs.Layout.{Layout}
use Rattle.ks_keysets.specs.Keyset.{live_record, value_in, InKeyset, Good, opening}
use Rattle.ks_history.specs.declared.Op.{Op}
use Rattle.ks_history.specs.declared.Op.TheVariants.{Get, Put, Del, Add, Swap, Part, Move}
use Rattle.ks_history.specs.declared.Reply.{Reply}
use Rattle.ks_history.specs.Map.{moved}
use Rattle.ks_history.specs.declared.Reply.TheVariants.{Full}
use Rattle.ks_history.specs.declared.Event.{Event}
use Rattle.ks_history.specs.declared.Event.TheVariants.{Call, Twin}
use Rattle.ks_history.specs.Trace.{graph_after}
use Rattle.ks_history.specs.Lawful.{Meets, AnswersAtOne, MovesBetween}
use Rattle.ks_history.specs.Due.{HasNoRoomFor, FullDue, IsDue, last_call}
use Rattle.ks_history.specs.Passes.{GrowsByOthers}
use Rattle.ks_history.specs.Stays.{StaysHeld}
use Rattle.ks_history.specs.Laws.Begins.{by_others_begins, by_others_keeps, none_no_call}
use Rattle.ks_history.specs.Laws.Dues.{none_free_later, last_call_kept, no_room_kept, full_kept}
use Rattle.ks_flow.specs.Discipline.{IsDiscipline}
use Rattle.ks_arena.specs.Sound.{Sort}
use Rattle.ks_arena.specs.Laws.FromSound.{fine, unshaped}
use Rattle.ks_arena.proofs.Moves.{May}

due_kept : (layout : Layout) (n c i : ℕ) (op : Op) (reply : Reply) (seen h : List Event) → GrowsByOthers c seen h → graph_after h i ≡ graph_after seen i → IsDue layout n seen (Call c i op reply) → IsDue layout n h (Call c i op reply)
due_kept layout n c i op reply seen h grows same so full =
    let due = so full in
    let last : last_call c seen ≡ last_call c h = sym (ap (last_call c) grows.is ∙ last_call_kept c grows.rest seen (none_no_call c grows.rest grows.others)) in
    subst (λ (z : List Event). FullDue layout n z h (Call c i op reply)) last record {
      place = due.place;
      no_room = (no_room_kept layout (graph_after seen) (graph_after h) i due.place op same due.no_room.0, due.no_room.1);
      none_free = none_free_later layout n c due.place (last_call c seen) seen h (by_others_begins c seen h grows) due.none_free;
    }

-- the same of a move between two nodes

between_kept : (g k : ℕ → NodeState) (i j : ℕ) (op : Op) (reply : Reply) → ((p : ℕ) → InKeyset g i p → InKeyset k i p) → ((p : ℕ) → InKeyset g j p → InKeyset k j p) → k i ≡ g i → k j ≡ g j → MovesBetween g i j op reply → MovesBetween k i j op reply
between_kept g k i j (Get p) reply here there same too so = absurd so
between_kept g k i j (Put p v) reply here there same too so = absurd so
between_kept g k i j (Del p) reply here there same too so = absurd so
between_kept g k i j (Add p v) reply here there same too so = absurd so
between_kept g k i j (Swap p old new) reply here there same too so = absurd so
between_kept g k i j (Part low last) reply here there same too so = absurd so
between_kept g k i j (Move from to) reply here there same too so = (
  here from so.0,
  there to so.1,
  subst (λ (z : NodeState × NodeState). (reply ≡ moved (value_in (live_record z.0) from) (value_in (live_record z.1) to)) ⊎ (reply ≡ Full)) (λ l. (sym same l, sym too l)) so.2,
)

no_room_for_kept : (layout : Layout) (g k : ℕ → NodeState) (i j place : ℕ) (op : Op) → k i ≡ g i → k j ≡ g j → HasNoRoomFor layout g i j op place → HasNoRoomFor layout k i j op place
no_room_for_kept layout g k i j place (Get p) same too so = absurd so
no_room_for_kept layout g k i j place (Put p v) same too so = absurd so
no_room_for_kept layout g k i j place (Del p) same too so = absurd so
no_room_for_kept layout g k i j place (Add p v) same too so = absurd so
no_room_for_kept layout g k i j place (Swap p old new) same too so = absurd so
no_room_for_kept layout g k i j place (Part low last) same too so = absurd so
no_room_for_kept layout g k i j place (Move from to) same too so =
    (so.0, so.1, full_kept layout g k j to too so.2, subst (λ (z : NodeState). IsTrue (is_some (value_in (live_record z) from))) (sym same) so.3)

twin_due_kept : (layout : Layout) (n c i j : ℕ) (op : Op) (reply : Reply) (seen h : List Event) → GrowsByOthers c seen h → graph_after h i ≡ graph_after seen i → graph_after h j ≡ graph_after seen j → IsDue layout n seen (Twin c i j op reply) → IsDue layout n h (Twin c i j op reply)
twin_due_kept layout n c i j op reply seen h grows same too so full =
    let due = so full in
    let last : last_call c seen ≡ last_call c h = sym (ap (last_call c) grows.is ∙ last_call_kept c grows.rest seen (none_no_call c grows.rest grows.others)) in
    subst (λ (z : List Event). FullDue layout n z h (Twin c i j op reply)) last record {
      place = due.place;
      no_room = (no_room_for_kept layout (graph_after seen) (graph_after h) i j due.place op same too due.no_room.0, due.no_room.1);
      none_free = none_free_later layout n c due.place (last_call c seen) seen h (by_others_begins c seen h grows) due.none_free;
    }

module _ (sort : Sort) {begins : Frame → Type 0} {facts : (ℕ → NodeState) → (ℕ → Frame) → Type 0} {asks : (ℕ → NodeState) → (ℕ → Frame) → List Change → Type 0} {lasts : (ℕ → NodeState) → (ℕ → Frame) → (ℕ → NodeState) → (ℕ → Frame) → Type 0} {beside : ℕ → (ℕ → NodeState) → (ℕ → NodeState) → Type 0}
    (laws : IsDiscipline begins facts asks lasts beside) (good_opening : Good opening) (nodes : ℕ) where
  -- a lawful and due call may be made whatever others do before it
  pub may_call : (c i : ℕ) (op : Op) (reply : Reply) (seen : List Event) → Meets seen (Call c i op reply) → IsDue sort.layout nodes seen (Call c i op reply) → May sort begins asks nodes c seen (Call c i op reply)
  may_call c i op reply seen meets due h grows so = let stays : StaysHeld c i seen h = by_others_keeps c i seen h grows (fine sort laws good_opening nodes h so).turns meets.0 in let keys = (unshaped sort laws good_opening nodes c i seen h grows stays.turn so).keyset in (
    (
      stays.turn,
      (λ p t. keys.forth p (meets.1 p t)),
      subst (λ (z : NodeState). AnswersAtOne (λ p. value_in (live_record z) p) op reply) (sym stays.state) meets.2,
    ),
    due_kept sort.layout nodes c i op reply seen h grows stays.state due,
  )

  -- and so may one at two nodes
  pub may_twin : (c i j : ℕ) (op : Op) (reply : Reply) (seen : List Event) → Meets seen (Twin c i j op reply) → IsDue sort.layout nodes seen (Twin c i j op reply) → May sort begins asks nodes c seen (Twin c i j op reply)
  may_twin c i j op reply seen meets due h grows so =
      let turns = (fine sort laws good_opening nodes h so).turns in
      let here : StaysHeld c i seen h = by_others_keeps c i seen h grows turns meets.0 in
      let there : StaysHeld c j seen h = by_others_keeps c j seen h grows turns meets.1 in
      let keys = (unshaped sort laws good_opening nodes c i seen h grows here.turn so).keyset in
      let others = (unshaped sort laws good_opening nodes c j seen h grows there.turn so).keyset in (
        (here.turn, there.turn, between_kept (graph_after seen) (graph_after h) i j op reply keys.forth others.forth here.state there.state meets.2),
        twin_due_kept sort.layout nodes c i j op reply seen h grows here.state there.state due,
      )
