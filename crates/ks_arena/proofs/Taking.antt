-- What an exchange on a turn word leaves a pass with.
use Rattle.std.proofs.Common.{◌≡◌, ◌≢◌, ℕ, ◌<◌, ◌∷◌, refl, sym, ap, ◌∙◌, subst, List}
use Rattle.std.specs.Prelude.{Some, true}
use Rattle.atomic_table.specs.Table.{rest}
use Rattle.atomic_table.specs.Seated.{TableId}
use Rattle.ks_keysets.specs.declared.NodeState.{NodeState}
use Rattle.ks_keysets.specs.declared.NodeState.TheVariants.{Live}
use Rattle.ks_keysets.specs.declared.Frame.{Frame}
use Rattle.ks_keysets.specs.declared.Change.{Change}
use Rattle.ks_history.specs.declared.Event.TheVariants.{Take}
use Rattle.ks_history.specs.Own.{hand}
use Rattle.ks_history.specs.Passes.{Has}
use Rattle.ks_history.specs.Laws.Begins.{take_hand}
use Rattle.ks_arena.specs.declared.held.Held.{Held as Hand}
use Rattle.ks_arena.specs.declared.held.Pass.{Pass}
use Rattle.ks_node.specs.Body.{Body, frame_of}
use Rattle.ks_node.specs.Edges.{record_of}
use Rattle.ks_arena.specs.Laws.Tells.{looked_none, looked_both, kept_none, kept_both, taken_later}
use Rattle.ks_arena.specs.Plays.{Seated, TookAt, slot_in}
use Rattle.ks_arena.specs.Sound.{Sort, Sound}
use Rattle.ks_arena.specs.Clauses.{IsPass, HasLooked, HasTaken, Kept, hand_of, seen_of}
use Rattle.ks_arena.proofs.Hold.{top_same, holds_not, makes_grows}
use Rattle.ks_arena.proofs.Lies.{slot_top, slot_next}
use Rattle.ks_arena.proofs.After.{pass_again, Looked, looked, Gained, gained}

module _ {N D : Type 0} (sort : Sort) (begins : Frame → Type 0) (asks : (ℕ → NodeState) → (ℕ → Frame) → List Change → Type 0) (t : TableId) (callers : ℕ) where
  -- the pass q has come out of p by looks only
  pub record Waited (p q : Pass N D) : Type 0 where
    pub pass : IsPass sort begins asks t callers q
    pub caller : q.caller ≡ p.caller
    pub looked : HasLooked p.caller (seen_of p) (seen_of q)
    pub kept : Kept p.caller (seen_of p) (seen_of q)
    pub slots : q.seat.me.1 ≡ p.seat.me.1

  pub waited_none : (p : Pass N D) → IsPass sort begins asks t callers p → Waited p p
  waited_none p is = record { pass = is; caller = refl; looked = looked_none p.caller (seen_of p); kept = kept_none p.caller (seen_of p); slots = refl }

  still_fresh : (i : ℕ) (p q : Pass N D) → Waited p q → ¬ Has (hand_of p) i → ¬ Has (hand_of q) i
  still_fresh i p q so fresh = λ has. fresh (subst (λ (z : List ℕ). Has z i) (ap (λ (z : ℕ). hand z (seen_of q)) so.caller ∙ so.looked.hand) has)

  module _ (shows : N → Body) (i : ℕ) where
    -- q came out of p by looks, and then took node i, whose body lies in its slot
    pub record Caught (p q : Pass N D) (x : Hand N) : Type 0 where
      pub pass : IsPass sort begins asks t callers q
      pub took : HasTaken sort shows p.caller i (seen_of p) (seen_of q) x
      pub kept : Kept p.caller (seen_of p) (seen_of q)
      pub lies : slot_in i q.seat.me.1 ≡ Some x.body
      pub slots : (j : ℕ) → j ≢ i → slot_in j q.seat.me.1 ≡ slot_in j p.seat.me.1

    -- the exchange found it idle
    caught_now : (r : ℕ) (p q : Pass N D) (m : Seated N) (b : N) → IsPass sort begins asks t callers p → i < t.slots → ¬ Has (hand_of p) i → TookAt sort begins asks shows t.slots p.caller i p.seat.me r m → r ≡ 1
        → m.1 ≡ (i, Some b) ∷ rest m.1 → q.caller ≡ p.caller → q.seat.table_id ≡ p.seat.table_id → q.seat.me ≡ m → Caught p q (record { node = i; live = true; body = b })
    caught_now r p q m b is near fresh at hit top whose table me = let told = at.0 hit in
        let same : Some told.1.0 ≡ Some b = (top_same i (Some told.1.0) (Some b) m.1 _ _ told.1.1 top).0 in let body : told.1.0 ≡ b = cc in
        let a : Gained sort begins asks t.slots p.caller i (Take p.caller i) p.seat.me m = gained sort begins asks t.slots p.caller i (Some told.1.0) (Take p.caller i) p.seat.me m near refl (λ h j. refl) (λ h j ne. (refl, λ blank. refl))
        (take_hand _ _ _ _ (makes_grows (Sound sort begins asks t.slots) _ p.seat.me.0 m.0 p.caller is.own told.0))
        is.own (holds_not t.slots p.seat.me.0.seen p.caller i p.seat.me.1 is.carries is.slots fresh) is.carries is.slots told.1.1 told.0 in record {
          pass = pass_again sort begins asks t callers p q m is whose table me a.follows a.carries a.slots a.sounds a.knows;
          took = subst (λ (z : Seated N). HasTaken sort shows p.caller i (seen_of p) z.0.seen (record { node = i; live = true; body = b })) (sym me) (record {
            node = refl;
            live = refl;
            matches = record { is = (told.1.2 ∙ ap (λ (z : N). Live (record_of (shows z))) body, told.1.3 ∙ ap (λ (z : N). frame_of (shows z)) body) };
            grows = a.grows;
            fresh = fresh;
            hand = a.hand_is;
            mine = a.mine_is;
          });
          kept = subst (λ (z : Seated N). Kept p.caller (seen_of p) z.0.seen) (sym me) a.kept;
          lies = ap (λ (z : Seated N). slot_in i z.1) me ∙ slot_top i (Some b) m.1 _ top;
          slots = λ j ne. ap (λ (z : Seated N). slot_in j z.1) me ∙ slot_next i j (Some told.1.0) m.1 _ ne told.1.1;
        }

    pub caught : (r : ℕ) (start p q : Pass N D) (m : Seated N) (b : N) → Waited start p → i < t.slots → ¬ Has (hand_of start) i → TookAt sort begins asks shows t.slots p.caller i p.seat.me r m → r ≡ 1
        → m.1 ≡ (i, Some b) ∷ rest m.1 → q.caller ≡ p.caller → q.seat.table_id ≡ p.seat.table_id → q.seat.me ≡ m → Caught start q (record { node = i; live = true; body = b })
    caught r start p q m b so near fresh at hit top whose table me = let a = caught_now r p q m b so.pass near (still_fresh i start p so fresh) at hit top whose table me in let x : Hand N = record { node = i; live = true; body = b } in record {
      pass = a.pass;
      took = taken_later sort shows start.caller i (seen_of start) (seen_of p) (seen_of q) x so.looked (subst (λ (z : ℕ). HasTaken sort shows z i (seen_of p) (seen_of q) x) so.caller a.took);
      kept = kept_both start.caller (seen_of start) (seen_of p) (seen_of q) so.kept (subst (λ (z : ℕ). Kept z (seen_of p) (seen_of q)) so.caller a.kept);
      lies = a.lies;
      slots = λ j ne. a.slots j ne ∙ ap (slot_in j) so.slots;
    }

    -- the exchange found it held or free
    pub missed : (r : ℕ) (start p q : Pass N D) → Waited start p → TookAt sort begins asks shows t.slots p.caller i p.seat.me r q.seat.me → r ≢ 1 → q.caller ≡ p.caller → q.seat.table_id ≡ p.seat.table_id → Waited start q
    missed r start p q so at miss whose table = let told = at.1 miss in let is = so.pass in
        let a : Looked sort begins asks t.slots p.caller p.seat.me q.seat.me = looked sort begins asks t.slots p.caller p.seat.me q.seat.me is.own is.carries is.slots told.1 told.0 in
        let looks : HasLooked p.caller (seen_of p) (seen_of q) = record { grows = a.grows; hand = a.hand_is; mine = a.mine_is } in record {
          pass = pass_again sort begins asks t callers p q q.seat.me is whose table refl a.follows a.carries a.slots a.sounds a.knows;
          caller = whose ∙ so.caller;
          looked = looked_both start.caller (seen_of start) (seen_of p) (seen_of q) so.looked (subst (λ (z : ℕ). HasLooked z (seen_of p) (seen_of q)) so.caller looks);
          kept = kept_both start.caller (seen_of start) (seen_of p) (seen_of q) so.kept (subst (λ (z : ℕ). Kept z (seen_of p) (seen_of q)) so.caller a.kept);
          slots = told.1 ∙ so.slots;
        }
