-- What follows from a sound trace: it is lawful, its graph is good and has the facts of the discipline at every
-- beginning, and what a caller holds keeps its keyset.
use Rattle.std.proofs.Common.{◌≡◌, ◌≢◌, ℕ, zero, suc, ◌==◌, ◌||◌, Bool, true, false, cond, not, List, [], ◌∷◌, ◌++◌, sym, refl, ap, ◌∙◌, subst, arith, ne_eqb, inr}
use Rattle.std.specs.Prelude.{Option, Some, None, is_some, All, Any, AllPairs, nat_lt}
use Rattle.std.proofs.lemmas.List.Elements.{All-cons, All-head, All-tail, All-weaker, All-filter, All-nil}
use Rattle.std.proofs.lemmas.List.Kept.{AllPairs-cons, AllPairs-filter}
use mathlib.Core.Logic.{dite}
use native.Mathlib.Decide.{ℕ_discrete}
use Rattle.ks_keysets.specs.declared.Frame.{Frame}
use Rattle.ks_keysets.specs.declared.Pair.{Pair}
use Rattle.ks_keysets.specs.declared.Record.{Record}
use Rattle.ks_keysets.specs.declared.NodeState.{NodeState}
use Rattle.ks_keysets.specs.declared.NodeState.TheVariants.{Free, Claimed, Live}
use Rattle.ks_keysets.specs.declared.Change.{Change}
use Rattle.ks_keysets.specs.Record.{Carries, first_value}
use Rattle.ks_keysets.specs.Frame.{empty_record}
use Rattle.ks_keysets.specs.Keyset.{opening, live_record, record_at, IsLive, InKeyset, Good}
use Rattle.ks_history.specs.declared.Op.{Op}
use Rattle.ks_history.specs.declared.Op.TheVariants.{Get, Put, Del, Add, Swap, Part, Move}
use Rattle.ks_history.specs.declared.Reply.{Reply}
use Rattle.ks_history.specs.declared.Reply.TheVariants.{Nothing, Value, Full, Listed, Kept}
use Rattle.ks_history.specs.declared.Event.{Event}
use Rattle.ks_history.specs.declared.Event.TheVariants.{Take, Give, Claim, Shape, Call, Twin}
use Rattle.ks_history.specs.Write.{Write, keeps, sets, removes, moves, written, taken_out, put_in, with_value, with_new, pairs_set, pairs_without, pairs_with}
use Rattle.ks_history.specs.Map.{Touches}
use Rattle.ks_history.specs.Trace.{◌⊑◌, free, idle, held, turn_given, given, state_with, written_at, graph_after, turn_after, caller_of}
use Rattle.ks_history.specs.Frames.{frame_after}
use Rattle.ks_history.specs.Lawful.{Meets, MovesBetween, Lawful, GoodThroughout, at_opening, and_then}
use Rattle.ks_history.specs.Due.{FullsDue}
use Rattle.ks_history.specs.Callers.{NoneBy}
use Rattle.ks_history.specs.Passes.{GrowsByOthers}
use Rattle.ks_history.specs.Laws.Stays.{IsInTurn, AreInTurn, cond_here, cond_else, written_else, twice_else, shaped_else, held_apart, other_turn}
use Rattle.ks_history.specs.Laws.Begins.{good_now, by_others_keeps}
use Rattle.ks_flow.specs.Changes.{nodes_of}
use Rattle.ks_flow.specs.Ways.{names}
use Rattle.ks_flow.specs.Tree.{SameEdges}
use Rattle.ks_flow.specs.Discipline.{SameKeyset, IsDiscipline}
use Rattle.ks_arena.specs.Sound.{Sort, blank_of, Sound, StepsSoundly}

-- turns and states

-- a node whose turn is free is free, and one whose turn is idle is live
pub record IsRested (h : List Event) (i : ℕ) : Type 0 where
  pub free_is : turn_after h i ≡ free → graph_after h i ≡ Free
  pub idle_is : turn_after h i ≡ idle → IsLive (graph_after h) i

not_held_free : (c : ℕ) → held c ≡ free → ⊥
not_held_free c e = cc

not_held_idle : (c : ℕ) → held c ≡ idle → ⊥
not_held_idle c e = cc

-- a node that becomes held
rested_held : (e : Event) (h : List Event) (c i : ℕ) → turn_after (e ∷ h) i ≡ held c → IsRested (e ∷ h) i
rested_held e h c i now = record { free_is = λ z. absurd (not_held_free c (sym now ∙ z)); idle_is = λ z. absurd (not_held_idle c (sym now ∙ z)) }

-- a node that stays
rested_kept : (e : Event) (h : List Event) (i : ℕ) → turn_after (e ∷ h) i ≡ turn_after h i → graph_after (e ∷ h) i ≡ graph_after h i → IsRested h i → IsRested (e ∷ h) i
rested_kept e h i t s so = record {
  free_is = λ z. s ∙ so.free_is (sym t ∙ z);
  idle_is = λ z. let r = so.idle_is (sym t ∙ z) in (r.0, ap live_record s ∙ r.1);
}

-- what a node is after a Give
rests_given : (s : NodeState) → (turn_given s ≡ free → given s ≡ Free) × (turn_given s ≡ idle → (r : Record) × (live_record (given s) ≡ Some r))
rests_given Free = ((λ z. refl), (λ z. absurd (let q : ⊥ = cc in q)))
rests_given (Claimed c) = ((λ z. refl), (λ z. absurd (let q : ⊥ = cc in q)))
rests_given (Live r) = ((λ z. absurd (let q : ⊥ = cc in q)), (λ z. (r, refl)))

rested_given : (c i : ℕ) (h : List Event) → IsRested (Give c i ∷ h) i
rested_given c i h = let t : turn_after (Give c i ∷ h) i ≡ turn_given (graph_after h i) = cond_here i i (turn_given (graph_after h i)) (turn_after h i) refl in let s : graph_after (Give c i ∷ h) i ≡ given (graph_after h i) = cond_here i i (given (graph_after h i)) (graph_after h i) refl in let so = rests_given (graph_after h i) in record {
  free_is = λ z. s ∙ so.0 (sym t ∙ z);
  idle_is = λ z. let r = so.1 (sym t ∙ z) in (r.0, ap live_record s ∙ r.1);
}

-- a Shape leaves what is not held by its caller
unnamed : (h : List Event) (c i : ℕ) (changes : List Change) → All (λ x. turn_after h x.node ≡ held c) changes → turn_after h i ≢ held c → All (λ x. x.node ≢ i) changes
unnamed h c i changes are never k x lt same = never (ap (turn_after h) (sym same) ∙ are k x lt)

pub rested : (h : List Event) → AreInTurn h → (i : ℕ) → IsRested h i
rested [] are zero = record { free_is = λ z. absurd (let e : idle ≡ free = z in let q : ⊥ = cc in q); idle_is = λ z. (empty_record, refl) }
rested [] are (suc i) = let t : turn_after [] (suc i) ≡ free = cond_else (suc i) 0 idle free (λ z. omega arith) in record { free_is = λ z. refl; idle_is = λ z. absurd (let e : free ≡ idle = sym t ∙ z in let q : ⊥ = cc in q) }
rested (Take c j ∷ h) are i = dite (ℕ_discrete i j) (λ s. rested_held (Take c j) h c i (cond_here i j (held c) (turn_after h i) s)) (λ n. rested_kept (Take c j) h i (cond_else i j (held c) (turn_after h i) n) refl (rested h are.0 i))
rested (Claim c j ∷ h) are i = dite (ℕ_discrete i j) (λ s. rested_held (Claim c j) h c i (cond_here i j (held c) (turn_after h i) s)) (λ n. rested_kept (Claim c j) h i (cond_else i j (held c) (turn_after h i) n) (cond_else i j (Claimed c) (graph_after h i) n) (rested h are.0 i))
rested (Give c j ∷ h) are i = dite (ℕ_discrete i j) (λ s. subst (λ (z : ℕ). IsRested (Give c z ∷ h) i) s (rested_given c i h)) (λ n. rested_kept (Give c j) h i (cond_else i j (turn_given (graph_after h j)) (turn_after h i) n) (cond_else i j (given (graph_after h j)) (graph_after h i) n) (rested h are.0 i))
rested (Shape c changes ∷ h) are i = let so = rested h are.0 i in record {
  free_is = λ z. shaped_else changes i (graph_after h i) (unnamed h c i changes are.1 (λ w. not_held_free c (sym w ∙ z))) ∙ so.free_is z;
  idle_is = λ z. let r = so.idle_is z in (r.0, ap live_record (shaped_else changes i (graph_after h i) (unnamed h c i changes are.1 (λ w. not_held_idle c (sym w ∙ z)))) ∙ r.1);
}
rested (Call c j op reply ∷ h) are i = dite (ℕ_discrete i j) (λ s. rested_held (Call c j op reply) h c i (ap (turn_after h) s ∙ are.1)) (λ n. rested_kept (Call c j op reply) h i refl (written_else (written op reply) j (graph_after h) i n) (rested h are.0 i))
rested (Twin c j k op reply ∷ h) are i = dite (ℕ_discrete i j)
    (λ s. rested_held (Twin c j k op reply) h c i (ap (turn_after h) s ∙ are.1.0))
    (λ n. dite (ℕ_discrete i k)
    (λ s. rested_held (Twin c j k op reply) h c i (ap (turn_after h) s ∙ are.1.1))
    (λ m. rested_kept (Twin c j k op reply) h i refl (twice_else (taken_out (written op reply)) (put_in (written op reply)) j k (graph_after h) i n m) (rested h are.0 i)))

-- events that are no Shape

same_edges : (g k : ℕ → NodeState) → ((n : ℕ) → record_at k n ≡ record_at g n) → SameEdges g k
same_edges g k same = record { forth = λ n r is. (r, same n ∙ is, refl); back = λ n s is. (s, sym (same n) ∙ is, refl) }

given_record : (s : NodeState) → live_record (given s) ≡ live_record s
given_record Free = refl
given_record (Claimed c) = refl
given_record (Live r) = refl

give_records : (c j : ℕ) (h : List Event) (n : ℕ) → record_at (graph_after (Give c j ∷ h)) n ≡ record_at (graph_after h) n
give_records c j h n = dite (ℕ_discrete n j) (λ s. ap live_record (cond_here n j (given (graph_after h j)) (graph_after h n) s) ∙ given_record (graph_after h j) ∙ ap (record_at (graph_after h)) (sym s)) (λ ne. ap live_record (cond_else n j (given (graph_after h j)) (graph_after h n) ne))

claim_records : (c j : ℕ) (h : List Event) → graph_after h j ≡ Free → (n : ℕ) → record_at (graph_after (Claim c j ∷ h)) n ≡ record_at (graph_after h) n
claim_records c j h is n = dite (ℕ_discrete n j) (λ s. ap live_record (cond_here n j (Claimed c) (graph_after h n) s) ∙ sym (ap live_record is) ∙ ap (record_at (graph_after h)) (sym s)) (λ ne. ap live_record (cond_else n j (Claimed c) (graph_after h n) ne))

-- the record of a node after a write
pub with_write : Write → Option Record → Option Record
with_write w None = None
with_write w (Some r) = Some (record { edges = r.edges; pairs = pairs_with r.pairs w })

written_record : (w : Write) (s : NodeState) → live_record (state_with w s) ≡ with_write w (live_record s)
unfolding with_write
written_record w Free = refl
written_record w (Claimed c) = refl
written_record w (Live r) = refl

-- the pairs that a write leaves are at places for which Q holds
pub places_in : (Q : ℕ → Type 0) → Write → Type 0
places_in Q keeps = Unit {0}
places_in Q (sets p v) = Q p
places_in Q (removes p) = Q p
places_in Q (moves from to v) = Q to

swap_places : (Q : ℕ → Type 0) (p new : ℕ) (b : Bool) → Q p → places_in Q (cond b (sets p new) keeps)
unfolding places_in
swap_places Q p new true so = so
swap_places Q p new false so = tt

written_in : (Q : ℕ → Type 0) (op : Op) (reply : Reply) → ((p : ℕ) → Touches op p → Q p) → places_in Q (written op reply)
unfolding places_in
written_in Q (Get p) reply so = tt
written_in Q (Put p v) Nothing so = so p refl
written_in Q (Put p v) (Value w) so = so p refl
written_in Q (Put p v) Full so = tt
written_in Q (Put p v) (Listed x) so = so p refl
written_in Q (Put p v) Kept so = so p refl
written_in Q (Del p) reply so = so p refl
written_in Q (Add p v) Nothing so = so p refl
written_in Q (Add p v) (Value w) so = tt
written_in Q (Add p v) Full so = tt
written_in Q (Add p v) (Listed x) so = tt
written_in Q (Add p v) Kept so = tt
written_in Q (Swap p old new) Nothing so = tt
written_in Q (Swap p old new) (Value w) so = swap_places Q p new (w == old) (so p refl)
written_in Q (Swap p old new) Full so = tt
written_in Q (Swap p old new) (Listed x) so = tt
written_in Q (Swap p old new) Kept so = tt
written_in Q (Part low last) reply so = tt
written_in Q (Move from to) Nothing so = tt
written_in Q (Move from to) (Value w) so = so to (inr refl)
written_in Q (Move from to) Full so = tt
written_in Q (Move from to) (Listed x) so = tt
written_in Q (Move from to) Kept so = tt

-- the same of what a move takes out, and of what it puts in
taken_in : (Q : ℕ → Type 0) (from to : ℕ) (reply : Reply) → Q from → places_in Q (taken_out (written (Move from to) reply))
unfolding places_in
taken_in Q from to Nothing so = tt
taken_in Q from to (Value w) so = so
taken_in Q from to Full so = tt
taken_in Q from to (Listed x) so = tt
taken_in Q from to Kept so = tt

put_in_in : (Q : ℕ → Type 0) (from to : ℕ) (reply : Reply) → Q to → places_in Q (put_in (written (Move from to) reply))
unfolding places_in
put_in_in Q from to Nothing so = tt
put_in_in Q from to (Value w) so = so
put_in_in Q from to Full so = tt
put_in_in Q from to (Listed x) so = tt
put_in_in Q from to Kept so = tt

module _ (Q : ℕ → Type 0) where
  abbrev At : Pair → Type 0
  At x = Q x.place

  all_with_value : (xs : List Pair) (p v : ℕ) → Q p → All (λ (x : Pair). Q x.place) xs → All (λ (x : Pair). Q x.place) (with_value xs p v)
  all_with_value [] p v q so = so
  all_with_value (x ∷ xs) p v q so = dite (ℕ_discrete x.place p)
      (λ s. subst (All (λ (x : Pair). Q x.place)) (sym (cond_here x.place p (record { place = p; value = v } ∷ xs) (x ∷ with_value xs p v) s)) (All-cons (λ (x : Pair). Q x.place) (record { place = p; value = v }) xs q (All-tail (λ (x : Pair). Q x.place) x xs so)))
      (λ n. subst (All (λ (x : Pair). Q x.place)) (sym (cond_else x.place p (record { place = p; value = v } ∷ xs) (x ∷ with_value xs p v) n)) (All-cons (λ (x : Pair). Q x.place) x (with_value xs p v) (All-head (λ (x : Pair). Q x.place) x xs so) (all_with_value xs p v q (All-tail (λ (x : Pair). Q x.place) x xs so))))

  either_list : (b : Bool) (xs ys : List Pair) → All (λ (x : Pair). Q x.place) xs → All (λ (x : Pair). Q x.place) ys → All (λ (x : Pair). Q x.place) (cond b xs ys)
  either_list true xs ys a b = a
  either_list false xs ys a b = b

  all_with_new : (xs : List Pair) (p v : ℕ) → Q p → All (λ (x : Pair). Q x.place) xs → All (λ (x : Pair). Q x.place) (with_new xs p v)
  all_with_new [] p v q so = All-cons (λ (x : Pair). Q x.place) (record { place = p; value = v }) [] q so
  all_with_new (x ∷ xs) p v q so = either_list (nat_lt p x.place) (record { place = p; value = v } ∷ x ∷ xs) (x ∷ with_new xs p v) (All-cons (λ (x : Pair). Q x.place) (record { place = p; value = v }) (x ∷ xs) q so)
      (All-cons (λ (x : Pair). Q x.place) x (with_new xs p v) (All-head (λ (x : Pair). Q x.place) x xs so) (all_with_new xs p v q (All-tail (λ (x : Pair). Q x.place) x xs so)))

  all_set : (xs : List Pair) (p v : ℕ) → Q p → All (λ (x : Pair). Q x.place) xs → All (λ (x : Pair). Q x.place) (pairs_set xs p v)
  all_set xs p v q so = either_list (is_some (first_value xs p)) (with_value xs p v) (with_new xs p v) (all_with_value xs p v q so) (all_with_new xs p v q so)

  pub all_with : (w : Write) (xs : List Pair) → places_in Q w → All (λ (x : Pair). Q x.place) xs → All (λ (x : Pair). Q x.place) (pairs_with xs w)
  unfolding places_in
  all_with keeps xs q so = so
  all_with (sets p v) xs q so = all_set xs p v q so
  all_with (removes p) xs q so = All-filter (λ (x : Pair). not (x.place == p)) (λ (x : Pair). Q x.place) xs so
  all_with (moves from to v) xs q so = all_set (pairs_without xs from) to v q (All-filter (λ (x : Pair). not (x.place == from)) (λ (x : Pair). Q x.place) xs so)

-- the pairs have different places
abbrev pub Once : List Pair → Type 0
Once xs = AllPairs (λ (x y : Pair). x.place ≡ y.place → ⊥) xs

once_head : (x : Pair) (xs : List Pair) → Once (x ∷ xs) → All (λ (y : Pair). x.place ≡ y.place → ⊥) xs
once_head x xs once k d lt = once 0 (suc k) d (omega arith) (omega arith)

once_tail : (x : Pair) (xs : List Pair) → Once (x ∷ xs) → Once xs
once_tail x xs once i j d lt within = once (suc i) (suc j) d (omega arith) (omega arith)

once_with_value : (xs : List Pair) (p v : ℕ) → Once xs → Once (with_value xs p v)
once_with_value [] p v once = once
once_with_value (x ∷ xs) p v once = dite (ℕ_discrete x.place p)
    (λ s. subst Once (sym (cond_here x.place p (record { place = p; value = v } ∷ xs) (x ∷ with_value xs p v) s)) (AllPairs-cons (λ (x y : Pair). x.place ≡ y.place → ⊥) (record { place = p; value = v }) xs (All-weaker (λ (y : Pair). x.place ≡ y.place → ⊥) (λ (y : Pair). p ≡ y.place → ⊥) (λ y h e. h (s ∙ e)) xs (once_head x xs once)) (once_tail x xs once)))
    (λ n. subst Once (sym (cond_else x.place p (record { place = p; value = v } ∷ xs) (x ∷ with_value xs p v) n)) (AllPairs-cons (λ (x y : Pair). x.place ≡ y.place → ⊥) x (with_value xs p v) (all_with_value (λ q. x.place ≡ q → ⊥) xs p v n (once_head x xs once)) (once_with_value xs p v (once_tail x xs once))))

either_once : (b : Bool) (xs ys : List Pair) → (b ≡ true → Once xs) → (b ≡ false → Once ys) → Once (cond b xs ys)
either_once true xs ys a b = a refl
either_once false xs ys a b = b refl

-- if nothing is found at a place, no pair has it
absent : (xs : List Pair) (p : ℕ) → is_some (first_value xs p) ≡ false → All (λ (y : Pair). y.place ≢ p) xs
absent [] p e = All-nil (λ (y : Pair). y.place ≢ p)
absent (x ∷ xs) p e = dite (ℕ_discrete x.place p)
    (λ s. let h : is_some (first_value (x ∷ xs) p) ≡ true = ap is_some (cond_here x.place p (Some x.value) (first_value xs p) s) in absurd (let q : true ≡ false = sym h ∙ e in let z : ⊥ = cc in z))
    (λ n. All-cons (λ (y : Pair). y.place ≢ p) x xs n (absent xs p (sym (ap is_some (cond_else x.place p (Some x.value) (first_value xs p) n)) ∙ e)))

once_with_new : (xs : List Pair) (p v : ℕ) → All (λ (y : Pair). y.place ≢ p) xs → Once xs → Once (with_new xs p v)
once_with_new [] p v none once = AllPairs-cons (λ (x y : Pair). x.place ≡ y.place → ⊥) (record { place = p; value = v }) [] (All-nil (λ (y : Pair). p ≡ y.place → ⊥)) once
once_with_new (x ∷ xs) p v none once = either_once (nat_lt p x.place) (record { place = p; value = v } ∷ x ∷ xs) (x ∷ with_new xs p v)
    (λ _. AllPairs-cons (λ (x y : Pair). x.place ≡ y.place → ⊥) (record { place = p; value = v }) (x ∷ xs) (All-weaker (λ (y : Pair). y.place ≢ p) (λ (y : Pair). p ≡ y.place → ⊥) (λ y h e. h (sym e)) (x ∷ xs) none) once)
    (λ _. AllPairs-cons (λ (x y : Pair). x.place ≡ y.place → ⊥) x (with_new xs p v) (all_with_new (λ q. x.place ≡ q → ⊥) xs p v (All-head (λ (y : Pair). y.place ≢ p) x xs none) (once_head x xs once)) (once_with_new xs p v (All-tail (λ (y : Pair). y.place ≢ p) x xs none) (once_tail x xs once)))

once_set : (xs : List Pair) (p v : ℕ) → Once xs → Once (pairs_set xs p v)
once_set xs p v once = either_once (is_some (first_value xs p)) (with_value xs p v) (with_new xs p v) (λ _. once_with_value xs p v once) (λ e. once_with_new xs p v (absent xs p e) once)

once_without : (xs : List Pair) (p : ℕ) → Once xs → Once (pairs_without xs p)
once_without xs p once = AllPairs-filter (λ (x y : Pair). x.place ≡ y.place → ⊥) (λ (x : Pair). not (x.place == p)) xs once

pub once_with : (w : Write) (xs : List Pair) → Once xs → Once (pairs_with xs w)
once_with keeps xs once = once
once_with (sets p v) xs once = once_set xs p v once
once_with (removes p) xs once = once_without xs p once
once_with (moves from to v) xs once = once_set (pairs_without xs from) to v (once_without xs from once)

-- good graphs with the same edges

-- each pair is in its node's keyset, once
pub record Stored (g : ℕ → NodeState) : Type 0 where
  pub stored : (n : ℕ) (r : Record) → record_at g n ≡ Some r → All (λ x. InKeyset g n x.place) r.pairs
  pub once : (n : ℕ) (r : Record) → record_at g n ≡ Some r → AllPairs (λ x y. x.place ≡ y.place → ⊥) r.pairs

pub good_along : (g k : ℕ → NodeState) → SameEdges g k → ((n : ℕ) → SameKeyset n g k) → Stored k → Good g → Good k
good_along g k same keys pairs good = record {
  root = let r = good.root in let s = same.forth 0 r.0 r.1 in (s.0, s.1);
  apart = λ n s is. let r = same.back n s is in subst (AllPairs (λ e f. (p : ℕ) → Carries e p → Carries f p → ⊥)) r.2 (good.apart n r.0 r.1);
  leads = λ n s is. let r = same.back n s is in subst (All (λ e. IsLive k e.node)) r.2 (All-weaker (λ e. IsLive g e.node) (λ e. IsLive k e.node) (λ e live. let t = same.forth e.node live.0 live.1 in (t.0, t.1)) r.0.edges (good.leads n r.0 r.1));
  one = λ n m p a b. good.one n m p ((keys n).back p a) ((keys m).back p b);
  some = λ p place. let x = good.some p place in (x.0, (keys x.0).forth p x.1);
  stored = pairs.stored;
  once = pairs.once;
}

stored_same : (g k : ℕ → NodeState) → ((n : ℕ) → record_at k n ≡ record_at g n) → ((n : ℕ) → SameKeyset n g k) → Good g → Stored k
stored_same g k same keys good = record {
  stored = λ n r is. All-weaker (λ x. InKeyset g n x.place) (λ x. InKeyset k n x.place) (λ x. (keys n).forth x.place) r.pairs (good.stored n r (sym (same n) ∙ is));
  once = λ n r is. good.once n r (sym (same n) ∙ is);
}

-- one node is written to
pub record WrittenAt (g k : ℕ → NodeState) (j : ℕ) (w : Write) : Type 0 where
  pub here : record_at k j ≡ with_write w (record_at g j)
  pub else : (n : ℕ) → n ≢ j → record_at k n ≡ record_at g n

writes_at : (w : Write) (j : ℕ) (g : ℕ → NodeState) → WrittenAt g (written_at w j g) j w
writes_at w j g = record {
  here = ap live_record (cond_here j j (state_with w (g j)) (g j) refl) ∙ written_record w (g j);
  else = λ n ne. ap live_record (written_else w j g n ne);
}

-- what a written record was
was_written : (w : Write) (o : Option Record) (s : Record) → with_write w o ≡ Some s → (r : Record) × (o ≡ Some r) × (s ≡ record { edges = r.edges; pairs = pairs_with r.pairs w })
unfolding with_write
was_written w None s e = absurd (let q : ⊥ = cc in q)
was_written w (Some r) s e = (r, refl, let q : record { edges = r.edges; pairs = pairs_with r.pairs w } ≡ s = cc in sym q)

now_written : (w : Write) (o : Option Record) (r : Record) → o ≡ Some r → with_write w o ≡ Some (record { edges = r.edges; pairs = pairs_with r.pairs w })
unfolding with_write
now_written w o r e = ap (with_write w) e

written_edges : (g k : ℕ → NodeState) (j : ℕ) (w : Write) → WrittenAt g k j w → SameEdges g k
written_edges g k j w so = record {
  forth = λ n r is. dite (ℕ_discrete n j)
      (λ s. (record { edges = r.edges; pairs = pairs_with r.pairs w }, ap (record_at k) s ∙ so.here ∙ now_written w (record_at g j) r (ap (record_at g) (sym s) ∙ is), refl))
      (λ ne. (r, so.else n ne ∙ is, refl));
  back = λ n s is. dite (ℕ_discrete n j)
      (λ e. let r = was_written w (record_at g j) s (sym so.here ∙ ap (record_at k) (sym e) ∙ is) in (r.0, ap (record_at g) e ∙ r.1, ap (λ (z : Record). z.edges) (sym r.2)))
      (λ ne. (s, sym (so.else n ne) ∙ is, refl));
}

edges_both : (g k m : ℕ → NodeState) → SameEdges g k → SameEdges k m → SameEdges g m
edges_both g k m a b = record {
  forth = λ n r is. let s = a.forth n r is in let t = b.forth n s.0 s.1 in (t.0, t.1, t.2 ∙ s.2);
  back = λ n s is. let r = b.back n s is in let q = a.back n r.0 r.1 in (q.0, q.1, q.2 ∙ r.2);
}

-- the write of a move between two nodes
pub twin_edges : (w x : Write) (i j : ℕ) (g : ℕ → NodeState) → SameEdges g (written_at x j (written_at w i g))
twin_edges w x i j g = let k : ℕ → NodeState = written_at w i g in edges_both g k (written_at x j k) (written_edges g k i w (writes_at w i g)) (written_edges k (written_at x j k) j x (writes_at x j k))

stored_of : (g : ℕ → NodeState) → Good g → Stored g
stored_of g good = record { stored = good.stored; once = good.once }

stored_written : (g k : ℕ → NodeState) (j : ℕ) (w : Write) → WrittenAt g k j w → ((n : ℕ) → SameKeyset n g k) → places_in (InKeyset k j) w → Stored g → Stored k
stored_written g k j w so keys within good = record {
  stored = λ n s is. dite (ℕ_discrete n j)
      (λ e. let r = was_written w (record_at g j) s (sym so.here ∙ ap (record_at k) (sym e) ∙ is) in
      subst (λ (z : Record). All (λ x. InKeyset k n x.place) z.pairs) (sym r.2) (subst (λ (z : ℕ). All (λ x. InKeyset k z x.place) (pairs_with r.0.pairs w)) (sym e)
      (all_with (InKeyset k j) w r.0.pairs within (All-weaker (λ x. InKeyset g j x.place) (λ x. InKeyset k j x.place) (λ x. (keys j).forth x.place) r.0.pairs (good.stored j r.0 r.1)))))
      (λ ne. All-weaker (λ x. InKeyset g n x.place) (λ x. InKeyset k n x.place) (λ x. (keys n).forth x.place) s.pairs (good.stored n s (sym (so.else n ne) ∙ is)));
  once = λ n s is. dite (ℕ_discrete n j)
      (λ e. let r = was_written w (record_at g j) s (sym so.here ∙ ap (record_at k) (sym e) ∙ is) in subst (λ (z : Record). Once z.pairs) (sym r.2) (once_with w r.0.pairs (good.once j r.0 r.1)))
      (λ ne. good.once n s (sym (so.else n ne) ∙ is));
}

-- the event is no Shape
abbrev pub IsPlain : Event → Type 0
IsPlain (Take c i) = Unit {0}
IsPlain (Give c i) = Unit {0}
IsPlain (Claim c i) = Unit {0}
IsPlain (Shape c changes) = ⊥
IsPlain (Call c i op reply) = Unit {0}
IsPlain (Twin c i j op reply) = Unit {0}

-- it leaves the edges
pub plain_edges : (h : List Event) (e : Event) → IsPlain e → AreInTurn h → IsInTurn h e → SameEdges (graph_after h) (graph_after (e ∷ h))
plain_edges h (Take c i) plain are may = same_edges (graph_after h) (graph_after h) (λ n. refl)
plain_edges h (Give c i) plain are may = same_edges (graph_after h) (graph_after (Give c i ∷ h)) (give_records c i h)
plain_edges h (Claim c i) plain are may = same_edges (graph_after h) (graph_after (Claim c i ∷ h)) (claim_records c i h ((rested h are i).free_is may))
plain_edges h (Shape c changes) plain are may = absurd plain
plain_edges h (Call c i op reply) plain are may = written_edges (graph_after h) (graph_after (Call c i op reply ∷ h)) i (written op reply) (writes_at (written op reply) i (graph_after h))
plain_edges h (Twin c i j op reply) plain are may = twin_edges (taken_out (written op reply)) (put_in (written op reply)) i j (graph_after h)

-- of a Shape, and of any other event
pub data Kind_of : Event → Type 0 where
  shapes_it : (c : ℕ) (changes : List Change) → Kind_of (Shape c changes)
  is_plain : {e : Event} → IsPlain e → Kind_of e

pub kind_of : (e : Event) → Kind_of e
kind_of (Take c i) = is_plain tt
kind_of (Give c i) = is_plain tt
kind_of (Claim c i) = is_plain tt
kind_of (Shape c changes) = shapes_it c changes
kind_of (Call c i op reply) = is_plain tt
kind_of (Twin c i j op reply) = is_plain tt

module _ (sort : Sort) {begins : Frame → Type 0} {facts : (ℕ → NodeState) → (ℕ → Frame) → Type 0} {asks : (ℕ → NodeState) → (ℕ → Frame) → List Change → Type 0} {lasts : (ℕ → NodeState) → (ℕ → Frame) → (ℕ → NodeState) → (ℕ → Frame) → Type 0} {beside : ℕ → (ℕ → NodeState) → (ℕ → NodeState) → Type 0}
    (laws : IsDiscipline begins facts asks lasts beside) (good_opening : Good opening) (nodes : ℕ) where
  -- what a sound trace has
  pub record IsFine (h : List Event) : Type 0 where
    pub lawful : Lawful h
    pub good : GoodThroughout h
    pub facts_now : facts (graph_after h) (frame_after (blank_of sort) h)
    pub turns : AreInTurn h

  in_turn : (h : List Event) (e : Event) → StepsSoundly sort begins asks nodes h e → IsInTurn h e
  in_turn h (Take c j) so = so
  in_turn h (Give c j) so = so
  in_turn h (Claim c j) so = so.0
  in_turn h (Shape c xs) so = so.0
  in_turn h (Call c j o y) so = so.0.0
  in_turn h (Twin c j k o y) so = (so.0.0, so.0.1)

  fine_plain : (h : List Event) (e : Event) → IsPlain e → IsFine h → IsInTurn h e → frame_after (blank_of sort) (e ∷ h) ≡ frame_after (blank_of sort) h → Meets h e → Stored (graph_after (e ∷ h)) → IsFine (e ∷ h)
  fine_plain h e is so may frames meets pairs = let same = plain_edges h e is so.turns may in record {
    lawful = (so.lawful, meets);
    good = and_then so.good (good_along (graph_after h) (graph_after (e ∷ h)) same (λ n. laws.keyset_along (graph_after h) (graph_after (e ∷ h)) n same) pairs (good_now so.good));
    facts_now = subst (facts (graph_after (e ∷ h))) (sym frames) (laws.facts_along (graph_after h) (graph_after (e ∷ h)) (frame_after (blank_of sort) h) same so.facts_now);
    turns = (so.turns, may);
  }

  fine_records : (h : List Event) (e : Event) → IsPlain e → IsFine h → IsInTurn h e → frame_after (blank_of sort) (e ∷ h) ≡ frame_after (blank_of sort) h → Meets h e → ((n : ℕ) → record_at (graph_after (e ∷ h)) n ≡ record_at (graph_after h) n) → IsFine (e ∷ h)
  fine_records h e is so may frames meets same = let edges = plain_edges h e is so.turns may in
      fine_plain h e is so may frames meets (stored_same (graph_after h) (graph_after (e ∷ h)) same (λ n. laws.keyset_along (graph_after h) (graph_after (e ∷ h)) n edges) (good_now so.good))

  -- a move takes out of one keyset, and puts into the other
  stored_twin : (g : ℕ → NodeState) (i j : ℕ) (op : Op) (reply : Reply) → MovesBetween g i j op reply → Good g → Stored (written_at (put_in (written op reply)) j (written_at (taken_out (written op reply)) i g))
  stored_twin g i j (Get p) reply between good = absurd between
  stored_twin g i j (Put p v) reply between good = absurd between
  stored_twin g i j (Del p) reply between good = absurd between
  stored_twin g i j (Add p v) reply between good = absurd between
  stored_twin g i j (Swap p old new) reply between good = absurd between
  stored_twin g i j (Part low last) reply between good = absurd between
  stored_twin g i j (Move from to) reply between good =
      let w : Write = taken_out (written (Move from to) reply) in let x : Write = put_in (written (Move from to) reply) in
      let k : ℕ → NodeState = written_at w i g in let m : ℕ → NodeState = written_at x j k in
      let first : (n : ℕ) → SameKeyset n g k = λ n. laws.keyset_along g k n (written_edges g k i w (writes_at w i g)) in
      let both : (n : ℕ) → SameKeyset n g m = λ n. laws.keyset_along g m n (twin_edges w x i j g) in
      let second : (n : ℕ) → SameKeyset n k m = λ n. laws.keyset_along k m n (written_edges k m j x (writes_at x j k)) in
      stored_written k m j x (writes_at x j k) second (put_in_in (InKeyset m j) from to reply ((both j).forth to between.1))
      (stored_written g k i w (writes_at w i g) first (taken_in (InKeyset k i) from to reply ((first i).forth from between.0)) (stored_of g good))

  pub fine : (h : List Event) → Sound sort begins asks nodes h → IsFine h
  fine [] so = record { lawful = tt; good = at_opening good_opening; facts_now = laws.opens (blank_of sort) so; turns = tt }
  fine (Take c i ∷ h) so = fine_records h (Take c i) tt (fine h so.0) so.1 refl so.1 (λ n. refl)
  fine (Give c i ∷ h) so = fine_records h (Give c i) tt (fine h so.0) so.1 refl so.1 (give_records c i h)
  fine (Claim c i ∷ h) so = let f = fine h so.0 in fine_records h (Claim c i) tt f so.1.0 refl so.1.0 (claim_records c i h ((rested h f.turns i).free_is so.1.0))
  fine (Shape c changes ∷ h) so = let f = fine h so.0 in let g : ℕ → NodeState = graph_after h in let fr : ℕ → Frame = frame_after (blank_of sort) h in let step = so.1 in record {
    lawful = (f.lawful, (step.0, step.1, laws.found g fr changes (good_now f.good) step.2));
    good = and_then f.good (laws.good g fr changes (good_now f.good) step.2);
    facts_now = laws.facts_after g fr changes step.2;
    turns = (f.turns, step.0);
  }
  fine (Call c i op reply ∷ h) so = let f = fine h so.0 in let e : Event = Call c i op reply in let edges = plain_edges h e tt f.turns so.1.0.0 in
      let keys : (n : ℕ) → SameKeyset n (graph_after h) (graph_after (e ∷ h)) = λ n. laws.keyset_along (graph_after h) (graph_after (e ∷ h)) n edges in
      fine_plain h e tt f so.1.0.0 refl so.1.0
      (stored_written (graph_after h) (graph_after (e ∷ h)) i (written op reply) (writes_at (written op reply) i (graph_after h)) keys (written_in (InKeyset (graph_after (e ∷ h)) i) op reply (λ p t. (keys i).forth p (so.1.0.1 p t))) (stored_of (graph_after h) (good_now f.good)))
  fine (Twin c i j op reply ∷ h) so = let f = fine h so.0 in
      fine_plain h (Twin c i j op reply) tt f (so.1.0.0, so.1.0.1) refl so.1.0 (stored_twin (graph_after h) i j op reply so.1.0.2 (good_now f.good))

  sound_older : (rest h : List Event) → Sound sort begins asks nodes (rest ++ h) → Sound sort begins asks nodes h
  sound_older [] h so = so
  sound_older (e ∷ rest) h so = sound_older rest h so.0

  -- a beginning of a sound trace is sound
  pub sound_begins : (k h : List Event) → k ⊑ h → Sound sort begins asks nodes h → Sound sort begins asks nodes k
  sound_begins k h begins' so = sound_older begins'.rest k (subst (Sound sort begins asks nodes) begins'.is so)

  pub fulls_due : (h : List Event) → Sound sort begins asks nodes h → FullsDue sort.layout nodes h
  fulls_due [] so = tt
  fulls_due (Take c i ∷ h) so = (fulls_due h so.0, tt)
  fulls_due (Give c i ∷ h) so = (fulls_due h so.0, tt)
  fulls_due (Claim c i ∷ h) so = (fulls_due h so.0, tt)
  fulls_due (Shape c changes ∷ h) so = (fulls_due h so.0, tt)
  fulls_due (Call c i op reply ∷ h) so = (fulls_due h so.0, so.1.1)
  fulls_due (Twin c i j op reply ∷ h) so = (fulls_due h so.0, so.1.1)

  frames_plain : (h : List Event) (e : Event) → IsPlain e → frame_after (blank_of sort) (e ∷ h) ≡ frame_after (blank_of sort) h
  frames_plain h (Take c i) plain = refl
  frames_plain h (Give c i) plain = refl
  frames_plain h (Claim c i) plain = refl
  frames_plain h (Shape c changes) plain = absurd plain
  frames_plain h (Call c i op reply) plain = refl
  frames_plain h (Twin c i j op reply) plain = refl

  -- what lasts under the discipline lasts from a beginning on
  lasts_one : (h : List Event) (e : Event) → Kind_of e → Sound sort begins asks nodes (e ∷ h) → lasts (graph_after h) (frame_after (blank_of sort) h) (graph_after (e ∷ h)) (frame_after (blank_of sort) (e ∷ h))
  lasts_one h e (shapes_it c changes) so = laws.lasts_after (graph_after h) (frame_after (blank_of sort) h) changes so.1.2
  lasts_one h e (is_plain is) so = subst (lasts (graph_after h) (frame_after (blank_of sort) h) (graph_after (e ∷ h))) (sym (frames_plain h e is)) (laws.lasts_along (graph_after h) (graph_after (e ∷ h)) (frame_after (blank_of sort) h) (plain_edges h e is (fine h so.0).turns (in_turn h e so.1)))

  lasts_on : (rest h : List Event) → Sound sort begins asks nodes (rest ++ h) → lasts (graph_after h) (frame_after (blank_of sort) h) (graph_after (rest ++ h)) (frame_after (blank_of sort) (rest ++ h))
  lasts_on [] h so = laws.lasts_along (graph_after h) (graph_after h) (frame_after (blank_of sort) h) (same_edges (graph_after h) (graph_after h) (λ n. refl))
  lasts_on (e ∷ rest) h so = laws.lasts_on (graph_after h) (graph_after (rest ++ h)) (graph_after (e ∷ (rest ++ h))) (frame_after (blank_of sort) h) (frame_after (blank_of sort) (rest ++ h)) (frame_after (blank_of sort) (e ∷ (rest ++ h))) (lasts_on rest h so.0) (lasts_one (rest ++ h) e (kind_of e) so)

  pub lasts_from : (k h : List Event) → k ⊑ h → Sound sort begins asks nodes h → lasts (graph_after k) (frame_after (blank_of sort) k) (graph_after h) (frame_after (blank_of sort) h)
  lasts_from k h from so = subst (λ (z : List Event). lasts (graph_after k) (frame_after (blank_of sort) k) (graph_after z) (frame_after (blank_of sort) z)) (sym from.is) (lasts_on from.rest k (subst (Sound sort begins asks nodes) from.is so))

  -- a node that no change names is not in the region
  named_not : (changes : List Change) (i : ℕ) → All (λ x. x.node ≢ i) changes → names (nodes_of changes) i ≡ false
  named_not [] i apart = refl
  named_not (x ∷ xs) i apart = ap (λ (b : Bool). b || names (nodes_of xs) i) (ne_eqb x.node i (All-head (λ (y : Change). y.node ≢ i) x xs apart)) ∙ named_not xs i (All-tail (λ (y : Change). y.node ≢ i) x xs apart)

  -- what stays at a node while another caller acts
  pub record Unshaped (i : ℕ) (g k : ℕ → NodeState) : Type 0 where
    pub keyset : SameKeyset i g k
    pub aside : beside i g k

  unshaped_one : (h : List Event) (e : Event) (c i : ℕ) → Kind_of e → caller_of e ≢ c → turn_after h i ≡ held c → Sound sort begins asks nodes (e ∷ h) → Unshaped i (graph_after h) (graph_after (e ∷ h))
  unshaped_one h e c i (shapes_it d changes) other mine so = let g : ℕ → NodeState = graph_after h in let fr : ℕ → Frame = frame_after (blank_of sort) h in let good : Good g = good_now (fine h so.0).good in
      let apart : names (nodes_of changes) i ≡ false = named_not changes i (held_apart h c d i changes so.1.0 other mine) in record {
        keyset = laws.keyset_after g fr changes i good so.1.2 apart;
        aside = laws.beside_after g fr changes i good so.1.2 apart;
      }
  unshaped_one h e c i (is_plain is) other mine so = let same = plain_edges h e is (fine h so.0).turns (in_turn h e so.1) in record {
    keyset = laws.keyset_along (graph_after h) (graph_after (e ∷ h)) i same;
    aside = laws.beside_along (graph_after h) (graph_after (e ∷ h)) i same;
  }

  unshaped_both : (i : ℕ) (g k l : ℕ → NodeState) → Unshaped i g k → Unshaped i k l → Unshaped i g l
  unshaped_both i g k l a b = record {
    keyset = record { forth = λ p x. b.keyset.forth p (a.keyset.forth p x); back = λ p x. a.keyset.back p (b.keyset.back p x) };
    aside = laws.beside_on g k l i a.aside b.aside;
  }

  unshaped_on : (rest h : List Event) (c i : ℕ) → NoneBy c rest → turn_after (rest ++ h) i ≡ held c → Sound sort begins asks nodes (rest ++ h) → Unshaped i (graph_after h) (graph_after (rest ++ h))
  unshaped_on [] h c i none mine so = let same = same_edges (graph_after h) (graph_after h) (λ n. refl) in record { keyset = laws.keyset_along (graph_after h) (graph_after h) i same; aside = laws.beside_along (graph_after h) (graph_after h) i same }
  unshaped_on (e ∷ rest) h c i none mine so = let before : turn_after (rest ++ h) i ≡ held c = other_turn (rest ++ h) e c i none.0 mine in
      unshaped_both i (graph_after h) (graph_after (rest ++ h)) (graph_after (e ∷ (rest ++ h))) (unshaped_on rest h c i none.1 before so.0) (unshaped_one (rest ++ h) e c i (kind_of e) none.0 before so)

  -- what stays at a node that c holds, while others act
  pub unshaped : (c i : ℕ) (k h : List Event) → GrowsByOthers c k h → turn_after h i ≡ held c → Sound sort begins asks nodes h → Unshaped i (graph_after k) (graph_after h)
  unshaped c i k h grows mine so = subst (λ (z : List Event). Unshaped i (graph_after k) (graph_after z)) (sym grows.is) (unshaped_on grows.rest k c i grows.others (subst (λ (z : List Event). turn_after z i ≡ held c) grows.is mine) (subst (Sound sort begins asks nodes) grows.is so))

-- a live node is not free
pub live_not_free : (h : List Event) (i : ℕ) → AreInTurn h → IsLive (graph_after h) i → turn_after h i ≢ free
live_not_free h i are live now = let is : graph_after h i ≡ Free = (rested h are i).free_is now in let e : None ≡ Some live.0 = sym (ap live_record is) ∙ live.1 in let q : ⊥ = cc in q

-- the target of an edge of a held node is live
pub target_live : (c above i : ℕ) (seen h : List Event) (r : Record) → GrowsByOthers c seen h → AreInTurn h → Good (graph_after h) → turn_after seen above ≡ held c → record_at (graph_after seen) above ≡ Some r → Any (λ e. e.node ≡ i) r.edges → IsLive (graph_after h) i
target_live c above i seen h r grows are good holds is any = let k = by_others_keeps c above seen h grows are holds in
    subst (IsLive (graph_after h)) (ap (λ e. e.node) any.3 ∙ any.4) (good.leads above r (ap live_record k.state ∙ is) any.0 any.1 any.2)
