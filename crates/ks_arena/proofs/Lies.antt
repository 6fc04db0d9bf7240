-- What lies in the slots of the nodes that a pass holds.
use Rattle.std.proofs.Common.{◌≡◌, ◌≢◌, ℕ, cond, eqb, List, [], ◌∷◌, refl, sym, ap, ◌∙◌, inl, inr, subst}
use Rattle.std.specs.Prelude.{Option, Some, None}
use mathlib.Core.Logic.{dite}
use native.Mathlib.Decide.{ℕ_discrete}
use Rattle.atomic_table.specs.Table.{rest, turned}
use Rattle.atomic_table.specs.Seated.{TableId}
use Rattle.ks_keysets.specs.declared.Frame.{Frame}
use Rattle.ks_keysets.specs.declared.NodeState.{NodeState}
use Rattle.ks_keysets.specs.declared.Change.{Change}
use Rattle.ks_history.specs.declared.Event.{Event}
use Rattle.ks_history.specs.Laws.Stays.{cond_here, cond_else}
use Rattle.ks_arena.specs.declared.held.Pass.{Pass}
use Rattle.ks_arena.specs.Plays.{Seated, Carries, HasSlots, InHand, slot_in, drop_slot}
use Rattle.ks_arena.specs.Sound.{Sort}
use Rattle.ks_arena.specs.Clauses.{IsPass}
use Rattle.ks_arena.proofs.Hold.{slots_in}
use Rattle.ks_arena.proofs.After.{pass_again}

head_or : ℕ → List ℕ → ℕ
head_or d [] = d
head_or d (x ∷ xs) = x

second_or : ℕ → List ℕ → ℕ
second_or d [] = d
second_or d (x ∷ []) = d
second_or d (x ∷ y ∷ ys) = y

module _ {N : Type 0} where
  pub slot_top : (i : ℕ) (o : Option N) (xs ys : List (ℕ × Option N)) → xs ≡ (i, o) ∷ ys → slot_in i xs ≡ o
  slot_top i o xs ys e = ap (slot_in i) e ∙ cond_here i i o (slot_in i ys) refl

  pub slot_next : (i j : ℕ) (o : Option N) (xs ys : List (ℕ × Option N)) → j ≢ i → xs ≡ (i, o) ∷ ys → slot_in j xs ≡ slot_in j ys
  slot_next i j o xs ys ne e = ap (slot_in j) e ∙ cond_else i j o (slot_in j ys) (λ x. ne (sym x))

  pub slot_drop : (i j : ℕ) (xs : List (ℕ × Option N)) → j ≢ i → slot_in j (drop_slot i xs) ≡ slot_in j xs
  slot_drop i j [] ne = refl
  slot_drop i j (x ∷ xs) ne = dite (ℕ_discrete x.0 i)
      (λ y. ap (slot_in j) (cond_here x.0 i xs (x ∷ drop_slot i xs) y) ∙ sym (cond_else x.0 j x.1 (slot_in j xs) (λ e. ne (sym e ∙ y))))
      (λ other. ap (slot_in j) (cond_else x.0 i xs (x ∷ drop_slot i xs) other) ∙ ap (cond (eqb x.0 j) x.1) (slot_drop i j xs ne))

  pub slot_held : (i : ℕ) (b : N) (xs : List (ℕ × Option N)) → slot_in i xs ≡ Some b → InHand xs i
  slot_held i b [] e = (cc)
  slot_held i b (x ∷ xs) e = dite (ℕ_discrete x.0 i) (λ y. inl y) (λ ne. inr (slot_held i b xs (sym (cond_else x.0 i x.1 (slot_in i xs) ne) ∙ e)))

  -- the slot of the node that was taken last is on top
  pub last_top : (i : ℕ) (o : Option N) (xs : List (ℕ × Option N)) (others : List ℕ) → slots_in xs ≡ i ∷ others → slot_in i xs ≡ o → xs ≡ (i, o) ∷ rest xs
  unfolding head_or
  last_top i o [] others e f = (cc)
  last_top i o (x ∷ xs) others e f = let first : x.0 ≡ i = ap (head_or i) e in λ k. (first k, (sym (cond_here x.0 i x.1 (slot_in i xs) first) ∙ f) k) ∷ xs

  pub carries_top : (n : ℕ) (h : List Event) (c i : ℕ) (x y : Option N) (xs : List (ℕ × Option N)) → Carries n h c ((i, x) ∷ xs) → Carries n h c ((i, y) ∷ xs)
  carries_top n h c i x y xs so = record { hands = so.hands; all = so.all }

  -- the slots of two nodes
  pub two_top : (n : ℕ) (h : List Event) (c i j : ℕ) (o : Option N) (xs : List (ℕ × Option N)) → HasSlots n h c xs → slots_in xs ≡ j ∷ i ∷ [] → slot_in i xs ≡ o → (x : Option N) × (xs ≡ (j, x) ∷ (i, o) ∷ [])
  unfolding head_or second_or
  two_top n h c i j o [] so e f = (cc)
  two_top n h c i j o (x ∷ []) so e f = (cc)
  two_top n h c i j o (x ∷ y ∷ z ∷ zs) so e f = (cc)
  two_top n h c i j o (x ∷ y ∷ []) so e f = let first : x.0 ≡ j = ap (head_or j) e in let second : y.0 ≡ i = ap (second_or i) e in let ne : x.0 ≢ i = λ same. so.2 (inl (second ∙ sym same)) in
      let has : y.1 ≡ o = sym (cond_here y.0 i y.1 None second) ∙ (sym (cond_else x.0 i x.1 (slot_in i (y ∷ [])) ne) ∙ f) in (x.1, λ k. (first k, x.1) ∷ (second k, has k) ∷ [])

  pub two_else : (i j k : ℕ) (x y z : Option N) → k ≢ i → slot_in k ((j, x) ∷ (i, y) ∷ []) ≡ slot_in k ((j, x) ∷ (i, z) ∷ [])
  two_else i j k x y z ne = ap (cond (eqb j k) x) (cond_else i k y None (λ e. ne (sym e)) ∙ sym (cond_else i k z None (λ e. ne (sym e))))

  pub carries_under : (n : ℕ) (h : List Event) (c i j : ℕ) (x y z : Option N) → Carries n h c ((j, x) ∷ (i, y) ∷ []) → Carries n h c ((j, x) ∷ (i, z) ∷ [])
  carries_under n h c i j x y z so = record { hands = so.hands; all = so.all }

  -- the lower of two slots is turned up, emptied, and turned down
  pub turned_twice : (i j : ℕ) (x o : Option N) (p m e q : Seated N) → p.1 ≡ (j, x) ∷ (i, o) ∷ [] → m ≡ (p.0, turned p.1) → e ≡ (m.0, (i, None) ∷ rest m.1) → q ≡ (e.0, turned e.1) → q ≡ (p.0, (j, x) ∷ (i, None) ∷ [])
  turned_twice i j x o p m e q top up out down =
      let m' : m ≡ (p.0, (i, o) ∷ (j, x) ∷ []) = up ∙ ap (λ (z : List (ℕ × Option N)). (p.0, turned z)) top in
      let e' : e ≡ (p.0, (i, None) ∷ (j, x) ∷ []) = out ∙ ap (λ (z : Seated N). (z.0, (i, None) ∷ rest z.1)) m' in
      down ∙ ap (λ (z : Seated N). (z.0, turned z.1)) e'

module _ {N D : Type 0} where
  -- the pass after the body of the node that it took last has come out of its slot
  pub lifted : (sort : Sort) (begins : Frame → Type 0) (asks : (ℕ → NodeState) → (ℕ → Frame) → List Change → Type 0) (t : TableId) (callers i : ℕ) (o : Option N) (p q : Pass N D) → IsPass sort begins asks t callers p
      → p.seat.me.1 ≡ (i, o) ∷ rest p.seat.me.1 → q.caller ≡ p.caller → q.seat.table_id ≡ p.seat.table_id → q.seat.me ≡ (p.seat.me.0, (i, None) ∷ rest p.seat.me.1) → IsPass sort begins asks t callers q
  lifted sort begins asks t callers i o p q is top whose table me = let m : Seated N = (p.seat.me.0, (i, None) ∷ rest p.seat.me.1) in
      pass_again sort begins asks t callers p q m is whose table me (record { callers = refl; made = refl; mark = refl; bare = is.bare })
      (carries_top t.slots p.seat.me.0.seen p.caller i o None (rest p.seat.me.1) (subst (Carries t.slots p.seat.me.0.seen p.caller) top is.carries)) (sym (ap slots_in top) ∙ is.slots) is.sound is.known

  -- the same of the node that it took before the last, of two
  pub lifted_under : (sort : Sort) (begins : Frame → Type 0) (asks : (ℕ → NodeState) → (ℕ → Frame) → List Change → Type 0) (t : TableId) (callers i j : ℕ) (x o : Option N) (p q : Pass N D) → IsPass sort begins asks t callers p
      → p.seat.me.1 ≡ (j, x) ∷ (i, o) ∷ [] → q.caller ≡ p.caller → q.seat.table_id ≡ p.seat.table_id → q.seat.me ≡ (p.seat.me.0, (j, x) ∷ (i, None) ∷ []) → IsPass sort begins asks t callers q
  lifted_under sort begins asks t callers i j x o p q is top whose table me = let m : Seated N = (p.seat.me.0, (j, x) ∷ (i, None) ∷ []) in
      pass_again sort begins asks t callers p q m is whose table me (record { callers = refl; made = refl; mark = refl; bare = is.bare })
      (carries_under t.slots p.seat.me.0.seen p.caller i j x o None (subst (Carries t.slots p.seat.me.0.seen p.caller) top is.carries)) (sym (ap slots_in top) ∙ is.slots) is.sound is.known
