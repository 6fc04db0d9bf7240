-- What a pass holds, and what it knows of it, after each step.
use Rattle.std.proofs.Common.{◌≡◌, ◌≢◌, ℕ, ◌<◌, cond, eqb, List, [], ◌∷◌, ◌++◌, map, sym, refl, ap, ◌∙◌, subst, inl, inr, ⊎_elim}
use Rattle.std.specs.Prelude.{Option, None}
use mathlib.Core.Logic.{dite}
use native.Mathlib.Decide.{ℕ_discrete}
use Rattle.atomic_table.specs.Table.{rest}
use Rattle.ks_keysets.specs.declared.NodeState.{NodeState}
use Rattle.ks_history.specs.declared.Event.{Event}
use Rattle.ks_history.specs.declared.Event.TheVariants.{Give}
use Rattle.ks_history.specs.Own.{mine, hand, drop_one}
use Rattle.ks_history.specs.Trace.{held, turn_given, graph_after, turn_after}
use Rattle.ks_history.specs.Passes.{Has, GrowsByOthers, GrowsWith}
use Rattle.ks_arena.specs.declared.view.Mark.{Mark}
use Rattle.ks_arena.specs.declared.view.View.{View}
use Rattle.ks_arena.specs.Plays.{Seated, with_seen, marked, Looks, Makes, drop_slot, InHand, HasSlots, Carries}
use Rattle.ks_history.specs.Laws.Stays.{cond_here, cond_else, given_not_held}
use Rattle.ks_history.specs.Laws.Begins.{none_by}
use Rattle.ks_arena.proofs.Stepping.{has_one}

-- a view that has become another with the same callers, number and mark
pub record Follows (v w : View) : Type 0 where
  pub callers : w.callers ≡ v.callers
  pub made : w.made ≡ v.made
  pub mark : w.mark ≡ v.mark
  pub bare : w.absorbed ≡ []

follows : (v w : View) (h : List Event) → w ≡ with_seen v h → Follows v w
follows v w h is = record { callers = ap (λ (z : View). z.callers) is; made = ap (λ (z : View). z.made) is; mark = ap (λ (z : View). z.mark) is; bare = ap (λ (z : View). z.absorbed) is }

pub follows_marked : (k : Mark) (v w : View) → Follows v w → Follows (marked k v) (marked k w)
follows_marked k v w so = record { callers = so.callers; made = so.made; mark = refl; bare = so.bare }

pub follows_both : (u v w : View) → Follows u v → Follows v w → Follows u w
follows_both u v w a b = record { callers = b.callers ∙ a.callers; made = b.made ∙ a.made; mark = b.mark ∙ a.mark; bare = b.bare }

append_both : {A : Type 0} (xs ys zs : List A) → xs ++ (ys ++ zs) ≡ (xs ++ ys) ++ zs
append_both [] ys zs = refl
append_both (x ∷ xs) ys zs = λ k. x ∷ append_both xs ys zs k

module _ (P : List Event → Type 0) where
  pub looks_follows : (v w : View) → Looks P v w → Follows v w
  looks_follows v w so = follows v w (so.rest ++ v.seen) so.is

  pub makes_follows : (e : Event) (v w : View) → Makes P e v w → Follows v w
  makes_follows e v w so = follows v w (e ∷ (so.rest ++ v.seen)) so.is

  abbrev pub looks_grows : (v w : View) (c : ℕ) → v.callers ≡ c ∷ [] → Looks P v w → GrowsByOthers c v.seen w.seen
  looks_grows v w c mine so = record { rest = so.rest; is = ap (λ (z : View). z.seen) so.is; others = none_by v.callers so.rest c so.others (has_one v.callers c mine) }

  abbrev pub makes_grows : (e : Event) (v w : View) (c : ℕ) → v.callers ≡ c ∷ [] → Makes P e v w → GrowsWith c e v.seen w.seen
  makes_grows e v w c mine so = record { rest = so.rest; is = ap (λ (z : View). z.seen) so.is; others = none_by v.callers so.rest c so.others (has_one v.callers c mine) }

-- an event by which c comes to hold a node
abbrev pub Gains : Event → List Event → ℕ → ℕ → Type 0
Gains e h c i = (j : ℕ) → turn_after (e ∷ h) j ≡ cond (eqb j i) (held c) (turn_after h j)

module _ {N : Type 0} where
  hands_along : (n : ℕ) (h k : List Event) (c : ℕ) (xs : List (ℕ × Option N)) → ((i : ℕ) → turn_after h i ≡ held c → InHand xs i → turn_after k i ≡ held c) → HasSlots n h c xs → HasSlots n k c xs
  hands_along n h k c [] keep so = tt
  hands_along n h k c (x ∷ xs) keep so = (so.0, keep x.0 so.1 (inl refl), so.2, hands_along n h k c xs (λ i e m. keep i e (inr m)) so.3)

  pub carries_along : (n : ℕ) (h k : List Event) (c : ℕ) (xs : List (ℕ × Option N)) → ((i : ℕ) → turn_after h i ≡ held c → turn_after k i ≡ held c) → ((i : ℕ) → turn_after k i ≡ held c → turn_after h i ≡ held c) → Carries n h c xs → Carries n k c xs
  carries_along n h k c xs keep back so = record { hands = hands_along n h k c xs (λ i e _. keep i e) so.hands; all = λ i e. so.all i (back i e) }

  pub hand_held : (n : ℕ) (h : List Event) (c : ℕ) (xs : List (ℕ × Option N)) (i : ℕ) → HasSlots n h c xs → InHand xs i → turn_after h i ≡ held c
  hand_held n h c [] i so m = absurd m
  hand_held n h c (x ∷ xs) i so (inl e) = ap (turn_after h) (sym e) ∙ so.1
  hand_held n h c (x ∷ xs) i so (inr m) = hand_held n h c xs i so.3 m

  pub hand_near : (n : ℕ) (h : List Event) (c : ℕ) (xs : List (ℕ × Option N)) (i : ℕ) → HasSlots n h c xs → InHand xs i → i < n
  hand_near n h c [] i so m = absurd m
  hand_near n h c (x ∷ xs) i so (inl e) = subst (λ (z : ℕ). z < n) e so.0
  hand_near n h c (x ∷ xs) i so (inr m) = hand_near n h c xs i so.3 m

  pub carries_gain : (n : ℕ) (e : Event) (h : List Event) (c i : ℕ) (o : Option N) (xs : List (ℕ × Option N)) → Gains e h c i → i < n → ¬ (turn_after h i ≡ held c) → Carries n h c xs → Carries n (e ∷ h) c ((i, o) ∷ xs)
  carries_gain n ev h c i o xs gains near fresh so = record {
    hands = (near, gains i ∙ cond_here i i (held c) (turn_after h i) refl, (λ m. fresh (hand_held n h c xs i so.hands m)), hands_along n h (ev ∷ h) c xs (λ j e _. gains j ∙ dite (ℕ_discrete j i) (λ y. cond_here j i (held c) (turn_after h j) y) (λ ne. cond_else j i (held c) (turn_after h j) ne ∙ e)) so.hands);
    all = λ j e. dite (ℕ_discrete j i) (λ y. inl (sym y)) (λ ne. inr (so.all j (sym (cond_else j i (held c) (turn_after h j) ne) ∙ sym (gains j) ∙ e)));
  }

  other : (j i : ℕ) (x : Option N) (xs : List (ℕ × Option N)) → j ≢ i → InHand ((i, x) ∷ xs) j → InHand xs j
  other j i x xs ne (inl e) = absurd (ne (sym e))
  other j i x xs ne (inr m) = m

  pub carries_give : (n : ℕ) (h : List Event) (c i : ℕ) (x : Option N) (xs : List (ℕ × Option N)) → Carries n h c ((i, x) ∷ xs) → Carries n (Give c i ∷ h) c xs
  carries_give n h c i x xs so = let t : NodeState = graph_after h i in record {
    hands = hands_along n h (Give c i ∷ h) c xs (λ j e m. cond_else j i (turn_given t) (turn_after h j) (λ y. so.hands.2 (subst (InHand xs) y m)) ∙ e) so.hands.3;
    all = λ j e. dite (ℕ_discrete j i) (λ y. absurd (given_not_held c t (sym (cond_here j i (turn_given t) (turn_after h j) y) ∙ e))) (λ ne. other j i x xs ne (so.all j (sym (cond_else j i (turn_given t) (turn_after h j) ne) ∙ e)));
  }

  drop_not : (n : ℕ) (h : List Event) (c : ℕ) (xs : List (ℕ × Option N)) (i k : ℕ) → HasSlots n h c xs → ¬ InHand xs k → ¬ InHand (drop_slot i xs) k
  drop_not n h c [] i k so never = never
  drop_not n h c (x ∷ xs) i k so never = dite (ℕ_discrete x.0 i) (λ y. subst (λ (z : List (ℕ × Option N)). ¬ InHand z k) (sym (cond_here x.0 i xs (x ∷ drop_slot i xs) y)) (λ m. never (inr m)))
      (λ ne. subst (λ (z : List (ℕ × Option N)). ¬ InHand z k) (sym (cond_else x.0 i xs (x ∷ drop_slot i xs) ne)) (λ m. ⊎_elim (λ e. never (inl e)) (drop_not n h c xs i k so.3 (λ z. never (inr z))) m))

  drop_hands : (n : ℕ) (h : List Event) (c : ℕ) (xs : List (ℕ × Option N)) (i : ℕ) → HasSlots n h c xs → HasSlots n h c (drop_slot i xs) × (¬ InHand (drop_slot i xs) i)
  drop_hands n h c [] i so = (tt, λ m. m)
  drop_hands n h c (x ∷ xs) i so = dite (ℕ_discrete x.0 i)
      (λ y. subst (λ (z : List (ℕ × Option N)). HasSlots n h c z × (¬ InHand z i)) (sym (cond_here x.0 i xs (x ∷ drop_slot i xs) y)) (so.3, λ m. so.2 (subst (InHand xs) (sym y) m)))
      (λ ne. let ih = drop_hands n h c xs i so.3 in subst (λ (z : List (ℕ × Option N)). HasSlots n h c z × (¬ InHand z i)) (sym (cond_else x.0 i xs (x ∷ drop_slot i xs) ne))
      ((so.0, so.1, drop_not n h c xs i x.0 so.3 so.2, ih.0), λ m. ⊎_elim ne ih.1 m))

  drop_all : (xs : List (ℕ × Option N)) (i k : ℕ) → k ≢ i → InHand xs k → InHand (drop_slot i xs) k
  drop_all [] i k ne m = m
  drop_all (x ∷ xs) i k ne m = dite (ℕ_discrete x.0 i)
      (λ y. subst (λ (z : List (ℕ × Option N)). InHand z k) (sym (cond_here x.0 i xs (x ∷ drop_slot i xs) y)) (⊎_elim (λ e. absurd (ne (sym e ∙ y))) (λ z. z) m))
      (λ no_. subst (λ (z : List (ℕ × Option N)). InHand z k) (sym (cond_else x.0 i xs (x ∷ drop_slot i xs) no_)) (⊎_elim (λ e. inl e) (λ z. inr (drop_all xs i k ne z)) m))

  pub carries_lift : (n : ℕ) (h : List Event) (c : ℕ) (xs : List (ℕ × Option N)) (i : ℕ) (o : Option N) → turn_after h i ≡ held c → Carries n h c xs → Carries n h c ((i, o) ∷ drop_slot i xs)
  carries_lift n h c xs i o mine so = let d = drop_hands n h c xs i so.hands in record {
    hands = (hand_near n h c xs i so.hands (so.all i mine), mine, d.1, d.0);
    all = λ k e. dite (ℕ_discrete k i) (λ y. inl (sym y)) (λ ne. inr (drop_all xs i k ne (so.all k e)));
  }

  pub top_rest : (xs : List (ℕ × Option N)) (x : ℕ × Option N) (ys : List (ℕ × Option N)) → xs ≡ x ∷ ys → xs ≡ x ∷ rest xs
  top_rest xs x ys e = e ∙ ap (λ (z : List (ℕ × Option N)). x ∷ rest z) (sym e)

  top_or : Option N → List (ℕ × Option N) → Option N
  top_or o [] = o
  top_or o (x ∷ xs) = x.1

  pub top_same : (i : ℕ) (x y : Option N) (zs xs ys : List (ℕ × Option N)) → zs ≡ (i, x) ∷ xs → zs ≡ (i, y) ∷ ys → (x ≡ y) × (xs ≡ ys)
  unfolding top_or
  top_same i x y zs xs ys e f = let p = sym e ∙ f in (ap (top_or x) p, ap (λ (z : List (ℕ × Option N)). rest z) p)

  -- the body is out of the slot that was taken
  pub out_of : (i : ℕ) (x : Option N) (me m z : Seated N) → m.1 ≡ (i, x) ∷ me.1 → z ≡ (m.0, (i, None) ∷ rest m.1) → z ≡ (m.0, (i, None) ∷ me.1)
  out_of i x me m z top is = is ∙ ap (λ (l : List (ℕ × Option N)). (m.0, (i, None) ∷ rest l)) top

  abbrev pub slots_in : List (ℕ × Option N) → List ℕ
  slots_in xs = map (λ x. x.0) xs

  in_has : (xs : List (ℕ × Option N)) (i : ℕ) → InHand xs i → Has (slots_in xs) i
  in_has [] i m = m
  in_has (x ∷ xs) i (inl e) = inl e
  in_has (x ∷ xs) i (inr m) = inr (in_has xs i m)

  has_in : (xs : List (ℕ × Option N)) (i : ℕ) → Has (slots_in xs) i → InHand xs i
  has_in [] i m = m
  has_in (x ∷ xs) i (inl e) = inl e
  has_in (x ∷ xs) i (inr m) = inr (has_in xs i m)

  pub drop_in : (xs : List (ℕ × Option N)) (i : ℕ) → slots_in (drop_slot i xs) ≡ drop_one i (slots_in xs)
  drop_in [] i = refl
  drop_in (x ∷ xs) i = dite (ℕ_discrete x.0 i) (λ e. ap slots_in (cond_here x.0 i xs (x ∷ drop_slot i xs) e) ∙ sym (cond_here x.0 i (slots_in xs) (x.0 ∷ drop_one i (slots_in xs)) e))
      (λ ne. ap slots_in (cond_else x.0 i xs (x ∷ drop_slot i xs) ne) ∙ ap (λ (z : List ℕ). x.0 ∷ z) (drop_in xs i) ∙ sym (cond_else x.0 i (slots_in xs) (x.0 ∷ drop_one i (slots_in xs)) ne))

  -- what a pass knows of the nodes that it holds, as its view has it
  pub holds_it : (n : ℕ) (h : List Event) (c i : ℕ) (xs : List (ℕ × Option N)) → Carries n h c xs → slots_in xs ≡ hand c h → Has (hand c h) i → turn_after h i ≡ held c
  holds_it n h c i xs so same has = hand_held n h c xs i so.hands (has_in xs i (subst (λ (z : List ℕ). Has z i) (sym same) has))

  pub holds_not : (n : ℕ) (h : List Event) (c i : ℕ) (xs : List (ℕ × Option N)) → Carries n h c xs → slots_in xs ≡ hand c h → ¬ Has (hand c h) i → ¬ (turn_after h i ≡ held c)
  holds_not n h c i xs so same never now = never (subst (λ (z : List ℕ). Has z i) same (in_has xs i (so.all i now)))

  pub holds_has : (n : ℕ) (h : List Event) (c i : ℕ) (xs : List (ℕ × Option N)) → Carries n h c xs → slots_in xs ≡ hand c h → turn_after h i ≡ held c → Has (hand c h) i
  holds_has n h c i xs so same now = subst (λ (z : List ℕ). Has z i) same (in_has xs i (so.all i now))
