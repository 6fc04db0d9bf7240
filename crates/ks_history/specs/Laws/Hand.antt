-- Laws of traces: the hand of a caller and its own events, while others act and after its own event.
use Rattle.std.proofs.Common.{◌≡◌, ◌≢◌, ℕ, ◌⊎◌, inl, inr, List, [], ◌∷◌, ◌++◌, sym, refl, ap, ◌∙◌, subst}
use mathlib.Core.Logic.{dite}
use native.Mathlib.Decide.{ℕ_discrete}
use Rattle.ks_history.specs.declared.Event.{Event}
use Rattle.ks_history.specs.declared.Event.TheVariants.{Take, Give, Claim, Shape, Call, Twin}
use Rattle.ks_history.specs.Trace.{caller_of, graph_after, free, idle, held, turn_given, turn_after}
use Rattle.ks_history.specs.Own.{mine, drop_one, hand}
use Rattle.ks_history.specs.Passes.{Has}
use Rattle.ks_history.specs.Callers.{NoneBy}
use Rattle.ks_history.specs.Laws.Stays.{IsInTurn, AreInTurn, cond_here, cond_else, given_not_held, other_keeps, other_turn}
use Rattle.ks_history.specs.Hand.{AreOnce}

-- hands and own events
pub hand_other : (h : List Event) (e : Event) (c : ℕ) → caller_of e ≢ c → hand c (e ∷ h) ≡ hand c h
hand_other h (Take d j) c other = cond_else c d (j ∷ hand c h) (hand c h) (λ e. other (sym e))
hand_other h (Give d j) c other = cond_else c d (drop_one j (hand c h)) (hand c h) (λ e. other (sym e))
hand_other h (Claim d j) c other = cond_else c d (j ∷ hand c h) (hand c h) (λ e. other (sym e))
hand_other h (Shape d changes) c other = refl
hand_other h (Call d j op reply) c other = refl
hand_other h (Twin d j j' op reply) c other = refl

pub hand_others : (rest h : List Event) (c : ℕ) → NoneBy c rest → hand c (rest ++ h) ≡ hand c h
hand_others [] h c none = refl
hand_others (e ∷ es) h c none = hand_other (es ++ h) e c none.0 ∙ hand_others es h c none.1

pub mine_other : (h : List Event) (e : Event) (c : ℕ) → caller_of e ≢ c → mine c (e ∷ h) ≡ mine c h
mine_other h e c other = cond_else (caller_of e) c (e ∷ mine c h) (mine c h) other

pub mine_own : (h : List Event) (e : Event) (c : ℕ) → caller_of e ≡ c → mine c (e ∷ h) ≡ e ∷ mine c h
mine_own h e c own = cond_here (caller_of e) c (e ∷ mine c h) (mine c h) own

pub mine_others : (rest h : List Event) (c : ℕ) → NoneBy c rest → mine c (rest ++ h) ≡ mine c h
mine_others [] h c none = refl
mine_others (e ∷ es) h c none = mine_other (es ++ h) e c none.0 ∙ mine_others es h c none.1

has_dropped : (i j : ℕ) (xs : List ℕ) → Has (drop_one j xs) i → Has xs i
has_dropped i j [] has = has
has_dropped i j (x ∷ xs) has = dite (ℕ_discrete x j)
    (λ s. inr (subst (λ (z : List ℕ). Has z i) (cond_here x j xs (x ∷ drop_one j xs) s) has))
    (λ n. elim (subst (λ (z : List ℕ). Has z i) (cond_else x j xs (x ∷ drop_one j xs) n) has) [ inl e ↦ inl e | inr h ↦ inr (has_dropped i j xs h) ])

has_not_dropped : (i j : ℕ) (xs : List ℕ) → i ≢ j → Has xs i → Has (drop_one j xs) i
has_not_dropped i j [] apart has = has
has_not_dropped i j (x ∷ xs) apart has = dite (ℕ_discrete x j)
    (λ s. subst (λ (z : List ℕ). Has z i) (sym (cond_here x j xs (x ∷ drop_one j xs) s)) (past s has))
    (λ n. subst (λ (z : List ℕ). Has z i) (sym (cond_else x j xs (x ∷ drop_one j xs) n)) (elim has [ inl e ↦ inl e | inr h ↦ inr (has_not_dropped i j xs apart h) ]))
  where
    past : x ≡ j → (x ≡ i) ⊎ Has xs i → Has xs i
    past s (inl e) = absurd (apart (sym e ∙ s))
    past s (inr h) = h

once_dropped : (j : ℕ) (xs : List ℕ) → AreOnce xs → AreOnce (drop_one j xs)
once_dropped j [] once = once
once_dropped j (x ∷ xs) once = dite (ℕ_discrete x j)
    (λ s. subst AreOnce (sym (cond_here x j xs (x ∷ drop_one j xs) s)) once.1)
    (λ n. subst AreOnce (sym (cond_else x j xs (x ∷ drop_one j xs) n)) ((λ h. once.0 (has_dropped x j xs h)), once_dropped j xs once.1))

dropped_gone : (j : ℕ) (xs : List ℕ) → AreOnce xs → ¬ Has (drop_one j xs) j
dropped_gone j [] once has = has
dropped_gone j (x ∷ xs) once has = dite (ℕ_discrete x j)
    (λ s. once.0 (subst (Has xs) (sym s) (subst (λ (z : List ℕ). Has z j) (cond_here x j xs (x ∷ drop_one j xs) s) has)))
    (λ n. elim (subst (λ (z : List ℕ). Has z j) (cond_else x j xs (x ∷ drop_one j xs) n) has) [ inl e ↦ n e | inr h ↦ dropped_gone j xs once.1 h ])

-- a node whose turn is c's is held by c
pub held_in_hand : (h : List Event) (c i : ℕ) → turn_after h i ≡ held c → Has (hand c h) i
held_in_hand [] c i mine = absurd (dite (ℕ_discrete i 0) (λ s. let x : idle ≡ held c = sym (cond_here i 0 idle free s) ∙ mine in cc) (λ n. let x : free ≡ held c = sym (cond_else i 0 idle free n) ∙ mine in cc))
held_in_hand (Take d j ∷ h) c i mine = dite (ℕ_discrete c d)
    (λ own. subst (λ (z : List ℕ). Has z i) (sym (cond_here c d (j ∷ hand c h) (hand c h) own))
    (dite (ℕ_discrete i j) (λ s. inl (sym s)) (λ n. inr (held_in_hand h c i (sym (cond_else i j (held d) (turn_after h i) n) ∙ mine)))))
    (λ other. subst (λ (z : List ℕ). Has z i) (sym (hand_other h (Take d j) c (λ e. other (sym e)))) (held_in_hand h c i (other_turn h (Take d j) c i (λ e. other (sym e)) mine)))
held_in_hand (Give d j ∷ h) c i mine = dite (ℕ_discrete c d)
    (λ own. subst (λ (z : List ℕ). Has z i) (sym (cond_here c d (drop_one j (hand c h)) (hand c h) own))
    (dite (ℕ_discrete i j)
    (λ s. absurd (given_not_held c (graph_after h j) (sym (cond_here i j (turn_given (graph_after h j)) (turn_after h i) s) ∙ mine)))
    (λ n. has_not_dropped i j (hand c h) n (held_in_hand h c i (sym (cond_else i j (turn_given (graph_after h j)) (turn_after h i) n) ∙ mine)))))
    (λ other. subst (λ (z : List ℕ). Has z i) (sym (hand_other h (Give d j) c (λ e. other (sym e)))) (held_in_hand h c i (other_turn h (Give d j) c i (λ e. other (sym e)) mine)))
held_in_hand (Claim d j ∷ h) c i mine = dite (ℕ_discrete c d)
    (λ own. subst (λ (z : List ℕ). Has z i) (sym (cond_here c d (j ∷ hand c h) (hand c h) own))
    (dite (ℕ_discrete i j) (λ s. inl (sym s)) (λ n. inr (held_in_hand h c i (sym (cond_else i j (held d) (turn_after h i) n) ∙ mine)))))
    (λ other. subst (λ (z : List ℕ). Has z i) (sym (hand_other h (Claim d j) c (λ e. other (sym e)))) (held_in_hand h c i (other_turn h (Claim d j) c i (λ e. other (sym e)) mine)))
held_in_hand (Shape d changes ∷ h) c i mine = held_in_hand h c i mine
held_in_hand (Call d j op reply ∷ h) c i mine = held_in_hand h c i mine
held_in_hand (Twin d j j' op reply ∷ h) c i mine = held_in_hand h c i mine

-- in a trace that is in turn, each node that c holds has c's turn, and is listed once
pub record IsHand (c : ℕ) (h : List Event) : Type 0 where
  pub held : (i : ℕ) → Has (hand c h) i → turn_after h i ≡ held c
  pub once : AreOnce (hand c h)

-- a node that an event of another names is not one that c holds
idle_apart : (h : List Event) (c i j : ℕ) → turn_after h j ≡ idle → turn_after h i ≡ held c → i ≢ j
idle_apart h c i j is mine same = let x : idle ≡ held c = sym is ∙ ap (turn_after h) (sym same) ∙ mine in cc

free_apart : (h : List Event) (c i j : ℕ) → turn_after h j ≡ free → turn_after h i ≡ held c → i ≢ j
free_apart h c i j is mine same = let x : free ≡ held c = sym is ∙ ap (turn_after h) (sym same) ∙ mine in cc

-- the hand after a node was added to it
hand_added : (h : List Event) (e : Event) (c i : ℕ) → hand c (e ∷ h) ≡ i ∷ hand c h → turn_after (e ∷ h) i ≡ held c → ((j : ℕ) → turn_after h j ≡ held c → (turn_after (e ∷ h) j ≡ held c) × (j ≢ i)) → IsHand c h → IsHand c (e ∷ h)
hand_added h e c i is here stays so = record {
  held = λ j has. elim (subst (λ (z : List ℕ). Has z j) is has) [ inl same ↦ subst (λ (k : ℕ). turn_after (e ∷ h) k ≡ held c) same here | inr before ↦ (stays j (so.held j before)).0 ];
  once = subst AreOnce (sym is) ((λ has. (stays i (so.held i has)).1 refl), so.once);
}

-- the hand of c after an event of another
hand_kept : (h : List Event) (e : Event) (c : ℕ) → AreInTurn h → IsInTurn h e → caller_of e ≢ c → IsHand c h → IsHand c (e ∷ h)
hand_kept h e c are may other so = record {
  held = λ j has. (other_keeps h e c j may other (so.held j (subst (λ (z : List ℕ). Has z j) (hand_other h e c other) has))).turn;
  once = subst AreOnce (sym (hand_other h e c other)) so.once;
}

pub is_hand : (h : List Event) (c : ℕ) → AreInTurn h → IsHand c h
is_hand [] c are = record { held = λ i has. absurd has; once = tt }
is_hand (Take d j ∷ h) c are = dite (ℕ_discrete d c)
    (λ own. hand_added h (Take d j) c j (cond_here c d (j ∷ hand c h) (hand c h) (sym own)) (cond_here j j (held d) (turn_after h j) refl ∙ ap held own)
    (λ i mine. let n : i ≢ j = idle_apart h c i j are.1 mine in (cond_else i j (held d) (turn_after h i) n ∙ mine, n)) (is_hand h c are.0))
    (λ other. hand_kept h (Take d j) c are.0 are.1 other (is_hand h c are.0))
is_hand (Give d j ∷ h) c are = dite (ℕ_discrete d c)
    (λ own. let so : IsHand c h = is_hand h c are.0 in let is : hand c (Give d j ∷ h) ≡ drop_one j (hand c h) = cond_here c d (drop_one j (hand c h)) (hand c h) (sym own) in record {
      held = λ i has. let has' : Has (drop_one j (hand c h)) i = subst (λ (z : List ℕ). Has z i) is has in
          let n : i ≢ j = λ s. dropped_gone j (hand c h) so.once (subst (Has (drop_one j (hand c h))) s has') in
          cond_else i j (turn_given (graph_after h j)) (turn_after h i) n ∙ so.held i (has_dropped i j (hand c h) has');
      once = subst AreOnce (sym is) (once_dropped j (hand c h) so.once);
    })
    (λ other. hand_kept h (Give d j) c are.0 are.1 other (is_hand h c are.0))
is_hand (Claim d j ∷ h) c are = dite (ℕ_discrete d c)
    (λ own. hand_added h (Claim d j) c j (cond_here c d (j ∷ hand c h) (hand c h) (sym own)) (cond_here j j (held d) (turn_after h j) refl ∙ ap held own)
    (λ i mine. let n : i ≢ j = free_apart h c i j are.1 mine in (cond_else i j (held d) (turn_after h i) n ∙ mine, n)) (is_hand h c are.0))
    (λ other. hand_kept h (Claim d j) c are.0 are.1 other (is_hand h c are.0))
is_hand (Shape d changes ∷ h) c are = let so : IsHand c h = is_hand h c are.0 in record { held = so.held; once = so.once }
is_hand (Call d j op reply ∷ h) c are = let so : IsHand c h = is_hand h c are.0 in record { held = so.held; once = so.once }
is_hand (Twin d j j' op reply ∷ h) c are = let so : IsHand c h = is_hand h c are.0 in record { held = so.held; once = so.once }
