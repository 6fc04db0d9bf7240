-- The region law.
use Rattle.ks_keysets.specs.declared.Record.{Record}
use Rattle.ks_keysets.specs.Keyset.{SameFound}
use Rattle.std.proofs.Common.{ℕ, ◌≡◌, ◌⊎◌, inl, inr, Bool, true, false, List, Option, Some, refl, sym, ◌∙◌, ap, subst}
use Rattle.std.specs.Prelude.{All, AllPairs}
use Rattle.ks_keysets.specs.declared.NodeState.{NodeState}
use Rattle.ks_keysets.specs.Record.{IsPlace, Carries}
use Rattle.ks_keysets.specs.Keyset.{record_at, IsLive, InKeyset, AreApart, Good, IsFound, value_in, value_at}
use Rattle.ks_flow.specs.Walk.{Path, arrives, passes, Ends, stops, goes, IsWalked}
use Rattle.ks_flow.specs.Ways.{names, Meets, now, later, Enters, Outcome, leaves_to, ends_at, Inside, leaves, stays, ends, AreAlike, DiffersIn, KeepsWays}
use Rattle.ks_flow.proofs.Walks.{ends_keyset, good_walked, walked_good, found_here, found_one}

-- a walk that ends, from a node of the region: it ends there or leaves
pub goes_inside : (g : ℕ → NodeState) (region : List ℕ) (p n a : ℕ) → Ends g p n a → names region a ≡ true → (Inside g region p a (ends_at n) × (names region n ≡ true)) ⊎ ((b : ℕ) × Inside g region p a (leaves_to b) × Ends g p n b)
goes_inside g region p n a (stops r is on) named = inl (ends r named is on, named)
goes_inside g region p n a (goes {b} r is to w) named = next (names region b) refl (λ h. goes_inside g region p n b w h)
  where
    next : (t : Bool) → names region b ≡ t → (names region b ≡ true → (Inside g region p b (ends_at n) × (names region n ≡ true)) ⊎ ((c : ℕ) × Inside g region p b (leaves_to c) × Ends g p n c)) → (Inside g region p a (ends_at n) × (names region n ≡ true)) ⊎ ((c : ℕ) × Inside g region p a (leaves_to c) × Ends g p n c)
    next false out rest = inr (b, leaves r named is to out, w)
    next true named' rest = elim (rest named') [
      | inl h ↦ inl (stays r named is to h.0, h.1)
      | inr h ↦ inr (h.0, stays r named is to h.1, h.2)
    ]

pub ends_inside : (g : ℕ → NodeState) (region : List ℕ) (p n a : ℕ) → Inside g region p a (ends_at n) → Ends g p n a
ends_inside g region p n a (stays {b} r named is to w) = goes r is to (ends_inside g region p n b w)
ends_inside g region p n a (ends r named is on) = stops r is on

pub ends_outside : (g : ℕ → NodeState) (region : List ℕ) (p n a b : ℕ) → Inside g region p a (leaves_to b) → Ends g p n b → Ends g p n a
ends_outside g region p n a b (leaves r named is to out) w = goes r is to w
ends_outside g region p n a b (stays {b = c} r named is to i) w = goes r is to (ends_outside g region p n c b i w)

not_both : {A : Type 0} {b : Bool} → b ≡ true → b ≡ false → A
not_both e f = absurd (cc)

value_same : (g k : ℕ → NodeState) (n p : ℕ) → record_at k n ≡ record_at g n → value_at g n p ≡ value_at k n p
value_same g k n p same = ap (λ (o : Option Record). value_in o p) (sym same)

module _ (g : ℕ → NodeState) (region : List ℕ) (k : ℕ → NodeState) (differs : DiffersIn g region k) where
  -- a walk that stays outside the region stays as it is
  pub stays_out : (p n a : ℕ) → Ends g p n a → ((c : ℕ) → Path g p c a → names region c ≡ true → ⊥) → Ends k p n a × (value_at g n p ≡ value_at k n p)
  stays_out p n a (stops r is on) away = next (names region n) refl
    where
      next : (t : Bool) → names region n ≡ t → Ends k p n n × (value_at g n p ≡ value_at k n p)
      next true named = absurd (away n arrives named)
      next false out = (stops r (differs.same n out ∙ is) on, value_same g k n p (differs.same n out))
  stays_out p n a (goes {b} r is to w) away = next (names region a) refl (stays_out p n b w (λ c path. away c (passes r is to path)))
    where
      next : (t : Bool) → names region a ≡ t → Ends k p n b × (value_at g n p ≡ value_at k n p) → Ends k p n a × (value_at g n p ≡ value_at k n p)
      next true named rest = absurd (away a arrives named)
      next false out rest = (goes r (differs.same a out ∙ is) to rest.0, rest.1)

  -- the walk after the change ends too, and finds the same value
  abbrev pub EndsAlike : ℕ → ℕ → ℕ → Type 0
  EndsAlike p n a = (m : ℕ) × Ends k p m a × (value_at g n p ≡ value_at k m p) × (names region n ≡ false → m ≡ n)

  module _ (keeps : KeepsWays g region k) (p : ℕ) (place : IsPlace p) where
    ends_from_entry : (n e : ℕ) → Enters g region p e → Ends g p n e → names region e ≡ true → EndsAlike p n e
    ends_from_entry n e enters w named = elim (goes_inside g region p n e w named) [
      | inl h ↦ ended (keeps.alike p e (ends_at n) place enters h.0) h.1
      | inr h ↦ left h.0 h.1 h.2 (keeps.alike p e (leaves_to h.0) place enters h.1)
    ]
      where
        ended : (q : Outcome) × Inside k region p e q × AreAlike g k p (ends_at n) q → names region n ≡ true → EndsAlike p n e
        ended (leaves_to b, i, alike) named' = absurd alike
        ended (ends_at m, i, alike) named' = (m, ends_inside k region p m e i, alike, λ out. not_both named' out)

        left : (b : ℕ) → Inside g region p e (leaves_to b) → Ends g p n b → (q : Outcome) × Inside k region p e q × AreAlike g k p (leaves_to b) q → EndsAlike p n e
        left b i rest (ends_at m, i', alike) = absurd alike
        left b i rest (leaves_to c, i', alike) =
            let out = stays_out p n b rest (λ d path. keeps.away p e b d place enters i path) in
            (n, ends_outside k region p n e c i' (subst (λ (x : ℕ). Ends k p n x) alike out.0), out.1, λ o. refl)

    ends_along : (n a : ℕ) → Ends g p n a → ((e : ℕ) → Meets g region p e a → Enters g region p e) → EndsAlike p n a
    ends_along n a (stops r is on) before = next (names region n) refl
      where
        next : (t : Bool) → names region n ≡ t → EndsAlike p n n
        next true named = ends_from_entry n n (before n (now named)) (stops r is on) named
        next false out = (n, stops r (differs.same n out ∙ is) on, value_same g k n p (differs.same n out), λ o. refl)
    ends_along n a (goes {b} r is to w) before = next (names region a) refl (λ out. ends_along n b w (λ e meets. before e (later r out is to meets)))
      where
        next : (t : Bool) → names region a ≡ t → (names region a ≡ false → EndsAlike p n b) → EndsAlike p n a
        next true named rest = ends_from_entry n a (before a (now named)) (goes r is to w) named
        next false out rest = let h = rest out in (h.0, goes r (differs.same a out ∙ is) to h.1, h.2, h.3)

    pub ends_after : (n : ℕ) → Ends g p n 0 → EndsAlike p n 0
    ends_after n w = ends_along n 0 w (λ e meets. meets)

  -- a walk after the change that enters the region and ends in it
  ends_entered : (p n e a : ℕ) → Meets k region p e a → Inside k region p e (ends_at n) → Ends k p n a
  ends_entered p n e a (now named) i = ends_inside k region p n e i
  ends_entered p n e a (later {b} r out is to meets) i = goes r is to (ends_entered p n e b meets i)

  module _ (keeps : KeepsWays g region k) (good : Good g) where
    walked : IsWalked g
    walked = good_walked g good

    leads_after : (n : ℕ) (r : Record) → record_at k n ≡ Some r → All (λ e. IsLive k e.node) r.edges
    leads_after n r is = next (names region n) refl
      where
        live_out : (m : ℕ) → IsLive g m → names region m ≡ false → IsLive k m
        live_out m live out = (live.0, differs.same m out ∙ live.1)

        to_node : (m : ℕ) (t : Bool) → names region m ≡ t → IsLive g m → (names region m ≡ true → IsLive k m) → IsLive k m
        to_node m true named live there = there named
        to_node m false out live there = live_out m live out

        next : (t : Bool) → names region n ≡ t → All (λ e. IsLive k e.node) r.edges
        next true named = keeps.leads n r named is
        next false out = λ i d lt. to_node _ _ refl (good.leads n r (sym (differs.same n out) ∙ is) i d lt) (keeps.frees n r out is i d lt)

    apart_after : AreApart k
    apart_after n r is = next (names region n) refl
      where
        next : (t : Bool) → names region n ≡ t → AllPairs (λ e f. (p : ℕ) → Carries e p → Carries f p → ⊥) r.edges
        next true named = keeps.apart n r named is
        next false out = good.apart n r (sym (differs.same n out) ∙ is)

    once_after : (n : ℕ) (r : Record) → record_at k n ≡ Some r → AllPairs (λ x y. x.place ≡ y.place → ⊥) r.pairs
    once_after n r is = next (names region n) refl
      where
        next : (t : Bool) → names region n ≡ t → AllPairs (λ x y. x.place ≡ y.place → ⊥) r.pairs
        next true named = keeps.once n r named is
        next false out = good.once n r (sym (differs.same n out) ∙ is)

    stored_after : (n : ℕ) (r : Record) → record_at k n ≡ Some r → All (λ x. IsPlace x.place × Ends k x.place n 0) r.pairs
    stored_after n r is = next (names region n) refl
      where
        same_end : (p : ℕ) → IsPlace p → names region n ≡ false → Ends g p n 0 → Ends k p n 0
        same_end p place out w = let h = ends_after keeps p place n w in subst (λ (m : ℕ). Ends k p m 0) (h.3 out) h.1

        next : (t : Bool) → names region n ≡ t → All (λ x. IsPlace x.place × Ends k x.place n 0) r.pairs
        next true named = λ i d lt. let h = keeps.stored n r named is i d lt in (h.0, ends_entered _ n h.1 0 h.2 h.3)
        next false out = λ i d lt. let h = walked.stored n r (sym (differs.same n out) ∙ is) i d lt in (h.0, same_end _ h.0 out h.1)

    walked_after : IsWalked k
    walked_after = record {
      root = keeps.root;
      apart = apart_after;
      leads = leads_after;
      ends = λ p place. let w = walked.ends p place in let h = ends_after keeps p place w.0 w.1 in (h.0, h.1);
      stored = stored_after;
      once = once_after;
    }

    pub good_after : Good k
    good_after = walked_good k walked_after

    pub found_after : SameFound g k
    found_after = record { at = λ p v place. (forth p v place, back p v place) }
      where
        in_g : (p n : ℕ) → IsPlace p → Ends g p n 0 → InKeyset g n p
        in_g p n place w = ends_keyset g p n good.root good.leads place w

        in_k : (p n : ℕ) → IsPlace p → Ends k p n 0 → InKeyset k n p
        in_k p n place w = ends_keyset k p n keeps.root leads_after place w

        forth : (p : ℕ) (v : Option ℕ) → IsPlace p → IsFound g p v → IsFound k p v
        forth p v place found =
            let w = walked.ends p place in
            let h = ends_after keeps p place w.0 w.1 in
            let is : v ≡ value_at k h.0 p = found_one g p w.0 v good (in_g p w.0 place w.1) found ∙ h.2 in
            subst (λ (o : Option ℕ). IsFound k p o) (sym is) (found_here k h.0 p good_after (in_k p h.0 place h.1))

        back : (p : ℕ) (v : Option ℕ) → IsPlace p → IsFound k p v → IsFound g p v
        back p v place found =
            let w = walked.ends p place in
            let h = ends_after keeps p place w.0 w.1 in
            let is : v ≡ value_at g w.0 p = found_one k p h.0 v good_after (in_k p h.0 place h.1) found ∙ sym h.2 in
            subst (λ (o : Option ℕ). IsFound g p o) (sym is) (found_here g w.0 p good (in_g p w.0 place w.1))
