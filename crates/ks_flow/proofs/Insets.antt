-- A change that keeps ways keeps the insets of the nodes outside its region.
use Rattle.ks_keysets.specs.declared.Record.{Record}
use Rattle.std.proofs.Common.{ℕ, ◌≡◌, inl, inr, Bool, true, false, List, Some, refl, sym, ◌∙◌, subst}
use Rattle.std.specs.Prelude.{All, ◌↔◌}
use Rattle.ks_keysets.specs.declared.NodeState.{NodeState}
use Rattle.ks_keysets.specs.Record.{IsPlace, LeadsTo, LeadsOn}
use Rattle.ks_keysets.specs.Keyset.{record_at, IsLive, Reaches, at_root, along, InInset, AreApart, Good}
use Rattle.ks_flow.specs.Walk.{Path, arrives, passes, Ends, stops, goes}
use Rattle.ks_flow.specs.Ways.{names, Meets, now, later, Enters, Outcome, leaves_to, ends_at, Inside, leaves, stays, AreAlike, DiffersIn, KeepsWays}
use Rattle.ks_keysets.specs.Laws.Next.{next_one, leads_on, same_record, target_live}
use Rattle.ks_flow.proofs.Walks.{good_walked}
use Rattle.ks_flow.proofs.Regions.{goes_inside, good_after}
use Rattle.ks_flow.proofs.Paths.{path_then, path_root, inside_one}

not_both : {A : Type 0} {b : Bool} → b ≡ true → b ≡ false → A
not_both e f = absurd (cc)

-- a path from a node of the region to one outside leaves the region
path_inside : (g : ℕ → NodeState) (region : List ℕ) (p n a : ℕ) → Path g p n a → names region a ≡ true → names region n ≡ false → (b : ℕ) × Inside g region p a (leaves_to b) × Path g p n b
path_inside g region p n a arrives named out = not_both named out
path_inside g region p n a (passes {b} r is to w) named out = next (names region b) refl (λ h. path_inside g region p n b w h out)
  where
    next : (t : Bool) → names region b ≡ t → (names region b ≡ true → (c : ℕ) × Inside g region p b (leaves_to c) × Path g p n c) → (c : ℕ) × Inside g region p a (leaves_to c) × Path g p n c
    next false h rest = (b, leaves r named is to h, w)
    next true h rest = let y = rest h in (y.0, stays r named is to y.1, y.2)

leaves_path : (g : ℕ → NodeState) (region : List ℕ) (p a b : ℕ) → Inside g region p a (leaves_to b) → Path g p b a
leaves_path g region p a b (leaves r named is to out) = passes r is to arrives
leaves_path g region p a b (stays {b = c} r named is to i) = passes r is to (leaves_path g region p c b i)

path_reaches : (g : ℕ → NodeState) (p n a : ℕ) → ((m : ℕ) (r : Record) → record_at g m ≡ Some r → All (λ e. IsLive g e.node) r.edges) → Reaches g p a → Path g p n a → Reaches g p n
path_reaches g p n a leads reach arrives = reach
path_reaches g p n a leads reach (passes {b} r is to w) = path_reaches g p n b leads (along r reach is to (target_live g r p b (leads a r is) to)) w

ends_next : (g : ℕ → NodeState) (p n a b : ℕ) (r : Record) → AreApart g → Ends g p n a → record_at g a ≡ Some r → LeadsTo r p b → Ends g p n b
ends_next g p n a b r apart (stops s is' on) is to = absurd (on (subst (λ (t : Record). LeadsOn t p) (same_record g n r s is is') (leads_on r p b to)))
ends_next g p n a b r apart (goes {b = c} s is' to' w) is to = subst (λ (m : ℕ). Ends g p n m) (next_one g p a c b s r apart is' is to' to) w

module _ (g : ℕ → NodeState) (region : List ℕ) (k : ℕ → NodeState) (differs : DiffersIn g region k) (keeps : KeepsWays g region k) (good : Good g) where
  abbrev Clean : ℕ → ℕ → Type 0
  Clean p b = (c : ℕ) → Path g p c b → names region c ≡ true → ⊥

  outside_of : (p a : ℕ) → Clean p a → names region a ≡ false
  outside_of p a clean = go (names region a) refl
    where
      go : (t : Bool) → names region a ≡ t → names region a ≡ false
      go true h = absurd (clean a arrives h)
      go false h = h

  path_out : (p n a : ℕ) → Path g p n a → Clean p a → Path k p n a
  path_out p n a arrives clean = arrives
  path_out p n a (passes {b} r is to w) clean = passes r (differs.same a (outside_of p a clean) ∙ is) to (path_out p n b w (λ c v. clean c (passes r is to v)))

  path_in : (p n a : ℕ) → Path k p n a → Clean p a → Path g p n a
  path_in p n a arrives clean = arrives
  path_in p n a (passes {b} r is to w) clean =
      let is' : record_at g a ≡ Some r = sym (differs.same a (outside_of p a clean)) ∙ is in
      passes r is' to (path_in p n b w (λ c v. clean c (passes r is' to v)))

  good_k : Good k
  good_k = good_after g region k differs keeps good

  module _ (p : ℕ) (place : IsPlace p) where
    -- the walk from a node at which it enters the region
    forth_entered : (n a : ℕ) → Path g p n a → Enters g region p a → names region n ≡ false → names region a ≡ true → Path k p n a
    forth_entered n a w enters out named =
        let y = path_inside g region p n a w named out in
        let z = keeps.alike p a (leaves_to y.0) place enters y.1 in
        left y.0 z.0 z.1 z.2 (path_out p n y.0 y.2 (λ c v h. keeps.away p a y.0 c place enters y.1 v h))
      where
        left : (b : ℕ) (q : Outcome) → Inside k region p a q → AreAlike g k p (leaves_to b) q → Path k p n b → Path k p n a
        left b (leaves_to c) i alike v = path_then k p c n a (leaves_path k region p a c i) (subst (λ (x : ℕ). Path k p n x) alike v)
        left b (ends_at c) i alike v = absurd alike

    forth : (n a : ℕ) → Path g p n a → ((e : ℕ) → Meets g region p e a → Enters g region p e) → names region n ≡ false → Path k p n a
    forth n a arrives before out = arrives
    forth n a (passes {b} r is to w) before out = go (names region a) refl (λ h. forth n b w (λ e m. before e (later r h is to m)) out)
      where
        go : (t : Bool) → names region a ≡ t → (names region a ≡ false → Path k p n b) → Path k p n a
        go true named rest = forth_entered n a (passes r is to w) (before a (now named)) out named
        go false h rest = passes r (differs.same a h ∙ is) to (rest h)

    back_entered : (n a end : ℕ) → Path k p n a → Enters g region p a → Ends g p end a → names region n ≡ false → names region a ≡ true → Path g p n a
    back_entered n a end w enters ends' out named =
        let y = path_inside k region p n a w named out in
        elim (goes_inside g region p end a ends' named) [
          | inl h ↦ (let z = keeps.alike p a (ends_at end) place enters h.0 in absurd (ended z.0 y.0 z.2 (inside_one k region p a a z.0 (leaves_to y.0) good_k.apart refl z.1 y.1)))
          | inr h ↦ (let z = keeps.alike p a (leaves_to h.0) place enters h.1 in left h.0 y.0 z.0 h.1 z.2 (inside_one k region p a a z.0 (leaves_to y.0) good_k.apart refl z.1 y.1) y.2)
        ]
      where
        ended : (q : Outcome) (c : ℕ) → AreAlike g k p (ends_at end) q → q ≡ leaves_to c → ⊥
        ended (leaves_to b) c alike same = alike
        ended (ends_at b) c alike same = cc

        left : (b c : ℕ) (q : Outcome) → Inside g region p a (leaves_to b) → AreAlike g k p (leaves_to b) q → q ≡ leaves_to c → Path k p n c → Path g p n a
        left b c (leaves_to d) i alike same v =
            let e : d ≡ c = cc in
            let bc : c ≡ b = sym e ∙ sym alike in
            path_then g p b n a (leaves_path g region p a b i) (path_in p n b (subst (λ (x : ℕ). Path k p n x) bc v) (λ m u h. keeps.away p a b m place enters i u h))
        left b c (ends_at d) i alike same v = absurd alike

    back : (n a end : ℕ) → Path k p n a → Ends g p end a → ((e : ℕ) → Meets g region p e a → Enters g region p e) → names region n ≡ false → Path g p n a
    back n a end arrives ends' before out = arrives
    back n a end (passes {b} r is to w) ends' before out =
        go (names region a) refl (λ h is'. back n b end w (ends_next g p end a b r good.apart ends' is' to) (λ e m. before e (later r h is' to m)) out)
      where
        go : (t : Bool) → names region a ≡ t → (names region a ≡ false → record_at g a ≡ Some r → Path g p n b) → Path g p n a
        go true named rest = back_entered n a end (passes r is to w) (before a (now named)) ends' out named
        go false h rest = let is' : record_at g a ≡ Some r = sym (differs.same a h) ∙ is in passes r is' to (rest h is')

  pub insets_stay : (n p : ℕ) → names region n ≡ false → InInset k n p ↔ InInset g n p
  insets_stay n p out = (
    λ i. let e = (good_walked g good).ends p i.0 in (i.0, path_reaches g p n 0 good.leads (at_root good.root) (back p i.0 n 0 e.0 (path_root k p n n i.1 arrives) e.1 (λ e m. m) out)),
    λ i. (i.0, path_reaches k p n 0 good_k.leads (at_root good_k.root) (forth p i.0 n 0 (path_root g p n n i.1 arrives) (λ e m. m) out)),
  )
