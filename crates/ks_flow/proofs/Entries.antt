-- Regions that are entered at one node.
use Rattle.ks_keysets.specs.declared.Record.{Record}
use Rattle.std.proofs.Common.{ℕ, ◌≡◌, inl, inr, Bool, true, false, List, Some, refl, sym, ◌∙◌, ap, subst}
use Rattle.std.specs.Prelude.{All}
use Rattle.ks_keysets.specs.declared.NodeState.{NodeState}
use Rattle.ks_keysets.specs.Record.{IsPlace, LeadsTo}
use Rattle.ks_keysets.specs.Keyset.{record_at, IsLive, Reaches, at_root, along, InInset, Good}
use Rattle.ks_flow.specs.Walk.{Path, arrives}
use Rattle.ks_flow.specs.Ways.{names, Meets, now, later, Enters, Outcome, leaves_to, ends_at, Inside, leaves, stays, AreAlike, DiffersIn, KeepsWays}
use Rattle.ks_flow.proofs.Entry.{EntryRegion}
use Rattle.ks_keysets.specs.Laws.Next.{target_live}
use Rattle.ks_flow.proofs.Walks.{good_walked}
use Rattle.ks_flow.proofs.Regions.{goes_inside, good_after}
use Rattle.ks_flow.proofs.Paths.{path_then, path_root, path_meets, meets_path, leaves_path, no_return, ends_reached, inside_one, reaches_out, leads_between, edge_between}

not_both : {A : Type 0} {b : Bool} → b ≡ true → b ≡ false → A
not_both e f = absurd (cc)

module _ (g : ℕ → NodeState) (region : List ℕ) (k : ℕ → NodeState) (e : ℕ) (differs : DiffersIn g region k) (entry : EntryRegion g region k e) (good : Good g) where
  -- a walk meets the region at its entry
  meets_entry : (p a b : ℕ) → Reaches g p b → (names region b ≡ true → b ≡ e) → Meets g region p a b → (a ≡ e) × Reaches g p a
  meets_entry p a b reach first (now named) = (first named, reach)
  meets_entry p a b reach first (later {b = c} r out is to w) =
      meets_entry p a c (along r reach is to (target_live g r p c (good.leads b r is) to)) (λ named. entry.alone b c out named (leads_between g b p c r is to)) w

  enters_entry : (p a : ℕ) → Enters g region p a → (a ≡ e) × Reaches g p a
  enters_entry p a w = meets_entry p a 0 (at_root good.root) (λ named. entry.root named) w

  meets_after : (p a b : ℕ) → Meets g region p a b → Meets k region p a b
  meets_after p a b (now named) = now named
  meets_after p a b (later {b = c} r out is to w) = later r out (differs.same b out ∙ is) to (meets_after p a c w)

  -- the walks of the places that reach the entry enter the region there
  enters_after : (p : ℕ) → Reaches g p e → Enters k region p e
  enters_after p reach =
      let m = path_meets g region p e 0 (path_root g p e e reach arrives) entry.entry in
      subst (λ (a : ℕ). Enters k region p a) (enters_entry p m.0 m.1).0 (meets_after p m.0 0 m.1)

  away : (p a b c : ℕ) → IsPlace p → Enters g region p a → Inside g region p a (leaves_to b) → Path g p c b → names region c ≡ true → ⊥
  away p a b c place enters i path named =
      let w = good_walked g good in
      let end = w.ends p place in
      let h = enters_entry p a enters in
      let i' : Inside g region p e (leaves_to b) = subst (λ (m : ℕ). Inside g region p m (leaves_to b)) h.0 i in
      let reach : Reaches g p e = subst (λ (m : ℕ). Reaches g p m) h.0 h.1 in
      let m = path_meets g region p c b path named in
      let back = meets_entry p m.0 b (reaches_out g region p e b good reach i') (λ n. not_both n (left_out e i')) m.1 in
      let v = leaves_path g region p e b i' in
      no_return g p end.0 e v.0 v.1 good.apart (ends_reached g p end.0 e good.apart reach end.1) v.2 v.3
      (path_then g p b e v.0 v.4 (subst (λ (x : ℕ). Path g p x b) back.0 (meets_path g region p m.0 b m.1)))
    where
      left_out : (a : ℕ) → Inside g region p a (leaves_to b) → names region b ≡ false
      left_out a (leaves r named is to out) = out
      left_out a (stays {b = c} r named is to i) = left_out c i

  pub keeps_ways : KeepsWays g region k
  keeps_ways = record {
    away = away;
    alike = λ p a o place enters i.
        let h = enters_entry p a enters in
        alike_at p a o h.0 (place, subst (λ (m : ℕ). Reaches g p m) h.0 h.1) i;
    root = root_live (names region 0) refl;
    apart = entry.apart;
    leads = entry.leads;
    frees = λ n r out is i d lt named. frees n r out is i d lt named;
    stored = λ n r named is i d lt. let h = entry.stored n r named is i d lt in (h.0.0, e, enters_after _ h.0.1, h.1);
    once = entry.once;
  }
    where
      alike_at : (p a : ℕ) (o : Outcome) → a ≡ e → InInset g e p → Inside g region p a o → (q : Outcome) × Inside k region p a q × AreAlike g k p o q
      alike_at p a o same inset i =
          let h = entry.alike p o inset (subst (λ (m : ℕ). Inside g region p m o) same i) in
          (h.0, subst (λ (m : ℕ). Inside k region p m h.0) (sym same) h.1, h.2)

      root_live : (t : Bool) → names region 0 ≡ t → IsLive k 0
      root_live true named = subst (λ (m : ℕ). IsLive k m) (sym (entry.root named)) entry.live
      root_live false out = (good.root.0, differs.same 0 out ∙ good.root.1)

      frees : (n : ℕ) (r : Record) → names region n ≡ false → record_at k n ≡ Some r → All (λ e. names region e.node ≡ true → IsLive k e.node) r.edges
      frees n r out is i d lt named = subst (λ (m : ℕ). IsLive k m) (sym (entry.alone n _ out named (edge_between g n r (sym (differs.same n out) ∙ is) i d lt))) entry.live

  -- insets after the change

  good_k : Good k
  good_k = good_after g region k differs keeps_ways good

  live_k : (n p b : ℕ) (r : Record) → record_at k n ≡ Some r → LeadsTo r p b → IsLive k b
  live_k n p b r is to = target_live k r p b (good_k.leads n r is) to

  live_g : (n p b : ℕ) (r : Record) → record_at g n ≡ Some r → LeadsTo r p b → IsLive g b
  live_g n p b r is to = target_live g r p b (good.leads n r is) to

  -- the walks of the places that reach the entry come to an outcome in the region
  outcome : (p : ℕ) → InInset g e p → (o : Outcome) × Inside g region p e o
  outcome p inset =
      let w = (good_walked g good).ends p inset.0 in
      elim (goes_inside g region p w.0 e (ends_reached g p w.0 e good.apart inset.1 w.1) entry.entry) [
        | inl h ↦ (ends_at w.0, h.0)
        | inr h ↦ (leaves_to h.0, h.1)
      ]

  leaves_back : (p b : ℕ) → InInset g e p → Inside k region p e (leaves_to b) → Inside g region p e (leaves_to b)
  leaves_back p b inset i =
      let o = outcome p inset in
      let q = entry.alike p o.0 inset o.1 in
      go o.0 q.0 o.1 q.2 (inside_one k region p e e q.0 (leaves_to b) good_k.apart refl q.1 i)
    where
      go : (o q : Outcome) → Inside g region p e o → AreAlike g k p o q → q ≡ leaves_to b → Inside g region p e (leaves_to b)
      go (leaves_to c) (leaves_to d) i' alike same = subst (λ (o : Outcome). Inside g region p e o) (ap leaves_to alike ∙ same) i'
      go (leaves_to c) (ends_at d) i' alike same = absurd alike
      go (ends_at c) (leaves_to d) i' alike same = absurd alike
      go (ends_at c) (ends_at d) i' alike same = absurd (cc)

  leaves_on : (p b : ℕ) → InInset g e p → Inside g region p e (leaves_to b) → Inside k region p e (leaves_to b)
  leaves_on p b inset i = go (entry.alike p (leaves_to b) inset i)
    where
      go : (q : Outcome) × Inside k region p e q × AreAlike g k p (leaves_to b) q → Inside k region p e (leaves_to b)
      go (leaves_to c, i', alike) = subst (λ (x : ℕ). Inside k region p e (leaves_to x)) (sym alike) i'
      go (ends_at c, i', alike) = absurd alike

  abbrev Back : ℕ → ℕ → Type 0
  Back p n = (names region n ≡ false → Reaches g p n) × (names region n ≡ true → Reaches g p e × ((o : Outcome) → Inside k region p n o → Inside k region p e o))

  at_entry_back : (p n : ℕ) → n ≡ e → Reaches g p n → Reaches g p e × ((o : Outcome) → Inside k region p n o → Inside k region p e o)
  at_entry_back p n same reach = (subst (λ (m : ℕ). Reaches g p m) same reach, λ o i. subst (λ (m : ℕ). Inside k region p m o) same i)

  back : (p n : ℕ) → IsPlace p → Reaches k p n → Back p n
  back p n place (at_root live) = (λ out. at_root good.root, λ named. at_entry_back p 0 (entry.root named) (at_root good.root))
  back p n place (along {n = m} r reach is to live) = step (names region m) refl (back p m place reach)
    where
      step : (t : Bool) → names region m ≡ t → Back p m → Back p n
      step false out before =
          let is' : record_at g m ≡ Some r = sym (differs.same m out) ∙ is in
          let on : Reaches g p n = along r (before.0 out) is' to (live_g m p n r is' to) in
          (λ o. on, λ named. at_entry_back p n (entry.alone m n out named (leads_between g m p n r is' to)) on)
      step true there before =
          let b = before.1 there in
          (λ o. reaches_out g region p e n good b.0 (leaves_back p n (place, b.0) (b.1 (leaves_to n) (leaves r there is to o))), λ named. (b.0, λ o i. b.1 o (stays r there is to i)))

  abbrev Forth : ℕ → ℕ → Type 0
  Forth p n = (names region n ≡ false → Reaches k p n) × (names region n ≡ true → Reaches k p e × Reaches g p e × ((o : Outcome) → Inside g region p n o → Inside g region p e o))

  at_entry_forth : (p n : ℕ) → n ≡ e → Reaches k p n → Reaches g p n → Reaches k p e × Reaches g p e × ((o : Outcome) → Inside g region p n o → Inside g region p e o)
  at_entry_forth p n same reach reach' = (subst (λ (m : ℕ). Reaches k p m) same reach, subst (λ (m : ℕ). Reaches g p m) same reach', λ o i. subst (λ (m : ℕ). Inside g region p m o) same i)

  forth : (p n : ℕ) → IsPlace p → Reaches g p n → Forth p n
  forth p n place (at_root live) = (λ out. at_root good_k.root, λ named. at_entry_forth p 0 (entry.root named) (at_root good_k.root) (at_root good.root))
  forth p n place (along {n = m} r reach is to live) = step (names region m) refl (forth p m place reach)
    where
      step : (t : Bool) → names region m ≡ t → Forth p m → Forth p n
      step false out before =
          let is' : record_at k m ≡ Some r = differs.same m out ∙ is in
          let on : Reaches k p n = along r (before.0 out) is' to (live_k m p n r is' to) in
          (λ o. on, λ named. at_entry_forth p n (entry.alone m n out named (leads_between g m p n r is to)) on (along r reach is to live))
      step true there before =
          let b = before.1 there in
          (λ o. reaches_out k region p e n good_k b.0 (leaves_on p n (place, b.1) (b.2 (leaves_to n) (leaves r there is to o))), λ named. (b.0, b.1, λ o i. b.2 o (stays r there is to i)))

  -- the nodes outside keep their insets, and so does the entry

  pub inset_back : (n p : ℕ) → names region n ≡ false → InInset k n p → InInset g n p
  inset_back n p out h = (h.0, (back p n h.0 h.1).0 out)

  pub inset_forth : (n p : ℕ) → names region n ≡ false → InInset g n p → InInset k n p
  inset_forth n p out h = (h.0, (forth p n h.0 h.1).0 out)

  pub entry_back : (p : ℕ) → InInset k e p → InInset g e p
  entry_back p h = let b = (back p e h.0 h.1).1 entry.entry in (h.0, b.0)

  pub entry_forth : (p : ℕ) → InInset g e p → InInset k e p
  entry_forth p h = let b = (forth p e h.0 h.1).1 entry.entry in (h.0, b.0)
