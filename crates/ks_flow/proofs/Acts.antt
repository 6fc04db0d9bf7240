-- Records that act alike, in a region.
use Rattle.ks_keysets.specs.declared.Record.{Record}
use Rattle.std.proofs.Common.{ℕ, ◌≡◌, ◌⊎◌, inl, inr, true, false, List, Option, Some, refl, sym, ◌∙◌, ap, subst}
use Rattle.ks_keysets.specs.declared.NodeState.{NodeState}
use Rattle.ks_keysets.specs.Record.{Carries, LeadsTo, LeadsOn}
use Rattle.ks_keysets.specs.Keyset.{record_at, InInset, AreApart, Good, value_in}
use Rattle.ks_flow.specs.Walk.{Path, Ends, stops, goes}
use Rattle.ks_flow.specs.Ways.{names, Outcome, leaves_to, ends_at, Inside, leaves, stays, ends, AreAlike}
use Rattle.ks_flow.specs.Tree.{ActsAs}
use Rattle.ks_keysets.specs.Laws.Next.{edge_one, next_one, leads_on, leads_where, same_record}
use Rattle.ks_flow.proofs.Walks.{good_walked}
use Rattle.ks_flow.proofs.Edges.{same_or_apart}
use Rattle.std.specs.Prelude.{AllPairs}
use Rattle.ks_flow.proofs.Paths.{no_return, ends_reached}

pub inside_named : (g : ℕ → NodeState) (region : List ℕ) (p a : ℕ) (o : Outcome) → Inside g region p a o → names region a ≡ true
inside_named g region p a o (leaves r named is to out) = named
inside_named g region p a o (stays r named is to i) = named
inside_named g region p a o (ends r named is on) = named

-- the walk of a place does not come back to a node that it passed
pub no_way_back : (g : ℕ → NodeState) (p a b : ℕ) (r : Record) → Good g → InInset g a p → record_at g a ≡ Some r → LeadsTo r p b → Path g p a b → ⊥
no_way_back g p a b r good inset is to w =
    let end = (good_walked g good).ends p inset.0 in
    no_return g p end.0 a b r good.apart (ends_reached g p end.0 a good.apart inset.1 end.1) is to w

-- the record leads the walk to a node of the region, and there it has this outcome; or it leads to no node of the region
abbrev pub GoesOn : (ℕ → NodeState) → List ℕ → ℕ → Record → Outcome → Type 0
GoesOn g region p r o = (c : ℕ) × LeadsTo r p c × (names region c ≡ true) × Inside g region p c o

abbrev pub GoesOut : List ℕ → ℕ → Record → Type 0
GoesOut region p r = (c : ℕ) → LeadsTo r p c → names region c ≡ true → ⊥

pub goes_on : (g : ℕ → NodeState) (region : List ℕ) (p a : ℕ) (o : Outcome) (r : Record) → AreApart g → record_at g a ≡ Some r → Inside g region p a o → GoesOn g region p r o ⊎ GoesOut region p r
goes_on g region p a o r apart is (leaves {b} s named is' to out) = inr (λ c to' named'. absurd (clash b c (next_one g p a b c s r apart is' is to to') out named'))
  where
    clash : (b c : ℕ) → b ≡ c → names region b ≡ false → names region c ≡ true → ⊥
    clash b c e f t = let h : names region b ≡ names region c = ap (λ (m : ℕ). names region m) e in cc
goes_on g region p a o r apart is (stays {b} s named is' to i) =
    inl (b, subst (λ (t : Record). LeadsTo t p b) (same_record g a s r is' is) to, inside_named g region p b o i, i)
goes_on g region p a o r apart is (ends s named is' on) = inr (λ c to named'. absurd (on (subst (λ (t : Record). LeadsOn t p) (same_record g a r s is is') (leads_on r p c to))))

-- a node that goes out of the region, and one that acts like it
pub acts_out : (g k : ℕ → NodeState) (region : List ℕ) (p a b : ℕ) (o : Outcome) (r s : Record) → record_at g a ≡ Some r → record_at k b ≡ Some s → names region b ≡ true → ActsAs s r p → GoesOut region p r → Inside g region p a o → (q : Outcome) × Inside k region p b q × AreAlike g k p o q
acts_out g k region p a b o r s is is' named acts out (leaves {b = c} t named' it to away) =
    (leaves_to c, leaves s named is' (acts.to c (subst (λ (t : Record). LeadsTo t p c) (same_record g a t r it is) to)) away, refl)
acts_out g k region p a b o r s is is' named acts out (stays {b = c} t named' it to i) =
    absurd (out c (subst (λ (t : Record). LeadsTo t p c) (same_record g a t r it is) to) (inside_named g region p c o i))
acts_out g k region p a b o r s is is' named acts out (ends t named' it on) = (
  ends_at b,
  ends s named is' (λ on'. on (subst (λ (t : Record). LeadsOn t p) (same_record g a r t is it) (acts.on on'))),
  ap (λ (x : Option Record). value_in x p) is ∙ sym acts.value ∙ ap (λ (x : Option Record). value_in x p) (sym is'),
)

-- whether a record that a place reaches leads it to a node
pub leads_or_not : (g : ℕ → NodeState) (p a m : ℕ) (u : Record) → Good g → InInset g a p → record_at g a ≡ Some u → LeadsTo u p m ⊎ (LeadsTo u p m → ⊥)
leads_or_not g p a m u good inset is =
    let end = (good_walked g good).ends p inset.0 in
    look a end.0 (ends_reached g p end.0 a good.apart inset.1 end.1) is
  where
    look : (a n : ℕ) → Ends g p n a → record_at g a ≡ Some u → LeadsTo u p m ⊎ (LeadsTo u p m → ⊥)
    look a n (stops t is' on) is = inr (λ to. on (subst (λ (z : Record). LeadsOn z p) (same_record g a u t is is') (leads_on u p m to)))
    look a n (goes {b} t is' to w) is = elim (same_or_apart b m) [
      | inl e ↦ inl (subst (λ (c : ℕ). LeadsTo u p c) e (subst (λ (z : Record). LeadsTo z p b) (same_record g a t u is' is) to))
      | inr ne ↦ inr (λ to'. ne (next_one g p a b m t u good.apart is' is to to'))
    ]

-- if a record acts as another, it leads where that one leads
pub acts_back : (s r : Record) (p m : ℕ) → ActsAs s r p → AllPairs (λ e f. (p : ℕ) → Carries e p → Carries f p → ⊥) s.edges → LeadsTo s p m → LeadsTo r p m
acts_back s r p m acts apart to =
    let before = leads_where r p (acts.on (leads_on s p m to)) in
    subst (λ (c : ℕ). LeadsTo r p c) (edge_one s.edges p before.0 m apart (acts.to before.0 before.1) to) before.1
