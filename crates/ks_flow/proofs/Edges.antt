-- One edge at most leads to each node, after a change of a region.
use Rattle.ks_keysets.specs.declared.Record.{Record}
use Rattle.std.proofs.Common.{ℕ, suc, ◌≡◌, ◌<◌, ◌≤◌, ◌+◌, ◌==◌, ◌||◌, ◌⊎◌, inl, inr, Bool, true, false, List, [], ◌∷◌, get_or, Option, Some, None, refl, sym, ◌∙◌, ap, subst, arith, eq-eqb}
use Rattle.std.specs.Prelude.{All}
use Rattle.std.proofs.lemmas.Bool.{ne_eqb}
use Rattle.std.proofs.lemmas.Bool.Decides.{eqb_tells}
use Rattle.ks_keysets.specs.declared.Edge.{Edge}
use Rattle.ks_keysets.specs.declared.NodeState.{NodeState}
use Rattle.ks_keysets.specs.Record.{LeadsTo}
use Rattle.ks_keysets.specs.Keyset.{record_at, IsLive, Reaches, at_root, along, InInset, Good}
use Rattle.ks_flow.specs.Ways.{names, DiffersIn}
use Rattle.ks_flow.specs.Tree.{edges_to, edges_in, edges_between, OneEdge}
use Rattle.ks_flow.proofs.Entry.{edges_into, AreDistinct, EdgesKept}
use Rattle.ks_flow.proofs.Paths.{edge_between, leads_between}

pub same_or_apart : (a b : ℕ) → (a ≡ b) ⊎ (a ≡ b → ⊥)
same_or_apart a b = elim (eqb_tells a b) [ inl e ↦ inl e.1 | inr e ↦ inr e.1 ]

-- names of nodes

pub named_here : (a : ℕ) (ns : List ℕ) → names (a ∷ ns) a ≡ true
named_here a ns = let t : (a == a) ≡ true = eq-eqb a a refl in rw t refl

pub named_there : (a : ℕ) (ns : List ℕ) (n : ℕ) → names ns n ≡ true → names (a ∷ ns) n ≡ true
named_there a ns n h = go (a == n) h
  where
    go : (t : Bool) → names ns n ≡ true → (t || names ns n) ≡ true
    go true h = refl
    go false h = h

pub named_either : (a : ℕ) (ns : List ℕ) (n : ℕ) → names (a ∷ ns) n ≡ true → (n ≡ a) ⊎ (names ns n ≡ true)
named_either a ns n h = elim (same_or_apart a n) [
  | inl e ↦ inl (sym e)
  | inr ne ↦ inr (let t : (a == n) ≡ false = ne_eqb a n ne in rw t at h)
]

pub out_either : (a : ℕ) (ns : List ℕ) (n : ℕ) → names (a ∷ ns) n ≡ false → (n ≡ a → ⊥) × (names ns n ≡ false)
out_either a ns n h = elim (same_or_apart a n) [
  | inl e ↦ absurd (let t : (a == n) ≡ true = eq-eqb a n e in let u : true ≡ false = rw t at h in cc)
  | inr ne ↦ ((λ e. ne (sym e)), let t : (a == n) ≡ false = ne_eqb a n ne in rw t at h)
]

pub out_of : (a : ℕ) (ns : List ℕ) (n : ℕ) → (n ≡ a → ⊥) → names ns n ≡ false → names (a ∷ ns) n ≡ false
out_of a ns n ne h = let t : (a == n) ≡ false = ne_eqb a n (λ e. ne (sym e)) in rw t h

not_both : {A : Type 0} {b : Bool} → b ≡ true → b ≡ false → A
not_both e f = absurd (cc)

-- edges to nodes that are not live

none_to : (g : ℕ → NodeState) (es : List Edge) (m : ℕ) → record_at g m ≡ None → All (λ e. IsLive g e.node) es → edges_to es m ≡ 0
none_to g [] m none all = refl
none_to g (e ∷ es) m none all = go (same_or_apart e.node m) (none_to g es m none (λ k d lt. all (suc k) d (omega arith)))
  where
    go : (e.node ≡ m) ⊎ (e.node ≡ m → ⊥) → edges_to es m ≡ 0 → edges_to (e ∷ es) m ≡ 0
    go (inl same) rest = let live : IsLive g m = subst (λ (n : ℕ). IsLive g n) same (all 0 e (omega arith)) in let h : Some live.0 ≡ None = sym live.1 ∙ none in absurd (cc)
    go (inr apart) rest = let t : (e.node == m) ≡ false = ne_eqb e.node m apart in rw t (omega (arith, rest))

pub none_between : (g : ℕ → NodeState) (n m : ℕ) → Good g → record_at g m ≡ None → edges_between g n m ≡ 0
none_between g n m good none = go (record_at g n) refl
  where
    go : (o : Option Record) → record_at g n ≡ o → edges_in o m ≡ 0
    go None is = refl
    go (Some r) is = none_to g r.edges m none (good.leads n r is)

pub none_into : (g : ℕ → NodeState) (ns : List ℕ) (m : ℕ) → Good g → record_at g m ≡ None → edges_into g ns m ≡ 0
none_into g [] m good none = refl
none_into g (n ∷ ns) m good none = omega (arith, none_between g n m good none, none_into g ns m good none)

-- sums over a region

in_sum : (g : ℕ → NodeState) (ns : List ℕ) (n m : ℕ) → names ns n ≡ true → edges_between g n m ≤ edges_into g ns m
in_sum g [] n m named = absurd (cc)
in_sum g (a ∷ ns) n m named = go (named_either a ns n named) (in_sum g ns n m)
  where
    go : (n ≡ a) ⊎ (names ns n ≡ true) → (names ns n ≡ true → edges_between g n m ≤ edges_into g ns m) → edges_between g n m ≤ edges_into g (a ∷ ns) m
    go (inl e) rest = let h : edges_between g n m ≡ edges_between g a m = ap (λ (x : ℕ). edges_between g x m) e in omega arith
    go (inr h) rest = omega (arith, rest h)

two_in_sum : (g : ℕ → NodeState) (ns : List ℕ) (n l m : ℕ) → (n ≡ l → ⊥) → names ns n ≡ true → names ns l ≡ true → edges_between g n m + edges_between g l m ≤ edges_into g ns m
two_in_sum g [] n l m apart named named' = absurd (cc)
two_in_sum g (a ∷ ns) n l m apart named named' = go (named_either a ns n named) (named_either a ns l named') (two_in_sum g ns n l m apart)
  where
    go : (n ≡ a) ⊎ (names ns n ≡ true) → (l ≡ a) ⊎ (names ns l ≡ true) → (names ns n ≡ true → names ns l ≡ true → edges_between g n m + edges_between g l m ≤ edges_into g ns m) → edges_between g n m + edges_between g l m ≤ edges_into g (a ∷ ns) m
    go (inl e) (inl e') rest = absurd (apart (e ∙ sym e'))
    go (inl e) (inr h) rest = let i : edges_between g n m ≡ edges_between g a m = ap (λ (x : ℕ). edges_between g x m) e in omega (arith, in_sum g ns l m h)
    go (inr h) (inl e) rest = let i : edges_between g l m ≡ edges_between g a m = ap (λ (x : ℕ). edges_between g x m) e in omega (arith, in_sum g ns n m h)
    go (inr h) (inr h') rest = omega (arith, rest h h')

out_and_sum : (g : ℕ → NodeState) (ns : List ℕ) (n m : ℕ) → OneEdge g → AreDistinct ns → names ns n ≡ false → edges_between g n m + edges_into g ns m ≤ 1
out_and_sum g [] n m one distinct out = omega (arith, one.one m n (suc n) (λ e. omega arith))
out_and_sum g (a ∷ ns) n m one distinct out =
    let h = out_either a ns n out in
    omega (arith, out_and_sum g ns n m one distinct.1 h.1, out_and_sum g ns a m one distinct.1 distinct.0, one.one m n a h.0)

sum_one : (g : ℕ → NodeState) (ns : List ℕ) (m : ℕ) → OneEdge g → AreDistinct ns → edges_into g ns m ≤ 1
sum_one g [] m one distinct = omega arith
sum_one g (a ∷ ns) m one distinct = out_and_sum g ns a m one distinct.1 distinct.0

sum_none : (g : ℕ → NodeState) (ns : List ℕ) → OneEdge g → edges_into g ns 0 ≡ 0
sum_none g [] one = refl
sum_none g (a ∷ ns) one = omega (arith, one.none a, sum_none g ns one)

module _ (g : ℕ → NodeState) (region : List ℕ) (k : ℕ → NodeState) (added lost : List ℕ) (differs : DiffersIn g region k) (kept : EdgesKept g region k added lost) (good : Good g) where
  outside_same : (n m : ℕ) → names region n ≡ false → edges_between k n m ≡ edges_between g n m
  outside_same n m out = ap (λ (o : Option Record). edges_in o m) (differs.same n out)

  module _ (one : OneEdge g) where
    -- the edges from the region and from one node outside, after the change
    with_outside : (n m : ℕ) → names region n ≡ false → edges_between g n m + edges_into k region m ≤ 1
    with_outside n m out = go (names added m) (names lost m) refl refl
      where
        go : (s t : Bool) → names added m ≡ s → names lost m ≡ t → edges_between g n m + edges_into k region m ≤ 1
        go true t a l = let h = kept.new m a in omega (arith, none_between g n m good h.0, h.2)
        go false true a l = omega (arith, out_and_sum g region n m one kept.distinct out, kept.gone m l)
        go false false a l = omega (arith, out_and_sum g region n m one kept.distinct out, kept.kept m a l)

    alone_sum : (m : ℕ) → edges_into k region m ≤ 1
    alone_sum m = go (names added m) (names lost m) refl refl
      where
        go : (s t : Bool) → names added m ≡ s → names lost m ≡ t → edges_into k region m ≤ 1
        go true t a l = let h = kept.new m a in h.2
        go false true a l = omega (arith, kept.gone m l)
        go false false a l = omega (arith, sum_one g region m one kept.distinct, kept.kept m a l)

    pub one_after : OneEdge k
    one_after = record { one = λ m n l apart. go m n l apart (names region n) (names region l) refl refl; none = none }
      where
        go : (m n l : ℕ) → (n ≡ l → ⊥) → (s t : Bool) → names region n ≡ s → names region l ≡ t → edges_between k n m + edges_between k l m ≤ 1
        go m n l apart true true h h' = omega (arith, two_in_sum k region n l m apart h h', alone_sum m)
        go m n l apart true false h h' = omega (arith, in_sum k region n m h, outside_same l m h', with_outside l m h')
        go m n l apart false true h h' = omega (arith, in_sum k region l m h', outside_same n m h, with_outside n m h)
        go m n l apart false false h h' = omega (arith, outside_same n m h, outside_same l m h', one.one m n l apart)

        zero : edges_into k region 0 ≡ 0
        zero = go' (names added 0) (names lost 0) refl refl
          where
            go' : (s t : Bool) → names added 0 ≡ s → names lost 0 ≡ t → edges_into k region 0 ≡ 0
            go' true t a l = let h = kept.new 0 a in let e : Some good.root.0 ≡ None = sym good.root.1 ∙ h.0 in absurd (cc)
            go' false true a l = kept.gone 0 l
            go' false false a l = omega (arith, kept.kept 0 a l, sum_none g region one)

        none : (n : ℕ) → edges_between k n 0 ≡ 0
        none n = go' (names region n) refl
          where
            go' : (t : Bool) → names region n ≡ t → edges_between k n 0 ≡ 0
            go' true h = omega (arith, in_sum k region n 0 h, zero)
            go' false h = outside_same n 0 h ∙ one.none n

  -- the edges of the region lead to live nodes
  pub leads_kept : (n : ℕ) (r : Record) → names region n ≡ true → record_at k n ≡ Some r → All (λ e. IsLive k e.node) r.edges
  leads_kept n r named is i d lt = at_node _ (omega (arith, edge_between k n r is i d lt, in_sum k region n (get_or r.edges i d).node named))
    where
      at_node : (m : ℕ) → 0 < edges_into k region m → IsLive k m
      at_node m some = go (names added m) (names lost m) (names region m) refl refl refl
        where
          look : (o : Option Record) → record_at g m ≡ o → names added m ≡ false → names lost m ≡ false → IsLive g m
          look (Some s) is' a l = (s, is')
          look None is' a l = absurd (omega (arith, some, kept.kept m a l, none_into g region m good is'))

          go : (s t u : Bool) → names added m ≡ s → names lost m ≡ t → names region m ≡ u → IsLive k m
          go true t u a l h = (kept.new m a).1
          go false true u a l h = absurd (omega (arith, some, kept.gone m l))
          go false false true a l h = kept.live m h l
          go false false false a l h = let live = look (record_at g m) refl a l in (live.0, differs.same m h ∙ live.1)

-- if one node leads to a node, places come to it only through that node
pub sole_parent : (g : ℕ → NodeState) (e x p : ℕ) (s : Record) → OneEdge g → record_at g e ≡ Some s → 0 < edges_to s.edges x → Reaches g p x → Reaches g p e × LeadsTo s p x
sole_parent g e x p s one is some (at_root live) = absurd (omega (arith, one.none e, subst (λ (o : Option Record). 0 < edges_in o 0) (sym is) some))
sole_parent g e x p s one is some (along {n} r reach is' to live) = go (same_or_apart n e)
  where
    here : 0 < edges_between g e x
    here = subst (λ (o : Option Record). 0 < edges_in o x) (sym is) some

    go : (n ≡ e) ⊎ (n ≡ e → ⊥) → Reaches g p e × LeadsTo s p x
    go (inl same) =
        let is'' : record_at g e ≡ Some r = subst (λ (m : ℕ). record_at g m ≡ Some r) same is' in
        let rs : r ≡ s = cc in
        (subst (λ (m : ℕ). Reaches g p m) same reach, subst (λ (t : Record). LeadsTo t p x) rs to)
    go (inr apart) = absurd (omega (arith, one.one x n e apart, here, leads_between g n p x r is' to))

-- so the one node leads to it at each place of its inset
pub leads_all : (k : ℕ → NodeState) (e x : ℕ) (s : Record) → OneEdge k → record_at k e ≡ Some s → 0 < edges_to s.edges x → (p : ℕ) (r : Record) → record_at k e ≡ Some r → InInset k x p → LeadsTo r p x
leads_all k e x s one is some p r is' inset =
    let same : s ≡ r = cc in
    subst (λ (t : Record). LeadsTo t p x) same (sole_parent k e x p s one is some inset.1).1
