-- The facts of trees after a change of a region.
use Rattle.ks_keysets.specs.declared.Record.{Record}
use Rattle.ks_keysets.specs.declared.Frame.{Frame}
use Rattle.std.proofs.Common.{ℕ, ◌≡◌, ◌<◌, ◌≤◌, ◌-◌, ◌⊎◌, inl, inr, Bool, true, false, List, [], ◌∷◌, Option, Some, None, refl, sym, ◌∙◌, ap, subst, arith}
use Rattle.std.proofs.lemmas.Bool.Decides.{leb_tells}
use Rattle.ks_keysets.specs.declared.NodeState.{NodeState}
use Rattle.ks_keysets.specs.declared.Span.{Span}
use Rattle.ks_keysets.specs.Record.{LeadsTo, LeadsOn}
use Rattle.ks_keysets.specs.Keyset.{record_at, IsLive, InInset, InKeyset, Good}
use Rattle.ks_flow.specs.Ways.{names, DiffersIn, Inside, ends_at, ends}
use Rattle.ks_flow.specs.Tree.{edges_to, edges_in, edges_between, Tree, IsInset, FramesKept, ActsAs}
use Rattle.ks_flow.proofs.Entry.{EntryRegion, EdgesKept, RegionSpans}
use Rattle.ks_flow.specs.Shapes.{range_to, range_from, range_over, KeepsTree}
use Rattle.ks_keysets.specs.Laws.Next.{same_record, leads_on, leads_where}
use Rattle.ks_flow.proofs.Edges.{named_either, one_after}
use Rattle.ks_flow.proofs.Entries.{keeps_ways, inset_back, inset_forth}

-- insets as spans

pub inset_same : (g : ℕ → NodeState) (n a b c d : ℕ) → IsInset g n a b → IsInset g n c d → (a ≡ c) × (b ≡ d)
inset_same g n a b c d x y =
    let h = y.forth a (x.back a (omega arith) x.filled) in
    let i = y.forth b (x.back b x.filled (omega arith)) in
    let j = x.forth c (y.back c (omega arith) y.filled) in
    let l = x.forth d (y.back d y.filled (omega arith)) in
    (omega (arith, h.0, j.0), omega (arith, i.1, l.1))

pub inset_like : (g k : ℕ → NodeState) (m n a b : ℕ) → IsInset g m a b → ((p : ℕ) → InInset k n p → InInset g m p) → ((p : ℕ) → InInset g m p → InInset k n p) → IsInset k n a b
inset_like g k m n a b x to from = record { filled = x.filled; forth = λ p h. x.forth p (to p h); back = λ p l u. from p (x.back p l u) }

pub inset_from : (g k : ℕ → NodeState) (m n a b cut : ℕ) → IsInset g m a b → InInset g m cut → ((p : ℕ) → InInset k n p → InInset g m p × (cut ≤ p)) → ((p : ℕ) → InInset g m p → cut ≤ p → InInset k n p) → IsInset k n cut b
inset_from g k m n a b cut x at to from = record {
  filled = (x.forth cut at).1;
  forth = λ p h. let i = to p h in (i.1, (x.forth p i.0).1);
  back = λ p l u. from p (x.back p (omega (arith, (x.forth cut at).0)) u) l;
}

pub inset_below : (g k : ℕ → NodeState) (m n a b cut : ℕ) → IsInset g m a b → InInset g m cut → a < cut → ((p : ℕ) → InInset k n p → InInset g m p × (p < cut)) → ((p : ℕ) → InInset g m p → p < cut → InInset k n p) → IsInset k n a (cut - 1)
inset_below g k m n a b cut x at lt to from = record {
  filled = omega arith;
  forth = λ p h. let i = to p h in ((x.forth p i.0).0, omega (arith, i.1));
  back = λ p l u. from p (x.back p l (omega (arith, (x.forth cut at).1))) (omega arith);
}

pub below_or_from : (p cut : ℕ) → (p < cut) ⊎ (cut ≤ p)
below_or_from p cut = elim (leb_tells cut p) [ inl le ↦ inr le.1 | inr gt ↦ inl (omega (arith, gt.1)) ]

-- names of a region

pub by_name1 : (P : ℕ → Type 0) (a : ℕ) → P a → (m : ℕ) → names (a ∷ []) m ≡ true → P m
by_name1 P a x m named = elim (named_either a [] m named) [ inl e ↦ subst P (sym e) x | inr h ↦ absurd (cc) ]

pub by_name2 : (P : ℕ → Type 0) (a b : ℕ) → P a → P b → (m : ℕ) → names (a ∷ b ∷ []) m ≡ true → P m
by_name2 P a b x y m named = elim (named_either a (b ∷ []) m named) [ inl e ↦ subst P (sym e) x | inr h ↦ by_name1 P b y m h ]

pub by_name3 : (P : ℕ → Type 0) (a b c : ℕ) → P a → P b → P c → (m : ℕ) → names (a ∷ b ∷ c ∷ []) m ≡ true → P m
by_name3 P a b c x y z m named = elim (named_either a (b ∷ c ∷ []) m named) [ inl e ↦ subst P (sym e) x | inr h ↦ by_name2 P b c y z m h ]

-- what holds of a node's record, and of no record

pub at_record : (g : ℕ → NodeState) (n : ℕ) (s : Record) (P : Record → Type 0) → record_at g n ≡ Some s → P s → (q : Record) → record_at g n ≡ Some q → P q
at_record g n s P is x q is' = subst P (same_record g n s q is is') x

pub at_none : (g : ℕ → NodeState) (n : ℕ) (P : Record → Type 0) → record_at g n ≡ None → (q : Record) → record_at g n ≡ Some q → P q
at_none g n P none q is = let e : None ≡ Some q = sym none ∙ is in absurd (cc)

pub live_apart : (g : ℕ → NodeState) (a b : ℕ) (r : Record) → record_at g a ≡ Some r → record_at g b ≡ None → a ≡ b → ⊥
live_apart g a b r is none e = let h : Some r ≡ None = sym is ∙ ap (λ (m : ℕ). record_at g m) e ∙ none in cc

pub between_is : (g : ℕ → NodeState) (n m : ℕ) (r : Record) → record_at g n ≡ Some r → edges_between g n m ≡ edges_to r.edges m
between_is g n m r is = ap (λ (o : Option Record). edges_in o m) is

pub between_none : (g : ℕ → NodeState) (n m : ℕ) → record_at g n ≡ None → edges_between g n m ≡ 0
between_none g n m is = ap (λ (o : Option Record). edges_in o m) is

-- the walk of a pair's place ends at the pair's node
pub pair_ends : (g k : ℕ → NodeState) (region : List ℕ) (p a b : ℕ) (r s : Record) → InKeyset g a p → record_at g a ≡ Some r → record_at k b ≡ Some s → names region b ≡ true → ActsAs s r p → Inside k region p b (ends_at b)
pair_ends g k region p a b r s h is is' named acts = ends s named is' (λ on. h.1 (r, is, acts.on on))

pub not_on : (g : ℕ → NodeState) (a p : ℕ) (r : Record) → InKeyset g a p → record_at g a ≡ Some r → (m : ℕ) → LeadsTo r p m → ⊥
not_on g a p r h is m (k, x, lt, at, to) = h.1 (r, is, (k, x, lt, at, to.0))

-- a node that acts as another did has the place in its keyset if that one had it
pub keyset_forth : (g k : ℕ → NodeState) (a b p : ℕ) (r s : Record) → record_at g a ≡ Some r → record_at k b ≡ Some s → ActsAs s r p → InKeyset g a p → InInset k b p → InKeyset k b p
keyset_forth g k a b p r s is is' acts h inset = (inset, λ o. h.1 (r, is, acts.on (subst (λ (t : Record). LeadsOn t p) (same_record k b o.0 s o.1 is') o.2)))

pub keyset_back : (g k : ℕ → NodeState) (a b p : ℕ) (r s : Record) → record_at g a ≡ Some r → record_at k b ≡ Some s → ActsAs s r p → InKeyset k b p → InInset g a p → InKeyset g a p
keyset_back g k a b p r s is is' acts h inset = (inset, λ o. out (leads_where r p (subst (λ (t : Record). LeadsOn t p) (same_record g a o.0 r o.1 is) o.2)))
  where
    out : (m : ℕ) × LeadsTo r p m → ⊥
    out (m, to) = h.1 (s, is', leads_on s p m (acts.to m to))

module _ (g : ℕ → NodeState) (region : List ℕ) (k : ℕ → NodeState) (e : ℕ) (f h : ℕ → Frame) (added lost : List ℕ)
    (differs : DiffersIn g region k) (entry : EntryRegion g region k e) (good : Good g) (frames : FramesKept f region h) (kept : EdgesKept g region k added lost) (spans : RegionSpans region k h) (tree : Tree g f) where
  tree_after : Tree k h
  tree_after = record {
    edges = one_after g region k added lost differs kept good tree.edges;
    spans = λ n live. span n live (names region n) refl;
    range = λ n s live is. ranged n s live is (names region n) refl;
  }
    where
      same : (n a b : ℕ) → names region n ≡ false → IsInset g n a b → IsInset k n a b
      same n a b out x = inset_like g k n n a b x (λ p i. inset_back g region k e differs entry good n p out i) (λ p i. inset_forth g region k e differs entry good n p out i)

      before : (n : ℕ) → names region n ≡ false → IsLive k n → IsLive g n
      before n out live = (live.0, sym (differs.same n out) ∙ live.1)

      span : (n : ℕ) → IsLive k n → (t : Bool) → names region n ≡ t → (last : ℕ) × IsInset k n (h n).low last
      span n live true named = spans.spans n named live
      span n live false out =
          let x = tree.spans n (before n out live) in
          (x.0, subst (λ (a : ℕ). IsInset k n a x.0) (ap (λ (z : Frame). z.low) (sym (frames.same n out))) (same n (f n).low x.0 out x.1))

      ranged : (n : ℕ) (s : Span) → IsLive k n → (h n).range ≡ Some s → (t : Bool) → names region n ≡ t → IsInset k n s.low s.last
      ranged n s live is true named = spans.range n s named live is
      ranged n s live is false out = same n s.low s.last out (tree.range n s (before n out live) (ap (λ (z : Frame). z.range) (sym (frames.same n out)) ∙ is))

  pub keeps_tree : KeepsTree g region k h
  keeps_tree = record {
    ways = keeps_ways g region k e differs entry good;
    tree = tree_after;
    insets = λ n p out. (inset_back g region k e differs entry good n p out, inset_forth g region k e differs entry good n p out);
  }

-- ranges

pub range_of_from : (o : Option Span) (q : Option Span) (cut : ℕ) (s : Span) → q ≡ range_from cut o → q ≡ Some s → (t : Span) × (o ≡ Some t) × (s.low ≡ cut) × (s.last ≡ t.last)
range_of_from None q cut s is is' = let e : None ≡ Some s = sym is ∙ is' in absurd (cc)
range_of_from (Some t) q cut s is is' =
    let e : Some (record { low = cut; last = t.last }) ≡ Some s = sym is ∙ is' in
    let e' : record { low = cut; last = t.last } ≡ s = cc in
    (t, refl, ap (λ (z : Span). z.low) (sym e'), ap (λ (z : Span). z.last) (sym e'))

pub range_of_to : (o : Option Span) (q : Option Span) (last : ℕ) (s : Span) → q ≡ range_to last o → q ≡ Some s → (t : Span) × (o ≡ Some t) × (s.low ≡ t.low) × (s.last ≡ last)
range_of_to None q last s is is' = let e : None ≡ Some s = sym is ∙ is' in absurd (cc)
range_of_to (Some t) q last s is is' =
    let e : Some (record { low = t.low; last = last }) ≡ Some s = sym is ∙ is' in
    let e' : record { low = t.low; last = last } ≡ s = cc in
    (t, refl, ap (λ (z : Span). z.low) (sym e'), ap (λ (z : Span). z.last) (sym e'))

pub range_of_over : (o o' : Option Span) (q : Option Span) (s : Span) → q ≡ range_over o o' → q ≡ Some s → (t u : Span) × (o ≡ Some t) × (o' ≡ Some u) × (s.low ≡ t.low) × (s.last ≡ u.last)
range_of_over None o' q s is is' = let e : None ≡ Some s = sym is ∙ is' in absurd (cc)
range_of_over (Some t) None q s is is' = let e : None ≡ Some s = sym is ∙ is' in absurd (cc)
range_of_over (Some t) (Some u) q s is is' =
    let e : Some (record { low = t.low; last = u.last }) ≡ Some s = sym is ∙ is' in
    let e' : record { low = t.low; last = u.last } ≡ s = cc in
    (t, u, refl, refl, ap (λ (z : Span). z.low) (sym e'), ap (λ (z : Span). z.last) (sym e'))
