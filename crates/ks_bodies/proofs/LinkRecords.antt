-- The edges of a body with a link lead where its starts do, within its range, and above it where the link does.
use Rattle.std.proofs.Common.{ℕ, suc, ◌≡◌, ◌<◌, ◌≤◌, ◌-◌, ◌⊎◌, inl, inr, cond, true, false, List, [], ◌∷◌, ◌++◌, Option, Some, None, refl, sym, ◌∙◌, ap, subst, arith}
use Rattle.std.specs.Prelude.{All, AllPairs, nat_lt, is_some, min, max}
use Rattle.std.proofs.lemmas.Bool.{lt-ltb, le-ltb}
use Rattle.std.proofs.lemmas.List.Elements.{All-cons, All-nil, All-append}
use Rattle.std.proofs.lemmas.List.Kept.{AllPairs-cons}
use Rattle.ks_keysets.specs.declared.Span.{Span}
use Rattle.ks_keysets.specs.declared.Edge.{Edge}
use Rattle.ks_keysets.specs.Record.{top, LeadsTo, LeadsOn, first_value}
use Rattle.ks_node.specs.declared.start.Start.{Start}
use Rattle.ks_node.specs.Body.{Body, first_of, last_of}
use Rattle.ks_node.specs.Edges.{edges_from, edges_of, link_edge, record_of}
use Rattle.ks_node.specs.Sound.{Framed}
use Rattle.ks_flow.specs.Tree.{ActsAs}
use Rattle.ks_flow.specs.Shapes.{IsTidy}
use Rattle.ks_bodies.specs.Links.{IsLinked}
use Rattle.ks_bodies.proofs.Led.{low_or_high, led, Ascend, ascend}
use Rattle.ks_bodies.proofs.Records.{Leads, any_leads, leads_any, edges_led, led_edges, Apart, edges_apart, all_add}

-- lists one after the other

leads_split : (xs ys : List Edge) (p m : ℕ) → Leads (xs ++ ys) p m → Leads xs p m ⊎ Leads ys p m
leads_split [] ys p m h = inr h
leads_split (x ∷ xs) ys p m (inl h) = inl (inl h)
leads_split (x ∷ xs) ys p m (inr h) = elim (leads_split xs ys p m h) [ inl y ↦ inl (inr y) | inr y ↦ inr y ]

leads_first : (xs ys : List Edge) (p m : ℕ) → Leads xs p m → Leads (xs ++ ys) p m
leads_first [] ys p m h = absurd h
leads_first (x ∷ xs) ys p m (inl h) = inl h
leads_first (x ∷ xs) ys p m (inr h) = inr (leads_first xs ys p m h)

leads_second : (xs ys : List Edge) (p m : ℕ) → Leads ys p m → Leads (xs ++ ys) p m
leads_second [] ys p m h = h
leads_second (x ∷ xs) ys p m h = inr (leads_second xs ys p m h)

pairs_append : (xs ys : List Edge) → AllPairs Apart xs → AllPairs Apart ys → All (λ x. All (Apart x) ys) xs → AllPairs Apart (xs ++ ys)
pairs_append [] ys a b h = b
pairs_append (x ∷ xs) ys a b h = AllPairs-cons Apart x (xs ++ ys)
    (All-append (Apart x) xs ys (λ k d lt. a 0 (suc k) d (omega arith) (omega arith)) (h 0 x (omega arith)))
    (pairs_append xs ys (λ i j d lt lt'. a (suc i) (suc j) d (omega arith) (omega arith)) b (λ k d lt. h (suc k) d (omega arith)))

-- the edges of starts end at the last place or below

pub edges_upto : (first last : ℕ) (ss : List Start) → All (λ e. e.span.last ≤ last) (edges_from first last ss)
edges_upto first last [] = All-nil (λ e. e.span.last ≤ last)
edges_upto first last (s ∷ []) = all_add (λ e. e.span.last ≤ last) (max first s.low) last s.node [] (omega arith) (All-nil (λ e. e.span.last ≤ last))
edges_upto first last (s ∷ t ∷ ts) = all_add (λ e. e.span.last ≤ last) (max first s.low) (min last (t.low - 1)) s.node (edges_from first last (t ∷ ts)) (omega arith) (edges_upto first last (t ∷ ts))

-- the edge of a link

link_leads : (last : ℕ) (link : Option ℕ) (p m : ℕ) → Leads (link_edge last link) p m → (last < p) × (link ≡ Some m)
link_leads last None p m h = absurd h
link_leads last (Some n) p m (inl h) = (omega (arith, h.0.0), ap (λ (x : ℕ). Some x) h.1)
link_leads last (Some n) p m (inr h) = absurd h

leads_link : (last : ℕ) (link : Option ℕ) (p m : ℕ) → last < p → p ≤ top → link ≡ Some m → Leads (link_edge last link) p m
leads_link last link p m lt le is = subst (λ (o : Option ℕ). Leads (link_edge last o) p m) (sym is) (inl ((omega arith, le), refl))

pub link_above : (last : ℕ) (link : Option ℕ) → All (λ e. last < e.span.low) (link_edge last link)
link_above last None = All-nil (λ e. last < e.span.low)
link_above last (Some m) = All-cons (λ e. last < e.span.low) (record { span = record { low = suc last; last = top }; node = m }) [] (omega arith) (All-nil (λ e. last < e.span.low))

link_alone : (last : ℕ) (link : Option ℕ) → AllPairs Apart (link_edge last link)
link_alone last None i j d lt lt' = absurd (omega arith)
link_alone last (Some m) i j d lt lt' = absurd (omega arith)

-- where the body sends a place from its first one on
abbrev pub goes : Body → ℕ → Option ℕ
goes b p = cond (nat_lt (last_of b.range) p) b.link (led b.starts p)

-- the range of a body that has one
pub range_of : (b : Body) → IsLinked b → (r : Span) × (b.range ≡ Some r)
range_of b x = go b.range x.ranged
  where
    go : (o : Option Span) → is_some o ≡ true → (r : Span) × (o ≡ Some r)
    go None e = cc
    go (Some r) e = (r, refl)

module _ (b : Body) (x : IsLinked b) where
  pub linked_ascend : Ascend b.starts
  linked_ascend = ascend b.starts x.sound.starts_ascend

  pub goes_inside : (p : ℕ) → p ≤ last_of b.range → goes b p ≡ led b.starts p
  goes_inside p le = let t : nat_lt (last_of b.range) p ≡ false = le-ltb _ _ le in rw t refl

  pub goes_beyond : (p : ℕ) → last_of b.range < p → goes b p ≡ b.link
  goes_beyond p lt = let t : nat_lt (last_of b.range) p ≡ true = lt-ltb _ _ lt in rw t refl

  pub leads_goes : (p m : ℕ) → LeadsTo (record_of b) p m → goes b p ≡ Some m
  leads_goes p m to = elim (leads_split (edges_from (first_of b.range) (last_of b.range) b.starts) (link_edge (last_of b.range) b.link) p m (any_leads (edges_of b) p m to)) [
    | inl h ↦ (let y = edges_led (first_of b.range) (last_of b.range) b.starts p m linked_ascend h in goes_inside p y.2 ∙ y.0)
    | inr h ↦ (let y = link_leads (last_of b.range) b.link p m h in goes_beyond p y.0 ∙ y.1)
  ]

  pub goes_leads : (p m : ℕ) → first_of b.range ≤ p → p ≤ top → goes b p ≡ Some m → LeadsTo (record_of b) p m
  goes_leads p m first place is = elim (low_or_high (last_of b.range) p) [
    | inl lt ↦ leads_any (edges_of b) p m (leads_second (edges_from (first_of b.range) (last_of b.range) b.starts) (link_edge (last_of b.range) b.link) p m (leads_link (last_of b.range) b.link p m lt place (sym (goes_beyond p lt) ∙ is)))
    | inr le ↦ leads_any (edges_of b) p m (leads_first (edges_from (first_of b.range) (last_of b.range) b.starts) (link_edge (last_of b.range) b.link) p m (led_edges (first_of b.range) (last_of b.range) b.starts p m linked_ascend (sym (goes_inside p le) ∙ is) first le))
  ]

  pub on_leads : (p : ℕ) → LeadsOn (record_of b) p → (m : ℕ) × LeadsTo (record_of b) p m
  on_leads p on = (on.1.node, (on.0, on.1, on.2, on.3, (on.4, refl)))

  pub leads_on : (p m : ℕ) → LeadsTo (record_of b) p m → LeadsOn (record_of b) p
  leads_on p m to = (to.0, to.1, to.2, to.3, to.4.0)

  pub linked_tidy : IsTidy (record_of b)
  linked_tidy = record {
    apart = pairs_append (edges_from (first_of b.range) (last_of b.range) b.starts) (link_edge (last_of b.range) b.link) (edges_apart (first_of b.range) (last_of b.range) b.starts linked_ascend) (link_alone (last_of b.range) b.link)
        (λ k d lt k' d' lt' p c c'. omega (arith, c.1, c'.0, edges_upto (first_of b.range) (last_of b.range) b.starts k d lt, link_above (last_of b.range) b.link k' d' lt'));
    once = λ i j d lt lt' e. omega (arith, x.sound.pairs_ascend i j d lt lt');
  }

-- two bodies that send a place alike and have the same value there act alike
pub linked_alike : (b c : Body) (p : ℕ) → IsLinked b → IsLinked c → first_of b.range ≤ p → first_of c.range ≤ p → p ≤ top → goes b p ≡ goes c p → first_value b.pairs p ≡ first_value c.pairs p → ActsAs (record_of b) (record_of c) p
linked_alike b c p x y first first' place same value = record {
  to = λ m to. goes_leads b x p m first place (same ∙ leads_goes c y p m to);
  on = λ on. let z = on_leads b x p on in leads_on c y p z.0 (goes_leads c y p z.0 first' place (sym same ∙ leads_goes b x p z.0 z.1));
  value = value;
}

-- a place that the body sends on is one from its first one on
pub leads_place : (b : Body) (p m : ℕ) → IsLinked b → LeadsTo (record_of b) p m → (first_of b.range ≤ p) × (p ≤ top)
leads_place b p m x to = elim (leads_split (edges_from (first_of b.range) (last_of b.range) b.starts) (link_edge (last_of b.range) b.link) p m (any_leads (edges_of b) p m to)) [
  | inl h ↦ (let y = edges_led (first_of b.range) (last_of b.range) b.starts p m (linked_ascend b x) h in (y.1, omega (arith, y.2, ends)))
  | inr h ↦ (let y = link_leads (last_of b.range) b.link p m h in (omega (arith, y.0, ordered), link_place (last_of b.range) b.link p m h))
]
  where
    framed : Framed (range_of b x).0 b
    framed = x.framed (range_of b x).0 (range_of b x).1

    ends : last_of b.range ≤ top
    ends = omega (arith, framed.ends, ap last_of (range_of b x).1)

    ordered : first_of b.range ≤ last_of b.range
    ordered = omega (arith, framed.ordered, ap last_of (range_of b x).1, ap first_of (range_of b x).1)

    link_place : (last : ℕ) (link : Option ℕ) (p m : ℕ) → Leads (link_edge last link) p m → p ≤ top
    link_place last None p m h = absurd h
    link_place last (Some n) p m (inl h) = h.0.1
    link_place last (Some n) p m (inr h) = absurd h
