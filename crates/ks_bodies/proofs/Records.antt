-- The edges of a body lead where its starts do, within its range.
use Rattle.std.proofs.Common.{ℕ, zero, suc, ◌≡◌, ◌<◌, ◌≤◌, ◌+◌, ◌-◌, ◌==◌, ◌⊎◌, inl, inr, cond, Bool, true, false, List, [], ◌∷◌, ◌++◌, Option, Some, None, refl, sym, ◌∙◌, ap, subst, arith}
use Rattle.std.specs.Prelude.{All, Any, AllPairs, nat_le, max, min, drop}
use Rattle.std.proofs.lemmas.Bool.{le-leb}
use Rattle.std.proofs.lemmas.List.{append-nil}
use Rattle.std.proofs.lemmas.List.Elements.{All-cons, All-nil}
use Rattle.std.proofs.lemmas.List.Kept.{AllPairs-cons}
use Rattle.ks_keysets.specs.declared.Span.{Span}
use Rattle.ks_keysets.specs.declared.Edge.{Edge}
use Rattle.ks_keysets.specs.Record.{top, Carries, LeadsTo, LeadsOn, first_value}
use Rattle.ks_node.specs.declared.start.Start.{Start}
use Rattle.ks_node.specs.Body.{Body, first_of, last_of}
use Rattle.ks_node.specs.Edges.{add_edge, edges_from, edges_of, link_edge, record_of}
use Rattle.ks_flow.specs.Tree.{edges_to, ActsAs}
use Rattle.ks_flow.specs.Shapes.{IsTidy}
use Rattle.ks_bodies.specs.Stands.{IsPlain}
use Rattle.ks_bodies.proofs.Led.{low_or_high, or_else, led, led_none, AllAbove, Ascend, ascend, above_less, or_some, some_last, cond_some, leb_low, led_count, count}

-- where edges lead, by the head of the list
abbrev pub Leads : List Edge → ℕ → ℕ → Type 0
Leads [] p m = ⊥
Leads (e ∷ es) p m = (Carries e p × (e.node ≡ m)) ⊎ Leads es p m

pub any_leads : (es : List Edge) (p m : ℕ) → Any (λ e. Carries e p × (e.node ≡ m)) es → Leads es p m
any_leads [] p m (k, x, lt, is, h) = absurd (omega arith)
any_leads (e ∷ es) p m (zero, x, lt, is, h) = inl (subst (λ (z : Edge). Carries z p × (z.node ≡ m)) (sym is) h)
any_leads (e ∷ es) p m (suc k, x, lt, is, h) = inr (any_leads es p m (k, x, omega arith, is, h))

pub leads_any : (es : List Edge) (p m : ℕ) → Leads es p m → Any (λ e. Carries e p × (e.node ≡ m)) es
leads_any [] p m h = absurd h
leads_any (e ∷ es) p m (inl h) = (0, e, omega arith, refl, h)
leads_any (e ∷ es) p m (inr h) = let y = leads_any es p m h in (suc y.0, y.1, omega (arith, y.2), y.3, y.4)

-- one more edge

added : (low last n : ℕ) (es : List Edge) (p m : ℕ) → Leads (add_edge low last n es) p m → ((low ≤ p) × (p ≤ last) × (n ≡ m)) ⊎ Leads es p m
added low last n es p m h = go (nat_le low last) h
  where
    go : (b : Bool) → Leads (cond b (record { span = record { low = low; last = last }; node = n } ∷ es) es) p m → ((low ≤ p) × (p ≤ last) × (n ≡ m)) ⊎ Leads es p m
    go true (inl y) = inl (y.0.0, y.0.1, y.1)
    go true (inr y) = inr y
    go false y = inr y

add_here : (low last n : ℕ) (es : List Edge) (p : ℕ) → low ≤ p → p ≤ last → Leads (add_edge low last n es) p n
add_here low last n es p le le' = let t : nat_le low last ≡ true = le-leb _ _ (omega arith) in rw t (inl ((le, le'), refl))

add_there : (low last n : ℕ) (es : List Edge) (p m : ℕ) → Leads es p m → Leads (add_edge low last n es) p m
add_there low last n es p m h = go (nat_le low last)
  where
    go : (b : Bool) → Leads (cond b (record { span = record { low = low; last = last }; node = n } ∷ es) es) p m
    go true = inr h
    go false = h

-- the edges of starts lead where the starts do, from the first place to the last

pub edges_led : (first last : ℕ) (ss : List Start) (p m : ℕ) → Ascend ss → Leads (edges_from first last ss) p m → (led ss p ≡ Some m) × (first ≤ p) × (p ≤ last)
edges_led first last [] p m up h = absurd h
edges_led first last (s ∷ []) p m up h = elim (added (max first s.low) last s.node [] p m h) [
  | inl y ↦ (let a : nat_le s.low p ≡ true = le-leb _ _ (omega (arith, y.0)) in (rw a (ap (λ (n : ℕ). Some n) y.2), omega (arith, y.0), y.1))
  | inr y ↦ absurd y
]
edges_led first last (s ∷ t ∷ ts) p m up h = elim (added (max first s.low) (min last (t.low - 1)) s.node (edges_from first last (t ∷ ts)) p m h) [
  | inl y ↦ (
      let a : nat_le s.low p ≡ true = le-leb _ _ (omega (arith, y.0)) in
      let lt : p < t.low = omega (arith, y.1, up.0.0) in
      let b : led (t ∷ ts) p ≡ None = led_none (t ∷ ts) p p (lt, above_less ts t.low p up.1.0 (omega arith)) (omega arith) in
      (rw (b, a) (ap (λ (n : ℕ). Some n) y.2), omega (arith, y.0), omega (arith, y.1)))
  | inr y ↦ (let z = edges_led first last (t ∷ ts) p m up.1 y in (rw z.0 refl, z.1, z.2))
]

pub led_edges : (first last : ℕ) (ss : List Start) (p m : ℕ) → Ascend ss → led ss p ≡ Some m → first ≤ p → p ≤ last → Leads (edges_from first last ss) p m
led_edges first last [] p m up e le le' = cc
led_edges first last (s ∷ []) p m up e le le' =
    let h = cond_some (nat_le s.low p) s.node m e in
    subst (λ (n : ℕ). Leads (edges_from first last (s ∷ [])) p n) h.1 (add_here (max first s.low) last s.node [] p (omega (arith, le, leb_low s.low p h.0)) le')
led_edges first last (s ∷ t ∷ ts) p m up e le le' = elim (or_some (led (t ∷ ts) p) (cond (nat_le s.low p) (Some s.node) None) m e) [
  | inl h ↦ add_there (max first s.low) (min last (t.low - 1)) s.node (edges_from first last (t ∷ ts)) p m (led_edges first last (t ∷ ts) p m up.1 h le le')
  | inr h ↦ here (low_or_high p t.low) h.0 (cond_some (nat_le s.low p) s.node m h.1)
]
  where
    here : (p < t.low) ⊎ (t.low ≤ p) → led (t ∷ ts) p ≡ None → (nat_le s.low p ≡ true) × (s.node ≡ m) → Leads (edges_from first last (s ∷ t ∷ ts)) p m
    here (inl lt) none h = subst (λ (n : ℕ). Leads (edges_from first last (s ∷ t ∷ ts)) p n) h.1 (add_here (max first s.low) (min last (t.low - 1)) s.node (edges_from first last (t ∷ ts)) p (omega (arith, le, leb_low s.low p h.0)) (omega arith))
    here (inr ge) none h =
        let a : nat_le t.low p ≡ true = le-leb _ _ ge in
        let b : or_else (led ts p) (Some t.node) ≡ None = rw a at none in
        absurd (some_last (led ts p) t.node b)

-- the edges of ascending starts are disjoint

abbrev pub Apart : Edge → Edge → Type 0
Apart e f = (p : ℕ) → Carries e p → Carries f p → ⊥

pub all_add : (P : Edge → Type 0) (low last n : ℕ) (es : List Edge) → P (record { span = record { low = low; last = last }; node = n }) → All P es → All P (add_edge low last n es)
all_add P low last n es h all = go (nat_le low last)
  where
    go : (b : Bool) → All P (cond b (record { span = record { low = low; last = last }; node = n } ∷ es) es)
    go true = All-cons P (record { span = record { low = low; last = last }; node = n }) es h all
    go false = all

edges_above : (first last : ℕ) (ss : List Start) (l : ℕ) → AllAbove l ss → All (λ e. l < e.span.low) (edges_from first last ss)
edges_above first last [] l above = All-nil (λ e. l < e.span.low)
edges_above first last (s ∷ []) l above = all_add (λ e. l < e.span.low) (max first s.low) last s.node [] (omega (arith, above.0)) (All-nil (λ e. l < e.span.low))
edges_above first last (s ∷ t ∷ ts) l above = all_add (λ e. l < e.span.low) (max first s.low) (min last (t.low - 1)) s.node (edges_from first last (t ∷ ts)) (omega (arith, above.0)) (edges_above first last (t ∷ ts) l above.1)

pairs_add : (low last n : ℕ) (es : List Edge) → All (λ e. Apart (record { span = record { low = low; last = last }; node = n }) e) es → AllPairs Apart es → AllPairs Apart (add_edge low last n es)
pairs_add low last n es h all = go (nat_le low last)
  where
    go : (b : Bool) → AllPairs Apart (cond b (record { span = record { low = low; last = last }; node = n } ∷ es) es)
    go true = AllPairs-cons Apart (record { span = record { low = low; last = last }; node = n }) es h all
    go false = all

pub edges_apart : (first last : ℕ) (ss : List Start) → Ascend ss → AllPairs Apart (edges_from first last ss)
edges_apart first last [] up = λ i j d lt lt'. absurd (omega arith)
edges_apart first last (s ∷ []) up = pairs_add (max first s.low) last s.node [] (All-nil (λ e. Apart (record { span = record { low = max first s.low; last = last }; node = s.node }) e)) (λ i j d lt lt'. absurd (omega arith))
edges_apart first last (s ∷ t ∷ ts) up = pairs_add (max first s.low) (min last (t.low - 1)) s.node (edges_from first last (t ∷ ts))
    (λ k d lt p c c'. omega (arith, c.1, c'.0, up.0.0, edges_above first last (t ∷ ts) (t.low - 1) (omega (arith, up.0.0), above_less ts t.low (t.low - 1) up.1.0 (omega arith)) k d lt))
    (edges_apart first last (t ∷ ts) up.1)

-- edges counted by starts

count_add : (low last n : ℕ) (es : List Edge) (m : ℕ) → edges_to (add_edge low last n es) m ≤ cond (n == m) 1 0 + edges_to es m
count_add low last n es m = go (nat_le low last)
  where
    go : (b : Bool) → edges_to (cond b (record { span = record { low = low; last = last }; node = n } ∷ es) es) m ≤ cond (n == m) 1 0 + edges_to es m
    go true = omega arith
    go false = omega arith

count_upto : (first last : ℕ) (ss : List Start) (m : ℕ) → edges_to (edges_from first last ss) m ≤ count ss m
count_upto first last [] m = omega arith
count_upto first last (s ∷ []) m = omega (arith, count_add (max first s.low) last s.node [] m)
count_upto first last (s ∷ t ∷ ts) m = omega (arith, count_add (max first s.low) (min last (t.low - 1)) s.node (edges_from first last (t ∷ ts)) m, count_upto first last (t ∷ ts) m)

-- no edge is lost if each start is at or below the last place, and each except the first is above the first place
count_all : (first last : ℕ) (ss : List Start) (m : ℕ) → first ≤ last → Ascend ss → All (λ s. s.low ≤ last) ss → All (λ s. first < s.low) (drop 1 ss) → edges_to (edges_from first last ss) m ≡ count ss m
count_all first last [] m le up upto above = refl
count_all first last (s ∷ []) m le up upto above = let t : nat_le (max first s.low) last ≡ true = le-leb _ _ (omega (arith, upto 0 s (omega arith))) in rw t refl
count_all first last (s ∷ t ∷ ts) m le up upto above =
    let x : nat_le (max first s.low) (min last (t.low - 1)) ≡ true = le-leb _ _ (omega (arith, upto 0 s (omega arith), upto 1 s (omega arith), above 0 s (omega arith), up.0.0)) in
    rw x (ap (λ (n : ℕ). cond (s.node == m) 1 0 + n) (count_all first last (t ∷ ts) m le up.1 (λ k d lt. upto (suc k) d (omega arith)) (λ k d lt. above (suc k) d (omega arith))))

above_all : (l : ℕ) (ss : List Start) → AllAbove l ss → All (λ s. l < s.low) ss
above_all l [] a = All-nil (λ s. l < s.low)
above_all l (s ∷ ss) a = All-cons (λ s. l < s.low) s ss a.0 (above_all l ss a.1)

later_above : (ss : List Start) → Ascend ss → All (λ s. 0 < s.low) (drop 1 ss)
later_above [] up k d lt = absurd (omega arith)
later_above (s ∷ ss) up k d lt = omega (arith, above_all s.low ss up.0 k d lt)

-- bodies

-- the place is in the range, if there is one
pub record InRange (b : Body) (p : ℕ) : Type 0 where
  pub low : first_of b.range ≤ p
  pub last : p ≤ last_of b.range

pub edges_plain : (b : Body) → b.link ≡ None → edges_of b ≡ edges_from (first_of b.range) (last_of b.range) b.starts
edges_plain b none = ap (λ (l : Option ℕ). edges_from (first_of b.range) (last_of b.range) b.starts ++ link_edge (last_of b.range) l) none ∙ append-nil _

module _ (b : Body) (plain : IsPlain b) where
  pub body_ascend : Ascend b.starts
  body_ascend = ascend b.starts plain.sound.starts_ascend

  pub body_led : (p m : ℕ) → LeadsTo (record_of b) p m → (led b.starts p ≡ Some m) × InRange b p
  body_led p m to =
      let y = edges_led (first_of b.range) (last_of b.range) b.starts p m body_ascend (subst (λ (es : List Edge). Leads es p m) (edges_plain b plain.no_link) (any_leads (edges_of b) p m to)) in
      (y.0, record { low = y.1; last = y.2 })

  pub led_body : (p m : ℕ) → InRange b p → led b.starts p ≡ Some m → LeadsTo (record_of b) p m
  led_body p m range e = leads_any (edges_of b) p m (subst (λ (es : List Edge). Leads es p m) (sym (edges_plain b plain.no_link)) (led_edges (first_of b.range) (last_of b.range) b.starts p m body_ascend e range.low range.last))

  pub body_on : (p : ℕ) → LeadsOn (record_of b) p → (m : ℕ) × LeadsTo (record_of b) p m
  body_on p on = (on.1.node, (on.0, on.1, on.2, on.3, (on.4, refl)))

  pub on_body : (p m : ℕ) → LeadsTo (record_of b) p m → LeadsOn (record_of b) p
  on_body p m to = (to.0, to.1, to.2, to.3, to.4.0)

  pub body_tidy : IsTidy (record_of b)
  body_tidy = record {
    apart = subst (λ (es : List Edge). AllPairs (λ e f. (p : ℕ) → Carries e p → Carries f p → ⊥) es) (sym (edges_plain b plain.no_link)) (edges_apart (first_of b.range) (last_of b.range) b.starts body_ascend);
    once = λ i j d lt lt' e. omega (arith, plain.sound.pairs_ascend i j d lt lt');
  }

  pub body_upto : (m : ℕ) → edges_to (edges_of b) m ≤ count b.starts m
  body_upto m = subst (λ (es : List Edge). edges_to es m ≤ count b.starts m) (sym (edges_plain b plain.no_link)) (count_upto (first_of b.range) (last_of b.range) b.starts m)

  pub body_count : (m : ℕ) → edges_to (edges_of b) m ≡ count b.starts m
  body_count m = ap (λ (es : List Edge). edges_to es m) (edges_plain b plain.no_link) ∙ go b.range refl
    where
      go : (r : Option Span) → b.range ≡ r → edges_to (edges_from (first_of r) (last_of r) b.starts) m ≡ count b.starts m
      go None e = count_all 0 top b.starts m (omega arith) body_ascend plain.sound.starts_are_places (later_above b.starts body_ascend)
      go (Some r) e = let y = plain.framed r e in count_all r.low r.last b.starts m y.ordered body_ascend y.upto y.above

-- two bodies that lead alike at a place and have the same value there act alike
pub acts_alike : (b c : Body) (p : ℕ) → IsPlain b → IsPlain c → InRange b p → InRange c p → led b.starts p ≡ led c.starts p → first_value b.pairs p ≡ first_value c.pairs p → ActsAs (record_of b) (record_of c) p
acts_alike b c p plain plain' range range' same value = record {
  to = λ m to. led_body b plain p m range (same ∙ (body_led c plain' p m to).0);
  on = λ on. let y = body_on b plain p on in on_body c plain' p y.0 (led_body c plain' p y.0 range' (sym same ∙ (body_led b plain p y.0 y.1).0));
  value = value;
}

pub leads_edge : (b : Body) (p m : ℕ) → IsPlain b → LeadsTo (record_of b) p m → 0 < edges_to (edges_of b) m
leads_edge b p m plain to = omega (arith, body_count b plain m, led_count b.starts p m (body_led b plain p m to).0)
