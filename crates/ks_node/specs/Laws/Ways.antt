-- Where a search goes on, and the edge of the record that carries the place: the two agree.
use Rattle.std.specs.Prelude.{◌≡◌, ℕ, zero, suc, ◌-◌, ◌<◌, ◌≤◌, Bool, true, false, cond, ◌&&◌, nat_lt, nat_le, List, [], ◌∷◌, ◌++◌, length, max, min, refl, All, Any, Option, None, Some, slice_get, slice_index_or}
use Rattle.std.specs.Option.{option_map}
use Rattle.std.proofs.Common.{arith, ap, ◌∙◌, sym, subst, inl, inr, ◌⊎◌}
use Rattle.std.proofs.lemmas.Bool.{lt-ltb, le-ltb, le-leb, lt-leb}
use Rattle.std.proofs.lemmas.Bool.Decides.{leb_tells}
use Rattle.std.proofs.lemmas.List.Elements.{All-cons, All-nil}
use Rattle.ks_keysets.specs.declared.Edge.{Edge}
use Rattle.ks_keysets.specs.Record.{top, Carries, LeadsTo, LeadsOn}
use Rattle.ks_node.specs.declared.start.Start.{Start}
use Rattle.ks_node.specs.declared.start.Next.TheVariants.{Here, Go}
use Rattle.ks_node.specs.Keyed.{Ascends}
use Rattle.ks_node.specs.Laws.Ascend.{asc_tail}
use Rattle.ks_node.specs.Body.{Body, content_of, first_of, last_of, holds, led_to, last_node, starts_below, go_to, next_at}
use Rattle.ks_node.specs.Edges.{add_edge, edges_from, edges_of, link_edge, record_of}
use Rattle.ks_node.specs.Asks.{IsBelowOwn}
use Rattle.ks_node.specs.Sound.{Sound}
use Rattle.ks_node.specs.Laws.Starts.{differ}

-- the target of the last start at the place or below, start by start
abbrev pub or_else : Option ℕ → Option ℕ → Option ℕ
or_else None o = o
or_else (Some m) o = Some m

abbrev pub led : List Start → ℕ → Option ℕ
led [] p = None
led (s ∷ ss) p = or_else (led ss p) (cond (nat_le s.low p) (Some s.node) None)

last_more : (s : Start) (ss : List Start) → last_node (s ∷ ss) ≡ or_else (last_node ss) (Some s.node)
last_more s [] = refl
last_more s (t ∷ ts) =
    let a : length (s ∷ t ∷ ts) - 1 ≡ suc (length ts) = omega arith in
    let c : length (t ∷ ts) - 1 ≡ length ts = omega arith in
    rw (a, c) (last_none (t ∷ ts) (length ts) s (omega arith))
  where
    last_none : (ss : List Start) (n : ℕ) (s : Start) → n < length ss → option_map (λ t. t.node) (slice_get ss n) ≡ or_else (option_map (λ t. t.node) (slice_get ss n)) (Some s.node)
    last_none [] n s h = absurd (omega arith)
    last_none (t ∷ ts) zero s h = refl
    last_none (t ∷ ts) (suc n) s h = last_none ts n s (omega arith)

pub led_is : (ss : List Start) (p : ℕ) → led_to ss p ≡ led ss p
led_is [] p = refl
led_is (s ∷ ss) p = elim (leb_tells s.low p) [
  | inl le ↦ (
      let passes : nat_lt s.low (suc p) ≡ true = lt-ltb _ _ (omega (arith, le.1)) in
      rw (passes, le.0) (last_more s (starts_below (suc p) ss) ∙ ap (λ o. or_else o (Some s.node)) (led_is ss p)))
  | inr gt ↦ (
      let stops : nat_lt s.low (suc p) ≡ false = le-ltb _ _ (omega (arith, gt.1)) in
      rw (stops, gt.0) (led_is ss p ∙ sym (or_none (led ss p))))
]
  where
    or_none : (o : Option ℕ) → or_else o None ≡ o
    or_none None = refl
    or_none (Some m) = refl

-- where edges lead, edge by edge
abbrev Leads : List Edge → ℕ → ℕ → Type 0
Leads [] p m = ⊥
Leads (e ∷ es) p m = (Carries e p × (e.node ≡ m)) ⊎ Leads es p m

any_leads : (es : List Edge) (p m : ℕ) → Any (λ e. Carries e p × (e.node ≡ m)) es → Leads es p m
any_leads [] p m (k, x, lt, is, h) = absurd (omega arith)
any_leads (e ∷ es) p m (zero, x, lt, is, h) = inl (subst (λ (z : Edge). Carries z p × (z.node ≡ m)) (sym is) h)
any_leads (e ∷ es) p m (suc k, x, lt, is, h) = inr (any_leads es p m (k, x, omega arith, is, h))

leads_any : (es : List Edge) (p m : ℕ) → Leads es p m → Any (λ e. Carries e p × (e.node ≡ m)) es
leads_any [] p m h = absurd h
leads_any (e ∷ es) p m (inl h) = (0, e, omega arith, refl, h)
leads_any (e ∷ es) p m (inr h) = let y = leads_any es p m h in (suc y.0, y.1, omega (arith, y.2), y.3, y.4)

leads_append : (xs ys : List Edge) (p m : ℕ) → Leads (xs ++ ys) p m → Leads xs p m ⊎ Leads ys p m
leads_append [] ys p m h = inr h
leads_append (x ∷ xs) ys p m (inl h) = inl (inl h)
leads_append (x ∷ xs) ys p m (inr h) = elim (leads_append xs ys p m h) [ inl y ↦ inl (inr y) | inr y ↦ inr y ]

leads_left : (xs ys : List Edge) (p m : ℕ) → Leads xs p m → Leads (xs ++ ys) p m
leads_left [] ys p m h = absurd h
leads_left (x ∷ xs) ys p m (inl h) = inl h
leads_left (x ∷ xs) ys p m (inr h) = inr (leads_left xs ys p m h)

leads_right : (xs ys : List Edge) (p m : ℕ) → Leads ys p m → Leads (xs ++ ys) p m
leads_right [] ys p m h = h
leads_right (x ∷ xs) ys p m h = inr (leads_right xs ys p m h)

added : (low last n : ℕ) (es : List Edge) (p m : ℕ) → Leads (add_edge low last n es) p m → ((low ≤ p) × (p ≤ last) × (n ≡ m)) ⊎ Leads es p m
added low last n es p m h = go (nat_le low last) h
  where
    go : (b : Bool) → Leads (cond b (record { span = record { low = low; last = last }; node = n } ∷ es) es) p m → ((low ≤ p) × (p ≤ last) × (n ≡ m)) ⊎ Leads es p m
    go true (inl y) = inl (y.0.0, y.0.1, y.1)
    go true (inr y) = inr y
    go false y = inr y

add_here : (low last n : ℕ) (es : List Edge) (p : ℕ) → low ≤ p → p ≤ last → Leads (add_edge low last n es) p n
add_here low last n es p le upto = let t : nat_le low last ≡ true = le-leb _ _ (omega arith) in rw t (inl ((le, upto), refl))

add_there : (low last n : ℕ) (es : List Edge) (p m : ℕ) → Leads es p m → Leads (add_edge low last n es) p m
add_there low last n es p m h = go (nat_le low last)
  where
    go : (b : Bool) → Leads (cond b (record { span = record { low = low; last = last }; node = n } ∷ es) es) p m
    go true = inr h
    go false = h

led_none : (ss : List Start) (p : ℕ) → All (λ s. p < s.low) ss → led ss p ≡ None
led_none [] p a = refl
led_none (s ∷ ss) p a =
    let high : p < s.low = a 0 s (omega arith) in
    let stops : nat_le s.low p ≡ false = lt-leb _ _ high in
    rw (led_none ss p (λ k d l. a (suc k) d (omega arith)), stops) refl

tail_high : (s t : Start) (ts : List Start) (p : ℕ) → Ascends (λ s. s.low) (s ∷ t ∷ ts) → p < t.low → All (λ s. p < s.low) (t ∷ ts)
tail_high s t ts p asc lt = All-cons (λ s. p < s.low) t ts lt (λ k d l. let up : t.low < (slice_index_or ts k d).low = asc 1 (suc (suc k)) d (omega arith) (omega arith) in omega arith)

cond_some : (b : Bool) (n m : ℕ) → cond b (Some n) None ≡ Some m → (b ≡ true) × (n ≡ m)
cond_some true n m e = (refl, cc)
cond_some false n m e = cc

or_some : (o q : Option ℕ) (m : ℕ) → or_else o q ≡ Some m → (o ≡ Some m) ⊎ ((o ≡ None) × (q ≡ Some m))
or_some None q m e = inr (refl, e)
or_some (Some n) q m e = inl e

some_last : (o : Option ℕ) (n : ℕ) → or_else o (Some n) ≡ None → ⊥
some_last None n e = cc
some_last (Some k) n e = cc

leb_le : (a b : ℕ) → nat_le a b ≡ true → a ≤ b
leb_le a b t = elim (leb_tells a b) [ inl h ↦ h.1 | inr h ↦ absurd (no (sym h.0 ∙ t)) ]
  where
    no : false ≡ true → ⊥
    no e = cc

edges_led : (first last : ℕ) (ss : List Start) (p m : ℕ) → Ascends (λ s. s.low) ss → Leads (edges_from first last ss) p m → (led ss p ≡ Some m) × (first ≤ p) × (p ≤ last)
edges_led first last [] p m up h = absurd h
edges_led first last (s ∷ []) p m up h = elim (added (max first s.low) last s.node [] p m h) [
  | inl y ↦ (let a : nat_le s.low p ≡ true = le-leb _ _ (omega (arith, y.0)) in (rw a (ap (λ (n : ℕ). Some n) y.2), omega (arith, y.0), y.1))
  | inr y ↦ absurd y
]
edges_led first last (s ∷ t ∷ ts) p m up h = elim (added (max first s.low) (min last (t.low - 1)) s.node (edges_from first last (t ∷ ts)) p m h) [
  | inl y ↦ (
      let a : nat_le s.low p ≡ true = le-leb _ _ (omega (arith, y.0)) in
      let rise : s.low < t.low = up 0 1 s (omega arith) (omega arith) in
      let b : led (t ∷ ts) p ≡ None = led_none (t ∷ ts) p (tail_high s t ts p up (omega (arith, y.1, rise))) in
      (rw (b, a) (ap (λ (n : ℕ). Some n) y.2), omega (arith, y.0), omega (arith, y.1)))
  | inr y ↦ (let z = edges_led first last (t ∷ ts) p m (asc_tail (λ s. s.low) s (t ∷ ts) up) y in (rw z.0 refl, z.1, z.2))
]

led_edges : (first last : ℕ) (ss : List Start) (p m : ℕ) → Ascends (λ s. s.low) ss → led ss p ≡ Some m → first ≤ p → p ≤ last → Leads (edges_from first last ss) p m
led_edges first last [] p m up e le upto = cc
led_edges first last (s ∷ []) p m up e le upto =
    let h = cond_some (nat_le s.low p) s.node m e in
    subst (λ (n : ℕ). Leads (edges_from first last (s ∷ [])) p n) h.1 (add_here (max first s.low) last s.node [] p (omega (arith, le, leb_le s.low p h.0)) upto)
led_edges first last (s ∷ t ∷ ts) p m up e le upto = elim (or_some (led (t ∷ ts) p) (cond (nat_le s.low p) (Some s.node) None) m e) [
  | inl h ↦ add_there (max first s.low) (min last (t.low - 1)) s.node (edges_from first last (t ∷ ts)) p m (led_edges first last (t ∷ ts) p m (asc_tail (λ s. s.low) s (t ∷ ts) up) h le upto)
  | inr h ↦ here (leb_tells t.low p) h.0 (cond_some (nat_le s.low p) s.node m h.1)
]
  where
    here : ((nat_le t.low p ≡ true) × (t.low ≤ p)) ⊎ ((nat_le t.low p ≡ false) × (p < t.low)) → led (t ∷ ts) p ≡ None → (nat_le s.low p ≡ true) × (s.node ≡ m) → Leads (edges_from first last (s ∷ t ∷ ts)) p m
    here (inr lt) none h = subst (λ (n : ℕ). Leads (edges_from first last (s ∷ t ∷ ts)) p n) h.1 (add_here (max first s.low) (min last (t.low - 1)) s.node (edges_from first last (t ∷ ts)) p (omega (arith, le, leb_le s.low p h.0)) (omega (arith, lt.1)))
    here (inl ge) none h =
        let b : or_else (led ts p) (Some t.node) ≡ None = rw ge.0 at none in
        absurd (some_last (led ts p) t.node b)

link_leads : (last : ℕ) (o : Option ℕ) (p m : ℕ) → Leads (link_edge last o) p m → (last < p) × (o ≡ Some m)
link_leads last None p m h = absurd h
link_leads last (Some n) p m (inl h) = (omega (arith, h.0.0), ap (λ (k : ℕ). Some k) h.1)
link_leads last (Some n) p m (inr h) = absurd h

leads_link : (last : ℕ) (o : Option ℕ) (p m : ℕ) → last < p → p ≤ top → o ≡ Some m → Leads (link_edge last o) p m
leads_link last None p m lt upto e = cc
leads_link last (Some n) p m lt upto e = inl ((omega arith, upto), cc)

go_some : (o : Option ℕ) (m : ℕ) → go_to o ≡ Go m → o ≡ Some m
go_some None m e = cc
go_some (Some n) m e = cc

-- the target of the search: by the starts in the range, by the link above it
abbrev target : Body → ℕ → Option ℕ
target b p = cond (holds b.range p) (led_to b.starts p) (cond (nat_lt (last_of b.range) p) b.link None)

module _ (b : Body) (p : ℕ) where
  inside : first_of b.range ≤ p → p ≤ last_of b.range → target b p ≡ led b.starts p
  inside le upto =
      let a : nat_le (first_of b.range) p ≡ true = le-leb _ _ le in
      let c : nat_le p (last_of b.range) ≡ true = le-leb _ _ upto in
      rw (a, c) (led_is b.starts p)

  above : last_of b.range < p → target b p ≡ b.link
  above lt = and_no (nat_le (first_of b.range) p) (nat_le p (last_of b.range)) (nat_lt (last_of b.range) p) (lt-leb _ _ lt) (lt-ltb _ _ lt)
    where
      and_no : (x y z : Bool) → y ≡ false → z ≡ true → cond (x && y) (led_to b.starts p) (cond z b.link None) ≡ b.link
      and_no true y z e f = rw (e, f) refl
      and_no false y z e f = rw f refl

  below : p < first_of b.range → p ≤ last_of b.range → target b p ≡ None
  below lt upto =
      let a : nat_le (first_of b.range) p ≡ false = lt-leb _ _ lt in
      let c : nat_lt (last_of b.range) p ≡ false = le-ltb _ _ upto in
      rw (a, c) refl

  -- if an edge of the record to a node carries the place, the search goes to that node, and conversely
  pub leads_next : (m : ℕ) → Sound (content_of b) → LeadsTo (record_of b) p m → next_at b p ≡ Go m
  leads_next m s to = ap go_to (elim (leads_append (edges_from (first_of b.range) (last_of b.range) b.starts) (link_edge (last_of b.range) b.link) p m (any_leads (edges_of b) p m to)) [
    | inl h ↦ (let y = edges_led (first_of b.range) (last_of b.range) b.starts p m s.starts_ascend h in inside y.1 y.2 ∙ y.0)
    | inr h ↦ (let y = link_leads (last_of b.range) b.link p m h in above y.0 ∙ y.1)
  ])

  pub next_leads : (m : ℕ) → Sound (content_of b) → p ≤ top → next_at b p ≡ Go m → LeadsTo (record_of b) p m
  next_leads m s place e =
      let is : target b p ≡ Some m = go_some (target b p) m e in
      let es = edges_from (first_of b.range) (last_of b.range) b.starts in
      let ls = link_edge (last_of b.range) b.link in
      leads_any (edges_of b) p m (elim (leb_tells p (last_of b.range)) [
        | inl upto ↦ elim (leb_tells (first_of b.range) p) [
          | inl le ↦ leads_left es ls p m (led_edges (first_of b.range) (last_of b.range) b.starts p m s.starts_ascend (sym (inside le.1 upto.1) ∙ is) le.1 upto.1)
          | inr lt ↦ absurd (none_some (sym (below lt.1 upto.1) ∙ is))
        ]
        | inr gt ↦ leads_right es ls p m (leads_link (last_of b.range) b.link p m gt.1 place (sym (above gt.1) ∙ is))
      ])
    where
      none_some : None ≡ Some m → ⊥
      none_some q = cc

  -- if the search ends here, no edge carries the place
  pub here_stays : Sound (content_of b) → next_at b p ≡ Here → LeadsOn (record_of b) p → ⊥
  here_stays s e on = go_here on.1.node (sym (leads_next on.1.node s (on.0, on.1, on.2, on.3, (on.4, refl))) ∙ e)
    where
      go_here : (m : ℕ) → Go m ≡ Here → ⊥
      go_here m q = cc

  pub stays_here : Sound (content_of b) → p ≤ top → (LeadsOn (record_of b) p → ⊥) → next_at b p ≡ Here
  stays_here s place off = none_here (target b p) (λ m is. let to = next_leads m s place (ap go_to is) in off (to.0, to.1, to.2, to.3, to.4.0))
    where
      none_here : (o : Option ℕ) → ((m : ℕ) → o ≡ Some m → ⊥) → go_to o ≡ Here
      none_here None h = refl
      none_here (Some m) h = absurd (h m refl)

  -- at a place of the range, Here means below the edge of the node's own
  pub below_own : Sound (content_of b) → first_of b.range ≤ p → p ≤ last_of b.range → next_at b p ≡ Here → IsBelowOwn b p
  below_own s le upto e = all_high b.starts (led_nothing (led b.starts p) (subst (λ o. go_to o ≡ Here) (inside le upto) e))
    where
      led_nothing : (o : Option ℕ) → go_to o ≡ Here → o ≡ None
      led_nothing None q = refl
      led_nothing (Some m) q = cc

      or_left : (o q : Option ℕ) → or_else o q ≡ None → (o ≡ None) × (q ≡ None)
      or_left None q h = (refl, h)
      or_left (Some m) q h = cc

      cond_no : (x : Bool) (n : ℕ) → cond x (Some n) None ≡ None → x ≡ false
      cond_no true n h = cc
      cond_no false n h = refl

      all_high : (ss : List Start) → led ss p ≡ None → All (λ s. p < s.low) ss
      all_high [] h = All-nil (λ s. p < s.low)
      all_high (s ∷ ss) h =
          let parts = or_left (led ss p) (cond (nat_le s.low p) (Some s.node) None) h in
          All-cons (λ s. p < s.low) s ss (elim (leb_tells s.low p) [ inl y ↦ absurd (differ (cond_no (nat_le s.low p) s.node parts.1) y.0) | inr y ↦ y.1 ]) (all_high ss parts.0)
