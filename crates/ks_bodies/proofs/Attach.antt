-- A branch that leads to one more node.
use Rattle.std.proofs.Common.{ℕ, suc, ◌≡◌, ◌<◌, ◌≤◌, ◌-◌, ◌==◌, ◌⊎◌, inl, inr, cond, Bool, true, false, List, [], ◌∷◌, ◌++◌, Option, Some, None, refl, sym, ◌∙◌, ap, subst, arith, eq-eqb}
use Rattle.std.specs.Prelude.{All, max, drop, nat_le, nat_lt, IsTrue}
use Rattle.std.proofs.lemmas.Bool.{ne_eqb, lt-ltb, le-ltb, le-leb, lt-leb}
use Rattle.std.proofs.lemmas.Bool.Decides.{eqb_tells}
use Rattle.std.proofs.lemmas.List.Elements.{All-filter, All-cons, All-nil, All-append}
use Rattle.ks_keysets.specs.declared.Edge.{Edge}
use Rattle.ks_keysets.specs.declared.Frame.{Frame}
use Rattle.ks_keysets.specs.declared.Kind.{Kind}
use Rattle.ks_keysets.specs.declared.Kind.TheVariants.{NoBranch, Inner, Directory}
use Rattle.ks_keysets.specs.declared.Span.{Span}
use Rattle.ks_keysets.specs.declared.NodeState.{NodeState}
use Rattle.ks_keysets.specs.Record.{LeadsOn, LeadsTo}
use Rattle.ks_node.specs.declared.start.Start.{Start}
use Rattle.ks_node.specs.Laws.Ascend.{asc_insert, all_below}
use Rattle.ks_node.specs.Body.{Body, is_branch_kind, first_of, last_of, starts_below, starts_from, begins}
use Rattle.ks_node.specs.Edges.{edges_from, edges_of, link_edge, record_of}
use Rattle.ks_node.specs.Effect.{adopted, settled, runs, runs_after}
use Rattle.ks_node.specs.Laws.Starts.{all_insert, tail_insert}
use Rattle.ks_node.specs.Sound.{Framed}
use Rattle.ks_bodies.proofs.Under.{none_at}
use Rattle.ks_flow.specs.Changes.{graph_with, frames_with, HasBecome}
use Rattle.ks_flow.specs.Link.{Link, IsPartOf, Attaches}
use Rattle.ks_bodies.specs.Stands.{live_as, free_as}
use Rattle.ks_bodies.specs.Links.{IsLinked, CanAttach, attach}
use Rattle.ks_bodies.proofs.Led.{or_else, or_some, led, led_none, free_from, led_append, led_parts, led_above, AllAbove, Ascend, ascend, begins_from, parts_join, count, clash, clash_all, low_or_high}
use Rattle.ks_bodies.proofs.Standing.{Made}
use Rattle.ks_bodies.proofs.LinkRecords.{goes, range_of, linked_ascend, linked_tidy, goes_inside, goes_beyond, leads_goes, goes_leads, on_leads, leads_on, leads_place}
use Rattle.ks_bodies.proofs.LinkEdges.{any_first, any_second, all_any, PartIn, edges_insert, edges_full}
use Rattle.ks_bodies.proofs.LinkStanding.{linked_framed, linked_range}

-- starts whose nodes differ, by a key that rises
module _ (key : ℕ → ℕ) where
  abbrev Rise : ℕ → List Start → Type 0
  Rise l [] = Unit {0}
  Rise l (s ∷ ss) = (l < key s.node) × Rise (key s.node) ss

  runs_same : (m : ℕ) (ss : List Start) → Rise (key m) ss → runs_after m ss ≡ ss
  runs_same m [] rise = refl
  runs_same m (s ∷ ss) rise =
      let t : (s.node == m) ≡ false = ne_eqb s.node m (λ e. omega (arith, rise.0, ap key e)) in
      rw t (ap (λ (xs : List Start). s ∷ xs) (runs_same s.node ss rise.1))

  abbrev RiseAll : List Start → Type 0
  RiseAll [] = Unit {0}
  RiseAll (s ∷ ss) = Rise (key s.node) ss

  settled_same : (kind : Kind) (ss : List Start) → RiseAll ss → settled kind ss ≡ ss
  settled_same NoBranch ss rise = refl
  settled_same Inner ss rise = refl
  settled_same Directory [] rise = refl
  settled_same Directory (s ∷ ss) rise = ap (λ (xs : List Start). s ∷ xs) (runs_same s.node ss rise)

  -- two equal starts, one after the other, are one run
  twice : (m : ℕ) (xs : List Start) (s : Start) (rest : List Start) → Rise (key m) (xs ++ s ∷ rest) → runs_after m (xs ++ s ∷ s ∷ rest) ≡ xs ++ s ∷ rest
  twice m [] s rest rise =
      let t : (s.node == m) ≡ false = ne_eqb s.node m (λ e. omega (arith, rise.0, ap key e)) in
      let u : (s.node == s.node) ≡ true = eq-eqb s.node s.node refl in
      rw (t, u) (ap (λ (ys : List Start). s ∷ ys) (runs_same s.node rest rise.1))
  twice m (x ∷ xs) s rest rise =
      let t : (x.node == m) ≡ false = ne_eqb x.node m (λ e. omega (arith, rise.0, ap key e)) in
      rw t (ap (λ (ys : List Start). x ∷ ys) (twice x.node xs s rest rise.1))

  all_twice : (xs : List Start) (s : Start) (rest : List Start) → RiseAll (xs ++ s ∷ rest) → runs (xs ++ s ∷ s ∷ rest) ≡ xs ++ s ∷ rest
  all_twice [] s rest rise =
      let u : (s.node == s.node) ≡ true = eq-eqb s.node s.node refl in
      rw u (ap (λ (ys : List Start). s ∷ ys) (runs_same s.node rest rise))
  all_twice (x ∷ xs) s rest rise = ap (λ (ys : List Start). x ∷ ys) (twice x.node xs s rest rise)

  rises : (first l : ℕ) (ss : List Start) → AllAbove l ss → Ascend ss → All (λ s. first < s.low) ss → All (λ s. key s.node ≡ max first s.low) ss → Rise (max first l) ss
  rises first l [] above up later keys = tt
  rises first l (s ∷ ss) above up later keys =
      let is : key s.node ≡ max first s.low = keys 0 s (omega arith) in (
        omega (arith, above.0, later 0 s (omega arith), is),
        subst (λ (n : ℕ). Rise n ss) (sym is) (rises first s.low ss up.0 up.1 (λ k d lt. later (suc k) d (omega arith)) (λ k d lt. keys (suc k) d (omega arith))),
      )

  all_rise : (first : ℕ) (ss : List Start) → Ascend ss → All (λ s. first < s.low) (drop 1 ss) → All (λ s. key s.node ≡ max first s.low) ss → RiseAll ss
  all_rise first [] up later keys = tt
  all_rise first (s ∷ ss) up later keys =
      let is : key s.node ≡ max first s.low = keys 0 s (omega arith) in
      subst (λ (n : ℕ). Rise n ss) (sym is) (rises first s.low ss up.0 up.1 later (λ k d lt. keys (suc k) d (omega arith)))

none_counted : (ss : List Start) (m : ℕ) → All (λ s. s.node ≡ m → ⊥) ss → count ss m ≡ 0
none_counted [] m none = refl
none_counted (s ∷ ss) m none =
    let t : (s.node == m) ≡ false = ne_eqb s.node m (none 0 s (omega arith)) in
    rw t (omega (arith, none_counted ss m (λ k d lt. none (suc k) d (omega arith))))

pub all_first : (P : Edge → Type 0) (xs ys : List Edge) → All P (xs ++ ys) → All P xs
all_first P [] ys all = All-nil P
all_first P (x ∷ xs) ys all = All-cons P x xs (all 0 x (omega arith)) (all_first P xs ys (λ k d lt. all (suc k) d (omega arith)))

-- just below a cut the part below it leads where it leads past the cut
led_just_below : (cut : ℕ) (ss : List Start) (p : ℕ) → 0 < cut → cut ≤ p → led (starts_below cut ss) (cut - 1) ≡ led (starts_below cut ss) p
led_just_below cut [] p some le = refl
led_just_below cut (s ∷ ss) p some le = elim (low_or_high s.low cut) [
  | inl lt ↦ (
      let a : nat_lt s.low cut ≡ true = lt-ltb _ _ lt in
      let b : nat_le s.low (cut - 1) ≡ true = le-leb _ _ (omega arith) in
      let c : nat_le s.low p ≡ true = le-leb _ _ (omega arith) in
      rw (a, b, c) (ap (λ (o : Option ℕ). or_else o (Some s.node)) (led_just_below cut ss p some le)))
  | inr ge ↦ (let a : nat_lt s.low cut ≡ false = le-ltb _ _ ge in rw a (led_just_below cut ss p some le))
]

some_more : (o c q : Option ℕ) (m : ℕ) → or_else o q ≡ Some m → (n : ℕ) × (or_else (or_else o c) q ≡ Some n)
some_more (Some k) c q m e = (k, refl)
some_more None (Some k) q m e = (k, refl)
some_more None None q m e = (m, e)

module _ (g : ℕ → NodeState) (f : ℕ → Frame) (node id cut : ℕ) (b : Body) (link : Link g f) (x : CanAttach g f node id cut b)
    (after : IsLinked (adopted cut id b)) (made : Made g f (attach node id cut b)) where
  abbrev P : List Start
  P = b.starts

  abbrev new : Start
  new = record { low = cut; node = id }

  abbrev Q : List Start
  Q = starts_below cut P ++ new ∷ starts_from cut P

  abbrev key : ℕ → ℕ
  key n = (f n).low

  abbrev range : Span
  range = (range_of b x.stands.linked).0

  has : b.range ≡ Some range
  has = (range_of b x.stands.linked).1

  framed : Framed range b
  framed = linked_framed b x.stands.linked

  up_P : Ascend P
  up_P = linked_ascend b x.stands.linked

  above : range.low < cut
  above = omega (arith, x.cuts.0, framed.low_is)

  starts_are : (adopted cut id b).starts ≡ settled b.kind Q
  starts_are = rw x.branch refl

  -- each start leads to a node that begins where its edge does
  edge_lows : All (λ e. (f e.node).low ≡ e.span.low) (edges_of b)
  edge_lows k d lt = elim (link.edges node (record_of b) range x.stands.has (linked_range g f node b x.stands) k d lt) [ inl h ↦ h.low | inr h ↦ h.low ]

  keys : All (λ s. key s.node ≡ max range.low s.low) P
  keys = edges_full (λ s. key s.node ≡ s.low) range.low range.last P framed.ordered up_P framed.upto framed.above
      (subst (λ (o : Option Span). All (λ e. (f e.node).low ≡ e.span.low) (edges_from (first_of o) (last_of o) P)) has
      (all_first (λ e. (f e.node).low ≡ e.span.low) (edges_from (first_of b.range) (last_of b.range) P) (link_edge (last_of b.range) b.link) edge_lows))

  rise_P : RiseAll key P
  rise_P = all_rise key range.low P up_P framed.above keys

  keys_Q : All (λ s. key s.node ≡ max range.low s.low) Q
  keys_Q = all_insert (λ s. key s.node ≡ max range.low s.low) cut id P (omega (arith, x.under.low, above)) keys

  tail_Q : All (λ s. range.low < s.low) (drop 1 Q)
  tail_Q = tail_insert (λ s. range.low < s.low) cut id P (omega (arith, above)) (x.stands.linked.sound.branch_covers x.branch) above framed.above

  rise_Q : begins cut P ≡ false → RiseAll key Q
  rise_Q free = all_rise key range.low Q (ascend Q (asc_insert (λ s. s.low) cut new P refl (none_at _ free) x.stands.linked.sound.starts_ascend)) tail_Q keys_Q

  -- no start below the cut leads to the node
  none_lower : count (starts_below cut P) id ≡ 0
  none_lower = none_counted (starts_below cut P) id (λ k d lt e. omega (arith, ap key e, x.under.low, above, All-filter _ (λ s. key s.node ≡ max range.low s.low) P keys k d lt, all_below (λ s. s.low) cut P k d lt))

  -- the new start is there, or was there before
  abbrev NewOrOld : List Start → Type 0
  NewOrOld ss = (ss ≡ Q) ⊎ (ss ≡ P)

  again : (n : ℕ) (rest : List Start) → starts_from cut P ≡ record { low = cut; node = n } ∷ rest → n ≡ id → runs Q ≡ P
  again n rest is same =
      let from : starts_from cut P ≡ new ∷ rest = is ∙ ap (λ (m : ℕ). record { low = cut; node = m } ∷ rest) same in
      let whole : starts_below cut P ++ new ∷ rest ≡ P = ap (λ (xs : List Start). starts_below cut P ++ xs) (sym from) ∙ parts_join cut P up_P in
      ap (λ (xs : List Start). runs (starts_below cut P ++ new ∷ xs)) from ∙ all_twice key (starts_below cut P) new rest (subst (RiseAll key) (sym whole) rise_P) ∙ whole

  begun : (kind : Kind) → IsTrue (is_branch_kind kind) → begins cut P ≡ true → Ascend (settled kind Q) → NewOrOld (settled kind Q)
  begun NoBranch branch is up = absurd (cc)
  begun Inner branch is up =
      let y = begins_from cut P up_P is in
      absurd (clash (starts_below cut P) cut id y.0 y.1 (subst (λ (zs : List Start). Ascend (starts_below cut P ++ new ∷ zs)) y.2 up))
  begun Directory branch is up =
      let y = begins_from cut P up_P is in
      elim (eqb_tells y.0 id) [
        | inl e ↦ inr (again y.0 y.1 y.2 e.1)
        | inr e ↦ absurd (clash_all (starts_below cut P) cut id y.0 y.1 none_lower e.1 (subst (λ (zs : List Start). Ascend (runs (starts_below cut P ++ new ∷ zs))) y.2 up))
      ]

  new_or_old : NewOrOld (adopted cut id b).starts
  new_or_old = subst NewOrOld (sym starts_are) (go (begins cut P) refl)
    where
      go : (t : Bool) → begins cut P ≡ t → NewOrOld (settled b.kind Q)
      go false e = inl (settled_same key b.kind Q (rise_Q e))
      go true e = begun b.kind x.branch e (subst Ascend starts_are (linked_ascend (adopted cut id b) after))

  -- at the cut the node is led to

  led_one : (n : ℕ) (rest : List Start) → AllAbove cut rest → led (record { low = cut; node = n } ∷ rest) cut ≡ Some n
  led_one n rest higher = let a : nat_le cut cut ≡ true = le-leb _ _ (omega arith) in rw (led_none rest cut cut higher (omega arith), a) refl

  led_begun : (kind : Kind) → IsTrue (is_branch_kind kind) → begins cut P ≡ true → Ascend (settled kind Q) → led (settled kind Q) cut ≡ Some id
  led_begun NoBranch branch is up = absurd (cc)
  led_begun Inner branch is up =
      let y = begins_from cut P up_P is in
      absurd (clash (starts_below cut P) cut id y.0 y.1 (subst (λ (zs : List Start). Ascend (starts_below cut P ++ new ∷ zs)) y.2 up))
  led_begun Directory branch is up =
      let y = begins_from cut P up_P is in
      elim (eqb_tells y.0 id) [
        | inl e ↦ (
            let first : led (starts_from cut P) cut ≡ Some id = ap (λ (xs : List Start). led xs cut) y.2 ∙ led_one y.0 y.1 y.3 ∙ ap (λ (n : ℕ). Some n) e.1 in
            ap (λ (xs : List Start). led xs cut) (again y.0 y.1 y.2 e.1) ∙ led_parts cut P cut up_P ∙ rw first refl)
        | inr e ↦ absurd (clash_all (starts_below cut P) cut id y.0 y.1 none_lower e.1 (subst (λ (zs : List Start). Ascend (runs (starts_below cut P ++ new ∷ zs))) y.2 up))
      ]

  led_new : led (adopted cut id b).starts cut ≡ Some id
  led_new = subst (λ (xs : List Start). led xs cut ≡ Some id) (sym starts_are) (go (begins cut P) refl)
    where
      go : (t : Bool) → begins cut P ≡ t → led (settled b.kind Q) cut ≡ Some id
      go false e = ap (λ (xs : List Start). led xs cut) (settled_same key b.kind Q (rise_Q e)) ∙ led_append (starts_below cut P) (new ∷ starts_from cut P) cut ∙ rw (led_one id (starts_from cut P) (free_from cut P up_P e)) refl
      go true e = led_begun b.kind x.branch e (subst Ascend starts_are (linked_ascend (adopted cut id b) after))

  pub attach_leads : LeadsTo (record_of (adopted cut id b)) cut id
  attach_leads =
      let within : cut ≤ range.last = x.cuts.1 range has in
      goes_leads (adopted cut id b) after cut id (omega (arith, above, ap first_of has)) (omega (arith, within, framed.ends)) (goes_inside (adopted cut id b) after cut (omega (arith, within, ap last_of has)) ∙ led_new)

  -- edges

  abbrev IsOne : Edge → Type 0
  IsOne e = IsPartOf (record_of b) e ⊎ ((e.node ≡ id) × (e.span.low ≡ cut) × (e.span.last ≤ range.last))

  part_of : (e : Edge) → PartIn (edges_from (first_of b.range) (last_of b.range) P) e → IsPartOf (record_of b) e
  part_of e y = any_first (λ d. (d.node ≡ e.node) × (d.span.low ≡ e.span.low) × (e.span.last ≤ d.span.last)) (edges_from (first_of b.range) (last_of b.range) P) (link_edge (last_of b.range) b.link) y

  each : (es : List Edge) → All (λ e. PartIn es e) es
  each es = all_any (λ d e. (d.node ≡ e.node) × (d.span.low ≡ e.span.low) × (e.span.last ≤ d.span.last)) es (λ e. (refl, refl, omega arith))

  last : last_of b.range ≡ range.last
  last = ap last_of has

  one_of : (e : Edge) → PartIn (edges_from (first_of b.range) (last_of b.range) P) e ⊎ ((e.node ≡ id) × (e.span.low ≡ cut) × (e.span.last ≤ last_of b.range)) → IsOne e
  one_of e (inl y) = inl (part_of e y)
  one_of e (inr y) = inr (y.0, y.1, omega (arith, y.2, last))

  start_edges : (ss : List Start) → NewOrOld ss → All IsOne (edges_from (first_of b.range) (last_of b.range) ss)
  start_edges ss (inl e) = subst (λ (xs : List Start). All IsOne (edges_from (first_of b.range) (last_of b.range) xs)) (sym e)
      (λ k d lt. one_of _ (edges_insert (first_of b.range) (last_of b.range) cut id P up_P (omega (arith, above, ap first_of has)) k d lt))
  start_edges ss (inr e) = subst (λ (xs : List Start). All IsOne (edges_from (first_of b.range) (last_of b.range) xs)) (sym e)
      (λ k d lt. inl (part_of _ (each (edges_from (first_of b.range) (last_of b.range) P) k d lt)))

  attached_edges : All IsOne (edges_of (adopted cut id b))
  attached_edges = All-append IsOne (edges_from (first_of b.range) (last_of b.range) (adopted cut id b).starts) (link_edge (last_of b.range) b.link)
      (start_edges (adopted cut id b).starts new_or_old)
      (λ k d lt. inl (any_second (λ e. (e.node ≡ _) × (e.span.low ≡ _) × (_ ≤ e.span.last)) (edges_from (first_of b.range) (last_of b.range) P) (link_edge (last_of b.range) b.link) (each (link_edge (last_of b.range) b.link) k d lt)))

  -- places

  still_led : (p m : ℕ) → led P p ≡ Some m → (ss : List Start) → NewOrOld ss → (n : ℕ) × (led ss p ≡ Some n)
  still_led p m is ss (inl e) =
      let y = some_more (led (starts_from cut P) p) (cond (nat_le cut p) (Some id) None) (led (starts_below cut P) p) m (sym (led_parts cut P p up_P) ∙ is) in
      (y.0, ap (λ (xs : List Start). led xs p) e ∙ led_append (starts_below cut P) (new ∷ starts_from cut P) p ∙ y.1)
  still_led p m is ss (inr e) = (m, ap (λ (xs : List Start). led xs p) e ∙ is)

  still_goes : (p m : ℕ) → goes b p ≡ Some m → (n : ℕ) × (goes (adopted cut id b) p ≡ Some n)
  still_goes p m is = elim (low_or_high (last_of b.range) p) [
    | inl lt ↦ (m, goes_beyond (adopted cut id b) after p lt ∙ sym (goes_beyond b x.stands.linked p lt) ∙ is)
    | inr le ↦ (
        let y = still_led p m (sym (goes_inside b x.stands.linked p le) ∙ is) (adopted cut id b).starts new_or_old in
        (y.0, goes_inside (adopted cut id b) after p le ∙ y.1))
  ]

  still_on : (p : ℕ) → LeadsOn (record_of b) p → LeadsOn (record_of (adopted cut id b)) p
  still_on p on =
      let to = on_leads b x.stands.linked p on in
      let place = leads_place b p to.0 x.stands.linked to.1 in
      let y = still_goes p to.0 (leads_goes b x.stands.linked p to.0 to.1) in
      leads_on (adopted cut id b) after p y.0 (goes_leads (adopted cut id b) after p y.0 place.0 place.1 y.1)

  -- each node that an edge led to is still led to: at the same place, or just below the cut
  still_led_to : (p m : ℕ) → first_of b.range ≤ p → led P p ≡ Some m → (ss : List Start) → NewOrOld ss → (q : ℕ) × (first_of b.range ≤ q) × (q ≤ p) × (led ss q ≡ Some m)
  still_led_to p m low is ss (inr e) = (p, low, omega arith, ap (λ (xs : List Start). led xs p) e ∙ is)
  still_led_to p m low is ss (inl e) = elim (or_some (led (starts_from cut P) p) (led (starts_below cut P) p) m (sym (led_parts cut P p up_P) ∙ is)) [
    | inl high ↦ (p, low, omega arith, ap (λ (xs : List Start). led xs p) e ∙ led_append (starts_below cut P) (new ∷ starts_from cut P) p ∙ rw high refl)
    | inr rest ↦ elim (low_or_high p cut) [
      | inl lt ↦ (let a : nat_le cut p ≡ false = lt-leb _ _ lt in (p, low, omega arith, ap (λ (xs : List Start). led xs p) e ∙ led_append (starts_below cut P) (new ∷ starts_from cut P) p ∙ rw (rest.0, a) rest.1))
      | inr ge ↦ (
          let q : ℕ = cut - 1 in
          let lt : q < cut = omega (arith, above) in
          let none : led (starts_from cut P) q ≡ None = led_above cut P q lt in
          let a : nat_le cut q ≡ false = lt-leb _ _ lt in
          (q, omega (arith, above, ap first_of has), omega (arith, ge), ap (λ (xs : List Start). led xs q) e ∙ led_append (starts_below cut P) (new ∷ starts_from cut P) q ∙ rw (none, a) (led_just_below cut P p (omega (arith, above)) ge ∙ rest.1)))
    ]
  ]

  still_to : (p m : ℕ) → LeadsTo (record_of b) p m → (q : ℕ) × LeadsTo (record_of (adopted cut id b)) q m
  still_to p m to =
      let place = leads_place b p m x.stands.linked to in
      let was = leads_goes b x.stands.linked p m to in
      elim (low_or_high (last_of b.range) p) [
        | inl lt ↦ (p, goes_leads (adopted cut id b) after p m place.0 place.1 (goes_beyond (adopted cut id b) after p lt ∙ sym (goes_beyond b x.stands.linked p lt) ∙ was))
        | inr le ↦ (
            let y = still_led_to p m place.0 (sym (goes_inside b x.stands.linked p le) ∙ was) (adopted cut id b).starts new_or_old in
            (y.0, goes_leads (adopted cut id b) after y.0 m y.1 (omega (arith, y.2, place.1)) (goes_inside (adopted cut id b) after y.0 (omega (arith, y.2, le)) ∙ y.3)))
      ]

  after_node : HasBecome f (graph_with (attach node id cut b) g) (frames_with (attach node id cut b) f) (live_as node (adopted cut id b))
  after_node = made.named 0 (free_as node) (omega arith)

  frames_stay : (n : ℕ) → frames_with (attach node id cut b) f n ≡ f n
  frames_stay n = elim (eqb_tells node n) [
    | inl e ↦ subst (λ (m : ℕ). frames_with (attach node id cut b) f m ≡ f m) e.1 (after_node.frame ∙ sym x.stands.frame)
    | inr e ↦ made.frames.same n (rw e.0 refl)
  ]

  pub meets_attach : Attaches g (graph_with (attach node id cut b) g) f (frames_with (attach node id cut b) f) node id cut range (record_of b) (record_of (adopted cut id b))
  meets_attach = record {
    differs = made.differs;
    frames = frames_stay;
    before = x.stands.has;
    after = after_node.has;
    is_range = linked_range g f node b x.stands;
    above = above;
    within = x.cuts.1 range has;
    target = x.under.live;
    level = x.under.level ∙ sym (ap (λ (z : Frame). z.level) x.stands.frame);
    low = x.under.low;
    pairs = refl;
    apart = (linked_tidy (adopted cut id b) after).apart;
    on = still_on;
    still = still_to;
    edges = attached_edges;
  }
