-- Each start of a body in a tree is used: some place of the inset is led by it. So the inset suits the body.
use Rattle.std.proofs.Common.{ℕ, zero, suc, ◌≡◌, ◌<◌, ◌≤◌, ◌+◌, ◌==◌, ◌⊎◌, inl, inr, cond, Bool, true, false, List, [], ◌∷◌, Option, Some, None, refl, sym, ◌∙◌, ap, subst, arith, length, get_or, eq-eqb, eqb-true}
use Rattle.std.specs.Prelude.{All, nat_le, drop}
use Rattle.std.proofs.lemmas.Bool.{le-leb}
use Rattle.ks_keysets.specs.declared.Frame.{Frame}
use Rattle.ks_keysets.specs.declared.Span.{Span}
use Rattle.ks_keysets.specs.declared.Edge.{Edge}
use Rattle.ks_keysets.specs.declared.NodeState.{NodeState}
use Rattle.ks_keysets.specs.Keyset.{IsLive, InInset, Good}
use Rattle.ks_node.specs.declared.start.Start.{Start}
use Rattle.ks_node.specs.Body.{Body}
use Rattle.ks_node.specs.Edges.{record_of, edges_of}
use Rattle.ks_node.specs.Asks.{Suits}
use Rattle.ks_flow.specs.Tree.{Tree, IsInset, edges_to}
use Rattle.ks_bodies.specs.Stands.{Stands}
use Rattle.ks_bodies.proofs.Led.{low_or_high, or_else, or_some, led, cond_some, leb_low, Ascend, count}
use Rattle.ks_bodies.proofs.Records.{body_ascend, body_led, body_count}
use Rattle.ks_bodies.proofs.Standing.{low_le, low_inside, one_start, pairs_stand}
use Rattle.ks_bodies.proofs.AbsorbUnder.{SoleParent}

-- the start that leads at a place: it is at or below the place, and the next one above it
pub record LedAt (ss : List Start) (p m : ℕ) : Type 0 where
  pub at : ℕ
  pub within : at < length ss
  pub node : (d : Start) → (get_or ss at d).node ≡ m
  pub low : (d : Start) → (get_or ss at d).low ≤ p
  pub next : (d : Start) → suc at < length ss → p < (get_or ss (suc at) d).low

pub led_at : (ss : List Start) (p m : ℕ) → Ascend ss → led ss p ≡ Some m → LedAt ss p m
led_at [] p m up e = absurd (cc)
led_at (s ∷ []) p m up e =
    let y = cond_some (nat_le s.low p) s.node m e in
    record { at = 0; within = omega arith; node = λ d. y.1; low = λ d. leb_low s.low p y.0; next = λ d lt. absurd (omega arith) }
led_at (s ∷ t ∷ ts) p m up e = go (or_some (led (t ∷ ts) p) (cond (nat_le s.low p) (Some s.node) None) m e) (λ h. led_at (t ∷ ts) p m up.1 h)
  where
    go : (led (t ∷ ts) p ≡ Some m) ⊎ ((led (t ∷ ts) p ≡ None) × (cond (nat_le s.low p) (Some s.node) None ≡ Some m)) → (led (t ∷ ts) p ≡ Some m → LedAt (t ∷ ts) p m) → LedAt (s ∷ t ∷ ts) p m
    go (inl h) rest = let y = rest h in record { at = suc y.at; within = omega (arith, y.within); node = y.node; low = y.low; next = λ d lt. y.next d (omega arith) }
    go (inr h) rest = here (low_or_high p t.low) h.0 (cond_some (nat_le s.low p) s.node m h.1)
      where
        some_at : (o : Option ℕ) (n : ℕ) → or_else o (Some n) ≡ None → ⊥
        some_at None n e = cc
        some_at (Some k) n e = cc

        here : (p < t.low) ⊎ (t.low ≤ p) → led (t ∷ ts) p ≡ None → (nat_le s.low p ≡ true) × (s.node ≡ m) → LedAt (s ∷ t ∷ ts) p m
        here (inl lt) none y = record { at = 0; within = omega arith; node = λ d. y.1; low = λ d. leb_low s.low p y.0; next = λ d l. lt }
        here (inr ge) none y =
            let a : nat_le t.low p ≡ true = le-leb _ _ ge in
            let b : or_else (led ts p) (Some t.node) ≡ None = rw a at none in
            absurd (some_at (led ts p) t.node b)

count_one : (ss : List Start) (i : ℕ) (d : Start) (m : ℕ) → i < length ss → (get_or ss i d).node ≡ m → 0 < count ss m
count_one [] i d m lt is = absurd (omega arith)
count_one (s ∷ ss) zero d m lt is = let t : (s.node == m) ≡ true = eq-eqb s.node m is in rw t (omega arith)
count_one (s ∷ ss) (suc i) d m lt is = omega (arith, count_one ss i d m (omega arith) is)

count_two : (ss : List Start) (i j : ℕ) (d : Start) (m : ℕ) → i < j → j < length ss → (get_or ss i d).node ≡ m → (get_or ss j d).node ≡ m → 2 ≤ count ss m
count_two [] i j d m lt lt' is is' = absurd (omega arith)
count_two (s ∷ ss) i zero d m lt lt' is is' = absurd (omega arith)
count_two (s ∷ ss) zero (suc j) d m lt lt' is is' = let t : (s.node == m) ≡ true = eq-eqb s.node m is in rw t (omega (arith, count_one ss j d m (omega arith) is'))
count_two (s ∷ ss) (suc i) (suc j) d m lt lt' is is' = omega (arith, count_two ss i j d m (omega arith) (omega arith) is is')

-- only one start leads to its node, so it is the one that leads
same_start : (ss : List Start) (i j : ℕ) (d : Start) (m : ℕ) → count ss m ≤ 1 → i < length ss → j < length ss → (get_or ss i d).node ≡ m → (get_or ss j d).node ≡ m → i ≡ j
same_start ss i j d m one li lj a b = elim (low_or_high i j) [
  | inl lt ↦ absurd (omega (arith, one, count_two ss i j d m lt lj a b))
  | inr ge ↦ elim (low_or_high j i) [
    | inl lt ↦ absurd (omega (arith, one, count_two ss j i d m lt li b a))
    | inr le ↦ omega arith
  ]
]

-- the only start that leads to the node is at or below a place that is led to it, and the next one above
at_start : (ss : List Start) (i : ℕ) (d : Start) (p m : ℕ) → Ascend ss → count ss m ≤ 1 → i < length ss → (get_or ss i d).node ≡ m → led ss p ≡ Some m → ((get_or ss i d).low ≤ p) × (suc i < length ss → p < (get_or ss (suc i) d).low)
at_start ss i d p m up one lt is e = moved (same_start ss i (led_at ss p m up e).at d m one lt (led_at ss p m up e).within is ((led_at ss p m up e).node d)) ((led_at ss p m up e).low d) ((led_at ss p m up e).next d)
  where
    moved : {j : ℕ} → i ≡ j → (get_or ss j d).low ≤ p → (suc j < length ss → p < (get_or ss (suc j) d).low) → ((get_or ss i d).low ≤ p) × (suc i < length ss → p < (get_or ss (suc i) d).low)
    moved {j} same low next = subst (λ (k : ℕ). ((get_or ss k d).low ≤ p) × (suc k < length ss → p < (get_or ss (suc k) d).low)) (sym same) (low, next)

-- an edge to a counted node
edge_some : (es : List Edge) (m : ℕ) → 0 < edges_to es m → (P : ℕ → Type 0) → All (λ e. P e.node) es → P m
edge_some [] m lt P all = absurd (omega arith)
edge_some (e ∷ es) m lt P all = go (e.node == m) refl (λ h. edge_some es m h P (λ k d l. all (suc k) d (omega arith)))
  where
    go : (b : Bool) → (e.node == m) ≡ b → (0 < edges_to es m → P m) → P m
    go true is rest = subst P (eqb-true _ _ is) (all 0 e (omega arith))
    go false is rest = rest (let h : 0 < 0 + edges_to es m = rw is at lt in omega arith)

module _ (g : ℕ → NodeState) (f : ℕ → Frame) (n : ℕ) (b : Body) (good : Good g) (tree : Tree g f) (sole : SoleParent g) (stands : Stands g f n b) where
  -- a place of the inset that the start at i leads
  pub used_start : (i : ℕ) (d : Start) → i < length b.starts → (p : ℕ) × InInset g n p × ((get_or b.starts i d).low ≤ p) × (suc i < length b.starts → p < (get_or b.starts (suc i) d).low)
  used_start i d lt =
      let m = (get_or b.starts i d).node in
      let some : 0 < edges_to (edges_of b) m = omega (arith, body_count b stands.plain m, count_one b.starts i d m lt refl) in
      let y = tree.spans m (edge_some (edges_of b) m some (λ x. IsLive g x) (good.leads n (record_of b) stands.has)) in
      let p = (f m).low in
      let inset = y.1.back p (omega arith) y.1.filled in
      let up = sole n m p (record_of b) stands.has some inset.1 in
      let at = at_start b.starts i d p m (body_ascend b stands.plain) (one_start g f n b tree stands m) lt refl (body_led b stands.plain p m up.1).0 in
      (p, (inset.0, up.0), at.0, at.1)

  inset_one : (a c x y : ℕ) → IsInset g n a c → IsInset g n x y → (a ≡ x) × (c ≡ y)
  inset_one a c x y i j =
      let e : a ≡ x = omega (arith, (i.forth x (j.back x (omega arith) j.filled)).0, (j.forth a (i.back a (omega arith) i.filled)).0) in
      let h : c ≡ y = omega (arith, (i.forth y (j.back y j.filled (omega arith))).1, (j.forth c (i.back c i.filled (omega arith))).1) in
      (e, h)

  pub inset_suits : (span : Span) → IsInset g n span.low span.last → Suits b span
  inset_suits span inset = record {
    begins_low = omega (arith, (inset.forth b.low (low_inside g f n b tree stands)).0, low_le g f n b tree stands span.low (inset.back span.low (omega arith) inset.filled));
    pairs = λ k d lt. inset.forth _ (pairs_stand g f n b good stands k d lt).0;
    starts = later b.starts (λ i d lt. used_start i d lt);
    is_range = λ r e. let y = inset_one r.low r.last span.low span.last (tree.range n r (record_of b, stands.has) (ap (λ (z : Frame). z.range) stands.frame ∙ e)) inset in ap (λ (n : ℕ). record { low = n; last = r.last }) y.0 ∙ ap (λ (n : ℕ). record { low = span.low; last = n }) y.1;
  }
    where
      later : (ss : List Start) → ((i : ℕ) (d : Start) → i < length ss → (p : ℕ) × InInset g n p × ((get_or ss i d).low ≤ p) × (suc i < length ss → p < (get_or ss (suc i) d).low)) → All (λ s. (span.low ≤ s.low) × (s.low ≤ span.last)) (drop 1 ss)
      later [] used k d lt = absurd (omega arith)
      later (s ∷ ss) used k d lt =
          let y = used (suc k) d (omega arith) in
          let z = used k d (omega arith) in
          (omega (arith, (inset.forth z.0 z.1).0, z.3 (omega arith)), omega (arith, (inset.forth y.0 y.1).1, y.2))
