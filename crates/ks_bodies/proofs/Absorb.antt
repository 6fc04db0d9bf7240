-- A node that takes over the node at its own edge.
use Rattle.std.proofs.Common.{ℕ, ◌≡◌, ◌<◌, ◌≤◌, ◌==◌, ◌⊎◌, inl, inr, cond, Bool, true, false, List, [], ◌∷◌, Option, Some, None, refl, sym, ◌∙◌, ap, subst, arith, length, eq-eqb}
use Rattle.std.specs.Prelude.{All, nat_le, is_some}
use Rattle.std.proofs.lemmas.Bool.{le-leb, lt-leb}
use Rattle.std.proofs.lemmas.List.Elements.{All-append, All-weaker}
use Rattle.ks_keysets.specs.declared.Frame.{Frame}
use Rattle.ks_keysets.specs.declared.Span.{Span}
use Rattle.ks_keysets.specs.declared.NodeState.{NodeState}
use Rattle.ks_keysets.specs.Record.{LeadsTo}
use Rattle.ks_keysets.specs.Keyset.{InInset, InKeyset, Good, along}
use Rattle.ks_node.specs.declared.start.Start.{Start}
use Rattle.ks_node.specs.Body.{Body, is_branch, first_of, last_of, first_node, chained_of, is_branch_kind}
use Rattle.ks_node.specs.Edges.{record_of, edges_of}
use Rattle.ks_node.specs.Effect.{absorbed, ends_at}
use Rattle.ks_flow.specs.Tree.{Tree, edges_to}
use Rattle.ks_flow.specs.Changes.{graph_with, frames_with, HasBecome}
use Rattle.ks_flow.specs.Shapes.{AbsorbsOwn}
use Rattle.ks_bodies.specs.Stands.{IsPlain, live_as, free_as}
use Rattle.ks_bodies.specs.Shapes.{CanAbsorbOwn, absorb_own}
use Rattle.ks_bodies.proofs.Led.{low_or_high, led, led_none, all_above, led_count, count}
use Rattle.ks_bodies.proofs.Records.{InRange, body_led, led_body, body_tidy, body_upto, body_count, acts_alike}
use Rattle.ks_bodies.proofs.Parts.{joined_left, joined_right}
use Rattle.ks_bodies.proofs.Standing.{Made, sole_start, in_range, low_le, low_inside, pairs_stand}

-- a node that is no branch has one start at most

own_edge : (k : Bool) (ss : List Start) (c : ℕ) → length ss ≤ 1 → cond k None (first_node ss) ≡ Some c → (k ≡ false) × (low : ℕ) × (ss ≡ record { low = low; node = c } ∷ [])
own_edge true ss c le e = absurd (cc)
own_edge false [] c le e = absurd (cc)
own_edge false (s ∷ []) c le e = (refl, s.low, let same : s.node ≡ c = cc in ap (λ (n : ℕ). record { low = s.low; node = n } ∷ []) same)
own_edge false (s ∷ t ∷ ts) c le e = absurd (omega arith)

-- the own edge of a body
pub own_of : (b : Body) (right : ℕ) → IsPlain b → chained_of b ≡ Some right → (is_branch b ≡ false) × (low : ℕ) × (b.starts ≡ record { low = low; node = right } ∷ [])
own_of b right plain chained = own_edge (is_branch b) b.starts right (plain.sound.own_alone (own_leaf (is_branch b) b.starts right chained)) chained
  where
    own_leaf : (k : Bool) (ss : List Start) (c : ℕ) → cond k None (first_node ss) ≡ Some c → k ≡ false
    own_leaf true ss c e = cc
    own_leaf false ss c e = refl

pub own_leads : (b : Body) (right : ℕ) → IsPlain b → chained_of b ≡ Some right → 0 < edges_to (edges_of b) right
own_leads b right plain chained =
    let y = own_of b right plain chained in
    let t : (right == right) ≡ true = eq-eqb right right refl in
    let one : count (record { low = y.1; node = right } ∷ []) right ≡ 1 = rw t refl in
    omega (arith, body_count b plain right, ap (λ (ss : List Start). count ss right) y.2, one)

module _ (g : ℕ → NodeState) (f : ℕ → Frame) (node right : ℕ) (b q : Body) (good : Good g) (tree : Tree g f) (x : CanAbsorbOwn g f node right b q)
    (other : node ≡ right → ⊥) (up : (p : ℕ) → InInset g right p → InInset g node p × LeadsTo (record_of b) p right) where
  pub own : (is_branch b ≡ false) × (low : ℕ) × (b.starts ≡ record { low = low; node = right } ∷ [])
  own = own_of b right x.stands.plain x.chained

  pub leaf : is_branch q ≡ false
  leaf = ap is_branch_kind (sym x.alike) ∙ own.0

  -- the place from which on the node leads to right
  abbrev pub seam : ℕ
  seam = own.1

  led_own : (p : ℕ) → led b.starts p ≡ cond (nat_le seam p) (Some right) None
  led_own p = ap (λ (ss : List Start). led ss p) own.2

  led_from_seam : (p : ℕ) → seam ≤ p → led b.starts p ≡ Some right
  led_from_seam p le = let a : nat_le seam p ≡ true = le-leb _ _ le in led_own p ∙ rw a refl

  led_below_seam : (p : ℕ) → p < seam → led b.starts p ≡ None
  led_below_seam p lt = let a : nat_le seam p ≡ false = lt-leb _ _ lt in led_own p ∙ rw a refl

  range : (p : ℕ) → InInset g node p → InRange b p
  range p inset = in_range g f node b tree x.stands p inset

  leads_from : (p : ℕ) → InInset g node p → seam ≤ p → LeadsTo (record_of b) p right
  leads_from p inset le = led_body b x.stands.plain p right (range p inset) (led_from_seam p le)

  pub from_leads : (p : ℕ) → LeadsTo (record_of b) p right → seam ≤ p
  from_leads p to = elim (low_or_high p seam) [
    | inl lt ↦ (let e : None ≡ Some right = sym (led_below_seam p lt) ∙ (body_led b x.stands.plain p right to).0 in absurd (cc))
    | inr ge ↦ ge
  ]

  pub down : (p : ℕ) → InInset g node p → LeadsTo (record_of b) p right → InInset g right p
  down p inset to = (inset.0, along (record_of b) inset.1 x.stands.has to (record_of q, x.other.has))

  -- each place that comes to right is at or above the seam
  pub seam_low : seam ≤ q.low
  seam_low = from_leads q.low (up q.low (low_inside g f right q tree x.other)).1

  after_starts : (absorbed b q).starts ≡ q.starts
  after_starts = rw own.0 refl

  none_low : (p : ℕ) → p < seam → led q.starts p ≡ None
  none_low p lt = led_none q.starts p p (all_above p q.starts (All-weaker (λ s. q.low ≤ s.low) (λ s. p < s.low) (λ s le. omega (arith, seam_low)) q.starts (x.other.plain.sound.own_low leaf))) (omega arith)

  -- the ranges of both end at one place
  pub same_end : (absorbed b q).range ≡ b.range
  same_end = go b.range q.range refl refl
    where
      go : (o o' : Option Span) → b.range ≡ o → q.range ≡ o' → ends_at (last_of q.range) b.range ≡ b.range
      go None o' e e' = ap (λ (o : Option Span). ends_at (last_of q.range) o) e ∙ sym e
      go (Some r) None e e' = let t : is_some b.range ≡ is_some q.range = x.ranged in absurd (differ (sym (ap is_some e) ∙ t ∙ ap is_some e'))
        where
          differ : true ≡ false → ⊥
          differ e = cc
      go (Some r) (Some t) e e' =
          let i = tree.range node r (record_of b, x.stands.has) (ap (λ (z : Frame). z.range) x.stands.frame ∙ e) in
          let j = tree.range right t (record_of q, x.other.has) (ap (λ (z : Frame). z.range) x.other.frame ∙ e') in
          let end : InInset g right t.last = j.back t.last j.filled (omega arith) in
          let le : t.last ≤ r.last = (i.forth t.last (up t.last end).0).1 in
          let whole : InInset g node r.last = i.back r.last i.filled (omega arith) in
          let ge : r.last ≤ t.last = (j.forth r.last (down r.last whole (leads_from r.last whole (omega (arith, from_leads t.last (up t.last end).1, le))))).1 in
          ap (λ (o : Option Span). ends_at (last_of o) b.range) e' ∙ ap (λ (o : Option Span). ends_at t.last o) e ∙ ap (λ (n : ℕ). Some (record { low = r.low; last = n })) (omega (arith, le, ge)) ∙ sym e

  -- the pairs of the node are below the seam, those of right are not
  pairs_low : (p : ℕ) → seam ≤ p → All (λ y. y.place ≡ p → ⊥) b.pairs
  pairs_low p le = All-weaker (λ y. y.place < seam) (λ y. y.place ≡ p → ⊥) (λ y lt e. omega (arith, lt)) b.pairs (subst (λ (ss : List Start). All (λ s. All (λ y. y.place < s.low) b.pairs) ss) own.2 (x.stands.plain.sound.own_pairs own.0) 0 (record { low = seam; node = right }) (omega arith))

  pairs_high : (p : ℕ) → p < seam → All (λ y. y.place ≡ p → ⊥) q.pairs
  pairs_high p lt = All-weaker (λ y. InKeyset g right y.place) (λ y. y.place ≡ p → ⊥) (λ y k e. omega (arith, seam_low, low_le g f right q tree x.other y.place k.0)) q.pairs (pairs_stand g f right q good x.other)

  module _ (plain : IsPlain (absorbed b q)) (made : Made g f (absorb_own node right b q)) where
    after_range : (p : ℕ) → InInset g node p → InRange (absorbed b q) p
    after_range p inset = record {
      low = subst (λ (o : Option Span). first_of o ≤ p) (sym same_end) (range p inset).low;
      last = subst (λ (o : Option Span). p ≤ last_of o) (sym same_end) (range p inset).last;
    }

    after_node : HasBecome f (graph_with (absorb_own node right b q) g) (frames_with (absorb_own node right b q) f) (live_as node (absorbed b q))
    after_node = made.named 0 (free_as node) (omega arith)

    after_right : HasBecome f (graph_with (absorb_own node right b q) g) (frames_with (absorb_own node right b q) f) (free_as right)
    after_right = made.named 1 (free_as node) (omega arith)

    no_start : count q.starts right ≡ 0
    no_start = omega (arith, sole_start g f node right right b q tree x.stands x.other other, led_count b.starts seam right (led_from_seam seam (omega arith)))

    starts_upto : (m : ℕ) → edges_to (edges_of (absorbed b q)) m ≤ count q.starts m
    starts_upto m = omega (arith, body_upto (absorbed b q) plain m, ap (λ (ss : List Start). count ss m) after_starts)

    pub meets_absorb_own : AbsorbsOwn g (graph_with (absorb_own node right b q) g) f (frames_with (absorb_own node right b q) f) node right (record_of b) (record_of q) (record_of (absorbed b q))
    meets_absorb_own = record {
      differs = made.differs;
      frames = made.frames;
      before = x.stands.has;
      before_right = x.other.has;
      after = after_node.has;
      gone = after_right.has;
      leads = omega (arith, body_count b x.stands.plain right, led_count b.starts seam right (led_from_seam seam (omega arith)));
      there = λ p inset to. acts_alike (absorbed b q) q p plain x.other.plain (after_range p inset) (in_range g f right q tree x.other p (down p inset to)) (ap (λ (ss : List Start). led ss p) after_starts) (joined_right b.pairs q.pairs p (pairs_low p (from_leads p to)));
      else = λ p inset not. elim (low_or_high p seam) [
        | inl lt ↦ acts_alike (absorbed b q) b p plain x.stands.plain (after_range p inset) (range p inset) (ap (λ (ss : List Start). led ss p) after_starts ∙ none_low p lt ∙ sym (led_below_seam p lt)) (joined_left b.pairs q.pairs p (pairs_high p lt))
        | inr ge ↦ absurd (not (leads_from p inset ge))
      ];
      tidy = body_tidy (absorbed b q) plain;
      edges = λ m ne. omega (arith, starts_upto m, body_count q x.other.plain m);
      edge = omega (arith, starts_upto right, no_start);
      pairs = All-append (λ y. InKeyset g node y.place ⊎ InKeyset g right y.place) b.pairs q.pairs (λ i d lt. inl (pairs_stand g f node b good x.stands i d lt)) (λ i d lt. inr (pairs_stand g f right q good x.other i d lt));
      low = ap (λ (z : Frame). z.low) after_node.frame ∙ sym (ap (λ (z : Frame). z.low) x.stands.frame);
      range = ap (λ (z : Frame). z.range) after_node.frame ∙ same_end ∙ sym (ap (λ (z : Frame). z.range) x.stands.frame);
    }
