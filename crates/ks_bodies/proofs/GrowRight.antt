-- The root that becomes a branch over the two parts that it splits into, one level higher.
use Rattle.std.proofs.Common.{ℕ, ◌≡◌, ◌<◌, ◌≤◌, ◌-◌, ◌==◌, ◌⊎◌, inl, inr, true, false, List, [], ◌∷◌, ◌++◌, Option, Some, None, refl, sym, ◌∙◌, ap, subst, arith}
use Rattle.std.specs.Prelude.{All, max, min, nat_le, nat_lt}
use Rattle.std.proofs.lemmas.Bool.{le-leb, lt-leb, ne_eqb, le-ltb}
use Rattle.std.proofs.lemmas.List.{append-nil}
use Rattle.std.proofs.lemmas.List.Elements.{All-nil}
use Rattle.ks_keysets.specs.declared.Edge.{Edge}
use Rattle.ks_keysets.specs.declared.Frame.{Frame}
use Rattle.ks_keysets.specs.declared.Kind.{Kind}
use Rattle.ks_keysets.specs.declared.Kind.TheVariants.{NoBranch, Inner, Directory}
use Rattle.ks_keysets.specs.declared.Span.{Span}
use Rattle.ks_keysets.specs.declared.NodeState.{NodeState}
use Rattle.ks_keysets.specs.Record.{top, LeadsTo}
use Rattle.ks_keysets.specs.Keyset.{Good}
use Rattle.ks_node.specs.declared.start.Start.{Start}
use Rattle.ks_node.specs.Body.{Body, first_of, last_of}
use Rattle.ks_node.specs.Edges.{edges_from, edges_of, link_edge, record_of}
use Rattle.ks_node.specs.Effect.{split_right, settled, ends_at, begins_at, with_link}
use Rattle.ks_flow.specs.Changes.{graph_with, frames_with, HasBecome}
use Rattle.ks_flow.specs.Link.{Link, GrowsRight}
use Rattle.ks_bodies.specs.Stands.{live_as, free_as}
use Rattle.ks_bodies.specs.Links.{IsLinked, CanGrowRight, split_linked, grown_higher, grow_right}
use Rattle.ks_bodies.proofs.Led.{led, led_settled, Ascend}
use Rattle.ks_bodies.proofs.Standing.{Made}
use Rattle.ks_bodies.proofs.Under.{none_at}
use Rattle.ks_bodies.proofs.LinkRecords.{range_of, linked_tidy, goes_inside, goes_leads}
use Rattle.ks_bodies.proofs.LinkEdges.{all_if}
use Rattle.ks_bodies.proofs.LinkStanding as parts

module _ (g : ℕ → NodeState) (f : ℕ → Frame) (kind : Kind) (left right cut : ℕ) (b : Body) (good : Good g) (link : Link g f) (x : CanGrowRight g f left right cut b)
    (branch : IsLinked (grown_higher kind cut left right b)) (lower : IsLinked (split_linked cut right b)) (upper : IsLinked (with_link None (split_right cut b))) (made : Made g f (grow_right kind 0 left right cut b)) where
  abbrev two : List Start
  two = record { low = 0; node = left } ∷ record { low = cut; node = right } ∷ []

  -- the range of the root is all places, so it has no link

  all : b.range ≡ Some (record { low = 0; last = top })
  all = sym (ap (λ (z : Frame). z.range) x.stands.frame) ∙ link.root

  no_link : b.link ≡ None
  no_link = none_at b.link (x.stands.linked.link_where ∙ ap (λ (o : Option Span). nat_lt (last_of o) top) all ∙ le-ltb top top (omega arith))

  unlinked : with_link None (split_right cut b) ≡ split_right cut b
  unlinked = ap (λ (o : Option ℕ). with_link o (split_right cut b)) (sym no_link)

  upper' : IsLinked (split_right cut b)
  upper' = subst IsLinked unlinked upper

  above : 0 < cut
  above = omega (arith, x.splits.0.0)

  within : cut ≤ top
  within = x.splits.0.1 (record { low = 0; last = top }) all

  first : (range_of b x.stands.linked).0.low ≤ 0
  first = omega (arith, ap first_of (range_of b x.stands.linked).1, ap first_of all)

  -- the branch over the two halves

  up_two : Ascend two
  up_two = ((above, tt), (tt, tt))

  led_low : (p : ℕ) → p < cut → led (grown_higher kind cut left right b).starts p ≡ Some left
  led_low p lt =
      let a : nat_le cut p ≡ false = lt-leb _ _ lt in
      let c : nat_le 0 p ≡ true = le-leb _ _ (omega arith) in
      led_settled kind two p up_two ∙ rw (a, c) refl

  led_high : (p : ℕ) → cut ≤ p → led (grown_higher kind cut left right b).starts p ≡ Some right
  led_high p le = let a : nat_le cut p ≡ true = le-leb _ _ le in led_settled kind two p up_two ∙ rw a refl

  leads : (p m : ℕ) → p ≤ top → led (grown_higher kind cut left right b).starts p ≡ Some m → LeadsTo (record_of (grown_higher kind cut left right b)) p m
  leads p m place is = goes_leads (grown_higher kind cut left right b) branch p m (omega (arith, ap first_of all)) place (goes_inside (grown_higher kind cut left right b) branch p (omega (arith, ap last_of all)) ∙ is)

  settled_two : settled kind two ≡ two
  settled_two = go kind
    where
      go : (k : Kind) → settled k two ≡ two
      go NoBranch = refl
      go Inner = refl
      go Directory = let t : (right == left) ≡ false = ne_eqb right left (λ e. x.other (sym e)) in rw t refl

  abbrev IsOne : Edge → Type 0
  IsOne e = ((e.node ≡ left) × (e.span.low ≡ 0) × (e.span.last < cut)) ⊎ ((e.node ≡ right) × (e.span.low ≡ cut) × (e.span.last ≤ top))

  two_edges : All IsOne (edges_from 0 top two)
  two_edges = all_if IsOne (max 0 0) (min top (cut - 1)) left (edges_from 0 top (record { low = cut; node = right } ∷ [])) (λ l. inl (refl, omega arith, omega (arith, above)))
      (all_if IsOne (max 0 cut) top right [] (λ l. inr (refl, omega arith, omega arith)) (All-nil IsOne))

  branch_edges : All IsOne (edges_of (grown_higher kind cut left right b))
  branch_edges = subst (All IsOne) (sym (same ∙ append-nil _)) two_edges
    where
      same : edges_of (grown_higher kind cut left right b) ≡ edges_from 0 top two ++ []
      same = ap (λ (ss : List Start). edges_from (first_of b.range) (last_of b.range) ss ++ link_edge (last_of b.range) b.link) settled_two
          ∙ ap (λ (o : Option Span). edges_from (first_of o) (last_of o) two ++ link_edge (last_of o) b.link) all
          ∙ ap (λ (o : Option ℕ). edges_from 0 top two ++ link_edge top o) no_link

  after_node : HasBecome f (graph_with (grow_right kind 0 left right cut b) g) (frames_with (grow_right kind 0 left right cut b) f) (live_as 0 (grown_higher kind cut left right b))
  after_node = made.named 0 (free_as 0) (omega arith)

  after_left : HasBecome f (graph_with (grow_right kind 0 left right cut b) g) (frames_with (grow_right kind 0 left right cut b) f) (live_as left (split_linked cut right b))
  after_left = made.named 1 (free_as 0) (omega arith)

  after_right : HasBecome f (graph_with (grow_right kind 0 left right cut b) g) (frames_with (grow_right kind 0 left right cut b) f) (live_as right (with_link None (split_right cut b)))
  after_right = made.named 2 (free_as 0) (omega arith)

  low_zero : b.low ≡ 0
  low_zero = (parts.linked_framed b x.stands.linked).low_is ∙ sym (ap first_of (range_of b x.stands.linked).1) ∙ ap first_of all

  pub meets_grow_right : GrowsRight g (graph_with (grow_right kind 0 left right cut b) g) f (frames_with (grow_right kind 0 left right cut b) f) left right cut (record_of b) (record_of (grown_higher kind cut left right b)) (record_of (split_linked cut right b)) (record_of (split_right cut b))
  meets_grow_right = record {
    differs = made.differs;
    frames = made.frames;
    before = x.stands.has;
    fresh_left = x.fresh_left;
    fresh = x.fresh;
    other = x.other;
    after = after_node.has;
    after_left = after_left.has;
    after_right = after_right.has ∙ ap (λ (z : Body). Some (record_of z)) unlinked;
    above = above;
    within = within;
    below_cut = λ p lt. (leads p left (omega (arith, within)) (led_low p lt), parts.parts_below cut right b x.stands.linked x.splits x.parts lower upper' p (omega (arith, first)) lt);
    from_cut = λ p place le. (leads p right place (led_high p le), parts.parts_from cut right b x.stands.linked x.splits x.parts lower upper' p place le);
    link_edge = λ p place le. parts.parts_linked cut right b x.stands.linked x.splits x.parts lower upper' p place le;
    tidy = linked_tidy (grown_higher kind cut left right b) branch;
    tidy_left = linked_tidy (split_linked cut right b) lower;
    tidy_right = linked_tidy (split_right cut b) upper';
    pairs = λ i d lt. absurd (omega arith);
    pairs_left = parts.linked_lower g f 0 b x.stands cut good;
    pairs_right = parts.linked_upper g f 0 b x.stands cut good;
    edges = branch_edges;
    edges_left = parts.lower_edges cut right b x.stands.linked x.splits x.parts lower upper';
    edges_right = parts.upper_edges cut right b x.stands.linked x.splits x.parts lower upper';
    low = ap (λ (z : Frame). z.low) after_node.frame ∙ low_zero;
    level = omega (arith, ap (λ (z : Frame). z.level) after_node.frame, ap (λ (z : Frame). z.level) x.stands.frame);
    range_after = ap (λ (z : Frame). z.range) after_node.frame ∙ all;
    low_left = ap (λ (z : Frame). z.low) after_left.frame ∙ low_zero;
    level_left = ap (λ (z : Frame). z.level) after_left.frame ∙ sym (ap (λ (z : Frame). z.level) x.stands.frame);
    range_left = ap (λ (z : Frame). z.range) after_left.frame ∙ ap (ends_at (cut - 1)) all;
    link_left = ap (λ (z : Frame). z.link) after_left.frame;
    low_right = ap (λ (z : Frame). z.low) after_right.frame;
    level_right = ap (λ (z : Frame). z.level) after_right.frame ∙ sym (ap (λ (z : Frame). z.level) x.stands.frame);
    range_right = ap (λ (z : Frame). z.range) after_right.frame ∙ ap (begins_at cut) all;
    link_right = ap (λ (z : Frame). z.link) after_right.frame ∙ sym no_link ∙ sym (ap (λ (z : Frame). z.link) x.stands.frame);
  }
