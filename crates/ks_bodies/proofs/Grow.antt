-- A node that becomes a branch over the two parts that it splits into.
use Rattle.std.proofs.Common.{ℕ, ◌≡◌, ◌<◌, ◌≤◌, ◌+◌, ◌-◌, ◌==◌, cond, true, false, List, [], ◌∷◌, Option, Some, None, refl, sym, ◌∙◌, ap, arith, eq-eqb}
use Rattle.std.specs.Prelude.{nat_le}
use Rattle.std.proofs.lemmas.Bool.{le-leb, lt-leb, ne_eqb}
use Rattle.ks_keysets.specs.declared.Frame.{Frame}
use Rattle.ks_keysets.specs.declared.Kind.{Kind}
use Rattle.ks_keysets.specs.declared.Span.{Span}
use Rattle.ks_keysets.specs.declared.NodeState.{NodeState}
use Rattle.ks_keysets.specs.Keyset.{record_at, InInset, Good}
use Rattle.ks_node.specs.declared.start.Start.{Start}
use Rattle.ks_node.specs.Body.{Body, is_branch}
use Rattle.ks_node.specs.Edges.{record_of, edges_of}
use Rattle.ks_node.specs.Effect.{grown, split_left, split_right}
use Rattle.ks_flow.specs.Tree.{Tree, edges_to, edges_between}
use Rattle.ks_flow.specs.Changes.{graph_with, frames_with, HasBecome}
use Rattle.ks_flow.specs.Shapes.{Grows, range_to, range_from}
use Rattle.ks_bodies.specs.Stands.{IsPlain, live_as, free_as}
use Rattle.ks_bodies.specs.Shapes.{CanPart, grow}
use Rattle.ks_bodies.proofs.Led.{led, led_below, led_settled, Ascend, count, count_parts, count_settled}
use Rattle.ks_bodies.proofs.Records.{InRange, body_ascend, led_body, body_tidy, body_upto, body_count, acts_alike}
use Rattle.ks_bodies.proofs.Parts.{value_below, value_from, led_right, count_right, left_first, left_last, right_first, right_last, ends_range, begins_range}
use Rattle.ks_bodies.proofs.Standing.{Made, in_range, pairs_lower, pairs_upper, none_fresh}

module _ (g : ℕ → NodeState) (f : ℕ → Frame) (kind : Kind) (node left right cut : ℕ) (b : Body) (good : Good g) (tree : Tree g f) (part : CanPart g f node right cut b)
    (fresh_left : record_at g left ≡ None) (other : left ≡ right → ⊥) (plain : IsPlain (grown kind cut left right b)) (lower : IsPlain (split_left cut b)) (upper : IsPlain (split_right cut b)) (no_edge : (n m : ℕ) → record_at g m ≡ None → edges_between g n m ≡ 0) (made : Made g f (grow kind node left right cut b)) where
  abbrev two : List Start
  two = record { low = 0; node = left } ∷ record { low = cut; node = right } ∷ []

  up_two : Ascend two
  up_two = ((omega (arith, part.splits.0.0), tt), (tt, tt))

  led_low : (p : ℕ) → p < cut → led (grown kind cut left right b).starts p ≡ Some left
  led_low p lt =
      let a : nat_le cut p ≡ false = lt-leb _ _ lt in
      let c : nat_le 0 p ≡ true = le-leb _ _ (omega arith) in
      led_settled kind two p up_two ∙ rw (a, c) refl

  led_high : (p : ℕ) → cut ≤ p → led (grown kind cut left right b).starts p ≡ Some right
  led_high p le = let a : nat_le cut p ≡ true = le-leb _ _ le in led_settled kind two p up_two ∙ rw a refl

  range : (p : ℕ) → InInset g node p → InRange b p
  range p inset = in_range g f node b tree part.stands p inset

  grown_range : (p : ℕ) → InRange b p → InRange (grown kind cut left right b) p
  grown_range p r = record { low = r.low; last = r.last }

  lower_range : (p : ℕ) → p < cut → InRange b p → InRange (split_left cut b) p
  lower_range p lt r = record { low = left_first b.range (cut - 1) p r.low; last = left_last b.range (cut - 1) p r.last (omega arith) }

  upper_range : (p : ℕ) → cut ≤ p → InRange b p → InRange (split_right cut b) p
  upper_range p le r = record { low = right_first b.range cut p r.low le; last = right_last b.range cut p r.last }

  after_node : HasBecome f (graph_with (grow kind node left right cut b) g) (frames_with (grow kind node left right cut b) f) (live_as node (grown kind cut left right b))
  after_node = made.named 0 (free_as node) (omega arith)

  after_left : HasBecome f (graph_with (grow kind node left right cut b) g) (frames_with (grow kind node left right cut b) f) (live_as left (split_left cut b))
  after_left = made.named 1 (free_as node) (omega arith)

  after_right : HasBecome f (graph_with (grow kind node left right cut b) g) (frames_with (grow kind node left right cut b) f) (live_as right (split_right cut b))
  after_right = made.named 2 (free_as node) (omega arith)

  -- starts are counted: one leads to left and one to right

  grown_upto : (m : ℕ) → edges_to (edges_of (grown kind cut left right b)) m ≤ cond (left == m) 1 0 + (cond (right == m) 1 0 + 0)
  grown_upto m = omega (arith, body_upto (grown kind cut left right b) plain m, count_settled kind two m)

  apart_of : (n m : ℕ) → (m ≡ n → ⊥) → ◌≡◌ {A = ℕ} (cond (n == m) 1 0) 0
  apart_of n m ne = let t : (n == m) ≡ false = ne_eqb n m (λ e. ne (sym e)) in rw t refl

  same_at : (n : ℕ) → ◌≡◌ {A = ℕ} (cond (n == n) 1 0) 1
  same_at n = let t : (n == n) ≡ true = eq-eqb n n refl in rw t refl

  parts_upto : (m : ℕ) → edges_to (edges_of (split_left cut b)) m + edges_to (edges_of (split_right cut b)) m ≤ count b.starts m
  parts_upto m = omega (arith, body_upto (split_left cut b) lower m, body_upto (split_right cut b) upper m, count_right (is_branch b) cut b.starts m, count_parts cut b.starts m)

  pub meets_grow : Grows g (graph_with (grow kind node left right cut b) g) f (frames_with (grow kind node left right cut b) f) node left right cut (record_of b) (record_of (grown kind cut left right b)) (record_of (split_left cut b)) (record_of (split_right cut b))
  meets_grow = record {
    ways = record {
      differs = made.differs;
      before = part.stands.has;
      fresh_left = fresh_left;
      fresh = part.fresh;
      other = other;
      after = after_node.has;
      after_left = after_left.has;
      after_right = after_right.has;
      below_cut = λ p inset lt. (
        led_body (grown kind cut left right b) plain p left (grown_range p (range p inset)) (led_low p lt),
        acts_alike (split_left cut b) b p lower part.stands.plain (lower_range p lt (range p inset)) (range p inset) (led_below cut b.starts p lt) (value_below cut b.pairs p lt),
      );
      from_cut = λ p inset le. (
        led_body (grown kind cut left right b) plain p right (grown_range p (range p inset)) (led_high p le),
        acts_alike (split_right cut b) b p upper part.stands.plain (upper_range p le (range p inset)) (range p inset) (led_right b.kind cut b.starts p (body_ascend b part.stands.plain) part.splits.1 part.splits.2 part.parts le) (value_from cut b.pairs p le),
      );
      tidy = body_tidy (grown kind cut left right b) plain;
      tidy_left = body_tidy (split_left cut b) lower;
      tidy_right = body_tidy (split_right cut b) upper;
      pairs = λ i d lt. absurd (omega arith);
      pairs_left = pairs_lower g f node cut b good part.stands;
      pairs_right = pairs_upper g f node cut b good part.stands;
    };
    frames = made.frames;
    cut_inside = part.inside;
    above = omega (arith, part.splits.0.0, ap (λ (z : Frame). z.low) part.stands.frame);
    edges = λ m nl nr. omega (arith, grown_upto m, apart_of left m nl, apart_of right m nr, parts_upto m, body_count b part.stands.plain m);
    edge_left = omega (arith, grown_upto left, same_at left, apart_of right left other, parts_upto left, none_fresh g f node left b part.stands (no_edge node left fresh_left));
    edge = omega (arith, grown_upto right, same_at right, apart_of left right (λ e. other (sym e)), parts_upto right, none_fresh g f node right b part.stands (no_edge node right part.fresh));
    low = ap (λ (z : Frame). z.low) after_node.frame ∙ sym (ap (λ (z : Frame). z.low) part.stands.frame);
    low_left = ap (λ (z : Frame). z.low) after_left.frame ∙ sym (ap (λ (z : Frame). z.low) part.stands.frame);
    low_right = ap (λ (z : Frame). z.low) after_right.frame;
    range = ap (λ (z : Frame). z.range) after_node.frame ∙ sym (ap (λ (z : Frame). z.range) part.stands.frame);
    range_left = ap (λ (z : Frame). z.range) after_left.frame ∙ ends_range (cut - 1) b.range ∙ ap (λ (o : Option Span). range_to (cut - 1) o) (sym (ap (λ (z : Frame). z.range) part.stands.frame));
    range_right = ap (λ (z : Frame). z.range) after_right.frame ∙ begins_range cut b.range ∙ ap (λ (o : Option Span). range_from cut o) (sym (ap (λ (z : Frame). z.range) part.stands.frame));
  }
