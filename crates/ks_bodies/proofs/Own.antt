-- A node that splits off a part, and leads to it itself.
use Rattle.std.proofs.Common.{ℕ, ◌≡◌, ◌<◌, ◌≤◌, ◌+◌, ◌-◌, ◌==◌, inl, inr, cond, true, false, List, [], ◌∷◌, ◌++◌, Option, Some, None, refl, sym, ◌∙◌, ap, subst, arith, eq-eqb}
use Rattle.std.specs.Prelude.{All, nat_lt, nat_le}
use Rattle.std.proofs.lemmas.Bool.{lt-ltb, le-ltb, le-leb, lt-leb, ne_eqb}
use Rattle.ks_keysets.specs.declared.Frame.{Frame}
use Rattle.ks_keysets.specs.declared.Span.{Span}
use Rattle.ks_keysets.specs.declared.Kind.{Kind}
use Rattle.ks_keysets.specs.declared.Kind.TheVariants.{NoBranch, Inner, Directory}
use Rattle.ks_keysets.specs.declared.NodeState.{NodeState}
use Rattle.ks_keysets.specs.Keyset.{InInset, Good}
use Rattle.ks_node.specs.declared.start.Start.{Start}
use Rattle.ks_node.specs.Body.{Body, is_branch, is_branch_kind, first_of, last_of, starts_below, starts_from}
use Rattle.ks_node.specs.Edges.{record_of}
use Rattle.ks_node.specs.Effect.{settled, split_right}
use Rattle.ks_flow.specs.Tree.{Tree, edges_between}
use Rattle.ks_flow.specs.Changes.{graph_with, frames_with, HasBecome}
use Rattle.ks_flow.specs.Shapes.{SplitsOwn, range_from}
use Rattle.ks_bodies.specs.Stands.{IsPlain, live_as, free_as}
use Rattle.ks_bodies.specs.Shapes.{CanPart, split_on, split_own}
use Rattle.ks_bodies.proofs.Led.{low_or_high, or_else, led, led_below, led_append, count, count_parts, count_append, count_settled}
use Rattle.ks_bodies.proofs.Records.{InRange, body_ascend, led_body, body_tidy, body_upto, body_count, acts_alike}
use Rattle.ks_bodies.proofs.Parts.{value_below, value_from, led_right, none_below, count_right, right_first, right_last, begins_range, over_parts}
use Rattle.ks_bodies.proofs.Standing.{Made, in_range, pairs_lower, pairs_upper, none_fresh}

-- the starts of the node after it
abbrev on_starts : Kind → ℕ → ℕ → List Start → List Start
on_starts kind cut right ss = cond (is_branch_kind kind) (settled kind (starts_below cut (starts_below cut ss) ++ record { low = cut; node = right } ∷ starts_from cut (starts_below cut ss))) (record { low = cut; node = right } ∷ [])

none_from : (cut : ℕ) (ss : List Start) → starts_from cut (starts_below cut ss) ≡ []
none_from cut [] = refl
none_from cut (s ∷ ss) = elim (low_or_high s.low cut) [
  | inl lt ↦ (let a : nat_lt s.low cut ≡ true = lt-ltb _ _ lt in let b : nat_le cut s.low ≡ false = lt-leb _ _ lt in rw (a, b) (none_from cut ss))
  | inr ge ↦ (let a : nat_lt s.low cut ≡ false = le-ltb _ _ ge in rw a (none_from cut ss))
]

one_led : (cut right p : ℕ) → cut ≤ p → led (record { low = cut; node = right } ∷ []) p ≡ Some right
one_led cut right p le = let a : nat_le cut p ≡ true = le-leb _ _ le in rw a refl

one_not : (cut right p : ℕ) → p < cut → led (record { low = cut; node = right } ∷ []) p ≡ None
one_not cut right p lt = let a : nat_le cut p ≡ false = lt-leb _ _ lt in rw a refl

on_is : (cut right : ℕ) (ss : List Start) (p : ℕ) → led (starts_below cut (starts_below cut ss) ++ record { low = cut; node = right } ∷ starts_from cut (starts_below cut ss)) p
    ≡ or_else (led (record { low = cut; node = right } ∷ []) p) (led (starts_below cut (starts_below cut ss)) p)
on_is cut right ss p =
    led_append (starts_below cut (starts_below cut ss)) (record { low = cut; node = right } ∷ starts_from cut (starts_below cut ss)) p
    ∙ ap (λ (xs : List Start). or_else (led (record { low = cut; node = right } ∷ xs) p) (led (starts_below cut (starts_below cut ss)) p)) (none_from cut ss)

on_low : (kind : Kind) (cut right : ℕ) (ss : List Start) (p : ℕ) → (kind ≡ NoBranch → All (λ s. cut ≤ s.low) ss) → (kind ≡ Directory → ⊥) → p < cut → led (on_starts kind cut right ss) p ≡ led ss p
on_low NoBranch cut right ss p own dir lt = one_not cut right p lt ∙ sym (sym (led_below cut ss p lt) ∙ ap (λ (xs : List Start). led xs p) (none_below cut ss (own refl)))
on_low Inner cut right ss p own dir lt = on_is cut right ss p ∙ ap (λ (o : Option ℕ). or_else o (led (starts_below cut (starts_below cut ss)) p)) (one_not cut right p lt) ∙ led_below cut (starts_below cut ss) p lt ∙ led_below cut ss p lt
on_low Directory cut right ss p own dir lt = absurd (dir refl)

on_high : (kind : Kind) (cut right : ℕ) (ss : List Start) (p : ℕ) → (kind ≡ Directory → ⊥) → cut ≤ p → led (on_starts kind cut right ss) p ≡ Some right
on_high NoBranch cut right ss p dir le = one_led cut right p le
on_high Inner cut right ss p dir le = on_is cut right ss p ∙ ap (λ (o : Option ℕ). or_else o (led (starts_below cut (starts_below cut ss)) p)) (one_led cut right p le)
on_high Directory cut right ss p dir le = absurd (dir refl)

-- starts that are added to the part below are counted
on_count : (kind : Kind) (cut right : ℕ) (ss : List Start) (m : ℕ) → count (on_starts kind cut right ss) m ≤ count (starts_below cut ss) m + cond (right == m) 1 0
on_count NoBranch cut right ss m = omega arith
on_count Inner cut right ss m = inserted cut right (starts_below cut ss) m
  where
    inserted : (cut right : ℕ) (ts : List Start) (m : ℕ) → count (starts_below cut ts ++ record { low = cut; node = right } ∷ starts_from cut ts) m ≤ count ts m + cond (right == m) 1 0
    inserted cut right ts m = omega (arith, count_append (starts_below cut ts) (record { low = cut; node = right } ∷ starts_from cut ts) m, count_parts cut ts m)
on_count Directory cut right ss m = omega (arith, count_settled Directory (starts_below cut (starts_below cut ss) ++ record { low = cut; node = right } ∷ starts_from cut (starts_below cut ss)) m, count_append (starts_below cut (starts_below cut ss)) (record { low = cut; node = right } ∷ starts_from cut (starts_below cut ss)) m, count_parts cut (starts_below cut ss) m)

module _ (g : ℕ → NodeState) (f : ℕ → Frame) (node right cut : ℕ) (b : Body) (good : Good g) (tree : Tree g f) (part : CanPart g f node right cut b)
    (plain : IsPlain (split_on cut right b)) (upper : IsPlain (split_right cut b)) (no_edge : (n : ℕ) → edges_between g n right ≡ 0) (made : Made g f (split_own node right cut b)) where
  on_range : (p : ℕ) → InRange b p → InRange (split_on cut right b) p
  on_range p r = record {
    low = subst (λ (o : Option Span). first_of o ≤ p) (sym (over_parts (cut - 1) cut b.range)) r.low;
    last = subst (λ (o : Option Span). p ≤ last_of o) (sym (over_parts (cut - 1) cut b.range)) r.last;
  }

  right_range : (p : ℕ) → cut ≤ p → InRange b p → InRange (split_right cut b) p
  right_range p le r = record { low = right_first b.range cut p r.low le; last = right_last b.range cut p r.last }

  apart_of : (m : ℕ) → (m ≡ right → ⊥) → ◌≡◌ {A = ℕ} (cond (right == m) 1 0) 0
  apart_of m ne = let t : (right == m) ≡ false = ne_eqb right m (λ e. ne (sym e)) in rw t refl

  at_right : ◌≡◌ {A = ℕ} (cond (right == right) 1 0) 1
  at_right = let t : (right == right) ≡ true = eq-eqb right right refl in rw t refl

  after_node : HasBecome f (graph_with (split_own node right cut b) g) (frames_with (split_own node right cut b) f) (live_as node (split_on cut right b))
  after_node = made.named 0 (free_as node) (omega arith)

  after_right : HasBecome f (graph_with (split_own node right cut b) g) (frames_with (split_own node right cut b) f) (live_as right (split_right cut b))
  after_right = made.named 1 (free_as node) (omega arith)

  pub meets_split_own : SplitsOwn g (graph_with (split_own node right cut b) g) f (frames_with (split_own node right cut b) f) node right cut (record_of b) (record_of (split_on cut right b)) (record_of (split_right cut b))
  meets_split_own = record {
    ways = record {
      differs = made.differs;
      before = part.stands.has;
      fresh = part.fresh;
      after = after_node.has;
      after_right = after_right.has;
      below_cut = λ p inset lt. acts_alike (split_on cut right b) b p plain part.stands.plain (on_range p (range p inset)) (range p inset) (on_low b.kind cut right b.starts p part.splits.2 part.parts lt) (value_below cut b.pairs p lt);
      from_cut = λ p inset le. (
        led_body (split_on cut right b) plain p right (on_range p (range p inset)) (on_high b.kind cut right b.starts p part.parts le),
        acts_alike (split_right cut b) b p upper part.stands.plain (right_range p le (range p inset)) (range p inset) (led_right b.kind cut b.starts p (body_ascend b part.stands.plain) part.splits.1 part.splits.2 part.parts le) (value_from cut b.pairs p le),
      );
      tidy = body_tidy (split_on cut right b) plain;
      tidy_right = body_tidy (split_right cut b) upper;
      pairs = pairs_lower g f node cut b good part.stands;
      pairs_right = pairs_upper g f node cut b good part.stands;
    };
    frames = made.frames;
    cut_inside = part.inside;
    edges = λ m ne. omega (arith, body_upto (split_on cut right b) plain m, body_upto (split_right cut b) upper m, on_count b.kind cut right b.starts m, apart_of m ne, count_right (is_branch b) cut b.starts m, count_parts cut b.starts m, body_count b part.stands.plain m);
    edge = omega (arith, body_upto (split_on cut right b) plain right, body_upto (split_right cut b) upper right, on_count b.kind cut right b.starts right, at_right, count_right (is_branch b) cut b.starts right, count_parts cut b.starts right, none_fresh g f node right b part.stands (no_edge node));
    low = ap (λ (z : Frame). z.low) after_node.frame ∙ sym (ap (λ (z : Frame). z.low) part.stands.frame);
    low_right = ap (λ (z : Frame). z.low) after_right.frame;
    range = ap (λ (z : Frame). z.range) after_node.frame ∙ over_parts (cut - 1) cut b.range ∙ sym (ap (λ (z : Frame). z.range) part.stands.frame);
    range_right = ap (λ (z : Frame). z.range) after_right.frame ∙ begins_range cut b.range ∙ ap (λ (o : Option Span). range_from cut o) (sym (ap (λ (z : Frame). z.range) part.stands.frame));
  }
    where
      range : (p : ℕ) → InInset g node p → InRange b p
      range p inset = in_range g f node b tree part.stands p inset
