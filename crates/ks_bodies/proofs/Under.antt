-- A node that splits off a part, to which its parent leads.
use Rattle.std.proofs.Common.{ℕ, ◌≡◌, ◌<◌, ◌≤◌, ◌+◌, ◌-◌, ◌==◌, ◌⊎◌, inl, inr, cond, Bool, true, false, List, ◌∷◌, ◌++◌, Option, Some, None, refl, sym, ◌∙◌, ap, arith, eq-eqb, subst}
use Rattle.std.specs.Prelude.{nat_le, is_some}
use Rattle.std.proofs.lemmas.Bool.{le-leb, lt-leb, ne_eqb}
use Rattle.ks_keysets.specs.declared.Frame.{Frame}
use Rattle.ks_keysets.specs.declared.Span.{Span}
use Rattle.ks_keysets.specs.declared.NodeState.{NodeState}
use Rattle.ks_keysets.specs.Record.{LeadsTo}
use Rattle.ks_keysets.specs.Keyset.{InInset, Good, along}
use Rattle.ks_node.specs.declared.start.Start.{Start}
use Rattle.ks_node.specs.Laws.Ascend.{asc_insert}
use Rattle.ks_node.specs.Body.{Body, is_branch, starts_below, starts_from, begins}
use Rattle.ks_node.specs.Edges.{record_of, edges_of}
use Rattle.ks_node.specs.Effect.{settled, adopted, split_left, split_right}
use Rattle.ks_flow.specs.Tree.{Tree, edges_to, edges_between}
use Rattle.ks_flow.specs.Changes.{graph_with, frames_with, HasBecome}
use Rattle.ks_flow.specs.Shapes.{SplitsUnder, range_to, range_from}
use Rattle.ks_bodies.specs.Stands.{live_as, free_as, IsPlain}
use Rattle.ks_bodies.specs.Shapes.{CanPart, CanAdopt, split_under}
use Rattle.ks_bodies.proofs.Led.{low_or_high, or_else, led, led_none, led_below, led_above, led_append, led_parts, led_past, led_count, led_settled, free_from, AllAbove, Ascend, ascend, count, count_parts, count_append, count_settled, free_of}
use Rattle.ks_bodies.proofs.Records.{InRange, body_ascend, body_led, led_body, body_tidy, body_upto, body_count, acts_alike}
use Rattle.ks_bodies.proofs.Parts.{value_below, value_from, led_right, count_right, left_first, left_last, right_first, right_last, ends_range, begins_range}
use Rattle.ks_bodies.proofs.Standing.{Made, in_range, one_start, pairs_stand, pairs_lower, pairs_upper, none_fresh}

pub none_at : {X : Type 0} (o : Option X) → is_some o ≡ false → o ≡ None
none_at None e = refl
none_at (Some x) e = cc

module _ (g : ℕ → NodeState) (f : ℕ → Frame) (parent node right cut : ℕ) (u b : Body) (good : Good g) (tree : Tree g f) (adopt : CanAdopt g f parent node u) (part : CanPart g f node right cut b)
    (after : IsPlain (adopted cut right u)) (lower : IsPlain (split_left cut b)) (upper : IsPlain (split_right cut b))
    (no_edge : (n : ℕ) → edges_between g n right ≡ 0) (up : (p : ℕ) → InInset g node p → InInset g parent p × LeadsTo (record_of u) p node) (made : Made g f (split_under parent node right cut u b)) where
  abbrev P : List Start
  P = u.starts

  abbrev Q : List Start
  Q = starts_below cut P ++ record { low = cut; node = right } ∷ starts_from cut P

  up_P : Ascend P
  up_P = body_ascend u adopt.stands.plain

  starts_are : (adopted cut right u).starts ≡ settled u.kind Q
  starts_are = rw adopt.branch refl

  -- no start of the parent is at the cut, or it could not lead to right from there
  none_begins : begins cut P ≡ false
  none_begins = free_of u.kind cut right P up_P (none_fresh g f parent right u adopt.stands (no_edge parent)) adopt.branch (subst Ascend starts_are (body_ascend (adopted cut right u) after))

  up_Q : Ascend Q
  up_Q = ascend Q (asc_insert (λ s. s.low) cut (record { low = cut; node = right }) P refl (none_at _ none_begins) adopt.stands.plain.sound.starts_ascend)

  free : AllAbove cut (starts_from cut P)
  free = free_from cut P up_P none_begins

  after_Q : (p : ℕ) → led (adopted cut right u).starts p ≡ led Q p
  after_Q p = ap (λ (xs : List Start). led xs p) starts_are ∙ led_settled u.kind Q p up_Q

  led_low : (p : ℕ) → p < cut → led Q p ≡ led P p
  led_low p lt =
      let a : nat_le cut p ≡ false = lt-leb _ _ lt in
      let b : led (record { low = cut; node = right } ∷ starts_from cut P) p ≡ None = rw (led_above cut P p lt, a) refl in
      led_append (starts_below cut P) (record { low = cut; node = right } ∷ starts_from cut P) p ∙ ap (λ (o : Option ℕ). or_else o (led (starts_below cut P) p)) b ∙ led_below cut P p lt

  led_cut : led P cut ≡ Some node
  led_cut = (body_led u adopt.stands.plain cut node (up cut part.inside).1).0

  at_cut : led (starts_below cut P) cut ≡ Some node
  at_cut =
      let none : led (starts_from cut P) cut ≡ None = led_none (starts_from cut P) cut cut free (omega arith) in
      ap (λ (o : Option ℕ). or_else o (led (starts_below cut P) cut)) (sym none) ∙ sym (led_parts cut P cut up_P) ∙ led_cut

  -- from the cut on a later start leads on as before, or else right does
  abbrev Later : ℕ → Type 0
  Later p = ((m : ℕ) × (led (starts_from cut P) p ≡ Some m) × (led P p ≡ Some m) × (led Q p ≡ Some m)) ⊎ ((led P p ≡ Some node) × (led Q p ≡ Some right))

  later : (p : ℕ) → cut ≤ p → Later p
  later p le = look (led (starts_from cut P) p) refl
    where
      a : nat_le cut p ≡ true
      a = le-leb _ _ le

      Q_is : led Q p ≡ or_else (or_else (led (starts_from cut P) p) (cond (nat_le cut p) (Some right) None)) (led (starts_below cut P) p)
      Q_is = led_append (starts_below cut P) (record { low = cut; node = right } ∷ starts_from cut P) p

      look : (o : Option ℕ) → led (starts_from cut P) p ≡ o → Later p
      look (Some m) is = inl (m, is, led_parts cut P p up_P ∙ ap (λ (o : Option ℕ). or_else o (led (starts_below cut P) p)) is, Q_is ∙ ap (λ (o : Option ℕ). or_else (or_else o (cond (nat_le cut p) (Some right) None)) (led (starts_below cut P) p)) is)
      look None is = inr (
        led_parts cut P p up_P ∙ ap (λ (o : Option ℕ). or_else o (led (starts_below cut P) p)) is ∙ led_past cut P p cut le (omega arith) ∙ at_cut,
        Q_is ∙ ap (λ (o : Option ℕ). or_else (or_else o (cond (nat_le cut p) (Some right) None)) (led (starts_below cut P) p)) is ∙ ap (λ (b : Bool). or_else (cond b (Some right) None) (led (starts_below cut P) p)) a,
      )

  not_later : (p : ℕ) → led (starts_from cut P) p ≡ Some node → ⊥
  not_later p is = omega (arith, one_start g f parent u tree adopt.stands node, count_parts cut P node, led_count (starts_from cut P) p node is, led_count (starts_below cut P) cut node at_cut)

  to_right : (p : ℕ) → cut ≤ p → led P p ≡ Some node → led Q p ≡ Some right
  to_right p le is = go (later p le)
    where
      go : Later p → led Q p ≡ Some right
      go (inl y) = let same : y.0 ≡ node = let e : Some y.0 ≡ Some node = sym y.2 ∙ is in cc in absurd (not_later p (y.1 ∙ ap (λ (m : ℕ). Some m) same))
      go (inr y) = y.1

  down : (p : ℕ) → InInset g parent p → LeadsTo (record_of u) p node → InInset g node p
  down p inset to = (inset.0, along (record_of u) inset.1 adopt.stands.has to (record_of b, part.stands.has))

  parent_range : (p : ℕ) → InInset g parent p → InRange u p
  parent_range p inset = in_range g f parent u tree adopt.stands p inset

  after_range : (p : ℕ) → InInset g parent p → InRange (adopted cut right u) p
  after_range p inset = record { low = (parent_range p inset).low; last = (parent_range p inset).last }

  range : (p : ℕ) → InInset g node p → InRange b p
  range p inset = in_range g f node b tree part.stands p inset

  lower_range : (p : ℕ) → p < cut → InRange b p → InRange (split_left cut b) p
  lower_range p lt r = record { low = left_first b.range (cut - 1) p r.low; last = left_last b.range (cut - 1) p r.last (omega arith) }

  upper_range : (p : ℕ) → cut ≤ p → InRange b p → InRange (split_right cut b) p
  upper_range p le r = record { low = right_first b.range cut p r.low le; last = right_last b.range cut p r.last }

  after_parent : HasBecome f (graph_with (split_under parent node right cut u b) g) (frames_with (split_under parent node right cut u b) f) (live_as parent (adopted cut right u))
  after_parent = made.named 0 (free_as node) (omega arith)

  after_node : HasBecome f (graph_with (split_under parent node right cut u b) g) (frames_with (split_under parent node right cut u b) f) (live_as node (split_left cut b))
  after_node = made.named 1 (free_as node) (omega arith)

  after_right : HasBecome f (graph_with (split_under parent node right cut u b) g) (frames_with (split_under parent node right cut u b) f) (live_as right (split_right cut b))
  after_right = made.named 2 (free_as node) (omega arith)

  -- starts are counted: one more leads to right
  apart_of : (m : ℕ) → (m ≡ right → ⊥) → ◌≡◌ {A = ℕ} (cond (right == m) 1 0) 0
  apart_of m ne = let t : (right == m) ≡ false = ne_eqb right m (λ e. ne (sym e)) in rw t refl

  at_right : ◌≡◌ {A = ℕ} (cond (right == right) 1 0) 1
  at_right = let t : (right == right) ≡ true = eq-eqb right right refl in rw t refl

  parent_upto : (m : ℕ) → edges_to (edges_of (adopted cut right u)) m ≤ count P m + cond (right == m) 1 0
  parent_upto m = omega (arith, body_upto (adopted cut right u) after m, ap (λ (xs : List Start). count xs m) starts_are, count_settled u.kind Q m, count_append (starts_below cut P) (record { low = cut; node = right } ∷ starts_from cut P) m, count_parts cut P m)

  pub meets_split_under : SplitsUnder g (graph_with (split_under parent node right cut u b) g) f (frames_with (split_under parent node right cut u b) f) parent node right cut (record_of u) (record_of (adopted cut right u)) (record_of b) (record_of (split_left cut b)) (record_of (split_right cut b))
  meets_split_under = record {
    differs = made.differs;
    frames = made.frames;
    before_parent = adopt.stands.has;
    before = part.stands.has;
    fresh = part.fresh;
    after_parent = after_parent.has;
    after = after_node.has;
    after_right = after_right.has;
    cut_inside = part.inside;
    above = omega (arith, part.splits.0.0, ap (λ (z : Frame). z.low) part.stands.frame);
    leads = omega (arith, body_count u adopt.stands.plain node, led_count P cut node led_cut);
    below_cut = λ p inset to lt. (
      led_body (adopted cut right u) after p node (after_range p inset) (after_Q p ∙ led_low p lt ∙ (body_led u adopt.stands.plain p node to).0),
      acts_alike (split_left cut b) b p lower part.stands.plain (lower_range p lt (range p (down p inset to))) (range p (down p inset to)) (led_below cut b.starts p lt) (value_below cut b.pairs p lt),
    );
    from_cut = λ p inset to le. (
      led_body (adopted cut right u) after p right (after_range p inset) (after_Q p ∙ to_right p le (body_led u adopt.stands.plain p node to).0),
      acts_alike (split_right cut b) b p upper part.stands.plain (upper_range p le (range p (down p inset to))) (range p (down p inset to)) (led_right b.kind cut b.starts p (body_ascend b part.stands.plain) part.splits.1 part.splits.2 part.parts le) (value_from cut b.pairs p le),
    );
    else = λ p inset not. acts_alike (adopted cut right u) u p after adopt.stands.plain (after_range p inset) (parent_range p inset) (after_Q p ∙ elim (low_or_high p cut) [
      | inl lt ↦ led_low p lt
      | inr le ↦ elim (later p le) [ inl y ↦ y.3 ∙ sym y.2 | inr y ↦ absurd (not (led_body u adopt.stands.plain p node (parent_range p inset) y.0)) ]
    ]) refl;
    tidy_parent = body_tidy (adopted cut right u) after;
    tidy = body_tidy (split_left cut b) lower;
    tidy_right = body_tidy (split_right cut b) upper;
    edges = λ m ne. omega (arith, parent_upto m, apart_of m ne, body_upto (split_left cut b) lower m, body_upto (split_right cut b) upper m, count_right (is_branch b) cut b.starts m, count_parts cut b.starts m, body_count b part.stands.plain m, body_count u adopt.stands.plain m);
    edge = omega (arith, parent_upto right, at_right, body_upto (split_left cut b) lower right, body_upto (split_right cut b) upper right, count_right (is_branch b) cut b.starts right, count_parts cut b.starts right, none_fresh g f node right b part.stands (no_edge node), none_fresh g f parent right u adopt.stands (no_edge parent));
    pairs_parent = pairs_stand g f parent u good adopt.stands;
    pairs = pairs_lower g f node cut b good part.stands;
    pairs_right = pairs_upper g f node cut b good part.stands;
    low_parent = ap (λ (z : Frame). z.low) after_parent.frame ∙ sym (ap (λ (z : Frame). z.low) adopt.stands.frame);
    low = ap (λ (z : Frame). z.low) after_node.frame ∙ sym (ap (λ (z : Frame). z.low) part.stands.frame);
    low_right = ap (λ (z : Frame). z.low) after_right.frame;
    range_parent = ap (λ (z : Frame). z.range) after_parent.frame ∙ sym (ap (λ (z : Frame). z.range) adopt.stands.frame);
    range = ap (λ (z : Frame). z.range) after_node.frame ∙ ends_range (cut - 1) b.range ∙ ap (λ (o : Option Span). range_to (cut - 1) o) (sym (ap (λ (z : Frame). z.range) part.stands.frame));
    range_right = ap (λ (z : Frame). z.range) after_right.frame ∙ begins_range cut b.range ∙ ap (λ (o : Option Span). range_from cut o) (sym (ap (λ (z : Frame). z.range) part.stands.frame));
  }
