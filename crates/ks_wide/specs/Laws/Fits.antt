-- What each change of a wide node keeps.
use Rattle.std.specs.Prelude.{◌≡◌, ℕ, zero, suc, ◌+◌, ◌-◌, ◌/◌, ◌^◌, ◌<◌, ◌≤◌, Bool, true, false, not, ◌&&◌, nat_eq, nat_lt, nat_le, List, [], ◌∷◌, ◌++◌, length, filter, refl, IsTrue, Some, None, Option, All, take, drop, position, get_or}
use Rattle.std.proofs.Common.{arith, ap, sym, ◌∙◌, subst, inl, inr}
use Rattle.std.proofs.lemmas.List.{length-append, nil_from_length, length-take, length-drop}
use Rattle.std.proofs.lemmas.List.Elements.{All-cons, All-nil}
use Rattle.std.proofs.lemmas.Bool.{lt-ltb, le-leb, eqb-true, ne_eqb}
use Rattle.std.proofs.lemmas.Bool.Decides.{eqb_tells, leb_tells}
use Rattle.ks_keysets.specs.declared.Span.{Span}
use Rattle.ks_keysets.specs.declared.Pair.{Pair}
use Rattle.ks_keysets.specs.declared.Kind.TheVariants.{NoBranch, Inner}
use Rattle.ks_keysets.specs.Layout.{wide_layout}
use Rattle.ks_keysets.specs.Record.{top}
use Rattle.ks_node.specs.declared.start.Start.{Start}
use Rattle.ks_node.specs.Keyed.{Ascends}
use Rattle.ks_node.specs.Body.{pairs_below, pairs_from, starts_below, starts_from, first_node, begins, is_branch_kind, is_branch, IsBlank}
use Rattle.ks_node.specs.Room.{is_full, IsHeld, fit_together}
use Rattle.ks_node.specs.Effect.{pairs_put, pairs_del, first_from, without, without_at}
use Rattle.ks_node.specs.Edges.{edges_of}
use Rattle.ks_node.specs.Asks.{Absorbs, Suits, IsGoodCut, AdoptsInside, BranchesAdopt, HalvesHaveRoom}
use Rattle.ks_node.specs.Sound.{Sound}
use Rattle.ks_node.specs.Laws.Cuts.{length-below, length-from}
use Rattle.ks_node.specs.Laws.Starts.{differ, filter_le}
use Rattle.ks_node.specs.Laws.Keep.{sound_blank, sound_put, sound_del, sound_adopt, sound_left, sound_right, sound_absorb, sound_forget}
use Rattle.ks_node.specs.Spans.{plain_edges}
use Rattle.ks_node.specs.Laws.Spans.{begins_start, edges_are, length_edges}
use Rattle.ks_pairs.specs.Paired.{Items}
use Rattle.ks_wide.specs.Started.{Kids}
use Rattle.ks_wide.specs.declared.parts.Parts.{Parts}
use Rattle.ks_wide.specs.declared.parts.Parts.TheVariants.{Leaf, Inner as Branch}
use Rattle.ks_wide.specs.Parts.{is_inner, pairs_of, starts_of, body_of, cut_of, load_of, room_of}
use Rattle.ks_wide.specs.Widths.{AreWidths}
use Rattle.ks_wide.specs.Wide.{wide_body, wide_content, wide_can_adopt, wide_cut, kind_of, two_children, Fit}

none_kept : {X : Type 0} (p : X → Bool) (xs : List X) → length xs ≡ 0 → length (filter p xs) ≡ 0
none_kept p xs e = omega (arith, filter_le p xs)

without_le : (o : Option ℕ) (ss : List Start) → length (without_at o ss) ≤ length ss
without_le None ss = omega arith
without_le (Some i) ss = omega (arith, length-append (take i ss) (drop (suc i) ss), length-take i ss, length-drop (suc i) ss)

first_length : (low : ℕ) (ss : List Start) → length (first_from low ss) ≡ length ss
first_length low [] = refl
first_length low (s ∷ ss) = refl

and_first : (a b : Bool) → (a && b) ≡ true → a ≡ true
and_first true b h = refl
and_first false b h = h

and_second : (a b : Bool) → (a && b) ≡ true → b ≡ true
and_second true b h = h
and_second false b h = absurd (differ refl h)

not_true : (a : Bool) → not a ≡ true → a ≡ false
not_true true h = absurd (differ refl h)
not_true false h = refl

kinds_differ : NoBranch ≡ Inner → ⊥
kinds_differ e = cc

pub no_range : (r : Span) → None ≡ Some r → ⊥
no_range r e = cc

-- two tests that hold of the same numbers say the same
pub same_test : (a b c d : ℕ) → (a ≤ b → c ≤ d) → (c ≤ d → a ≤ b) → nat_le a b ≡ nat_le c d
same_test a b c d there back =
    elim (leb_tells a b) [
      | inl e ↦ e.0 ∙ sym (le-leb c d (there e.1))
      | inr e ↦ elim (leb_tells c d) [ inl f ↦ (let both = back f.1 in absurd (omega (arith, e.1))) | inr f ↦ e.0 ∙ sym f.0 ]
    ]

-- all but the first, by where they are among all
tail_at : (P : Start → Type 0) (ss : List Start) (m : ℕ) (d : Start) → All P (drop 1 ss) → 0 < m → m < length ss → P (get_or ss m d)
tail_at P [] m d a p h = absurd (omega arith)
tail_at P (s ∷ ss) zero d a p h = absurd (omega arith)
tail_at P (s ∷ ss) (suc i) d a p h = a i d (omega arith)

two_ascend : (left cut right : ℕ) → 0 < cut → Ascends (λ s. s.low) (two_children left cut right)
two_ascend left cut right h zero zero d l m = absurd (omega arith)
two_ascend left cut right h zero (suc zero) d l m = h
two_ascend left cut right h zero (suc (suc j)) d l m = absurd (omega arith)
two_ascend left cut right h (suc i) zero d l m = absurd (omega arith)
two_ascend left cut right h (suc i) (suc zero) d l m = absurd (omega arith)
two_ascend left cut right h (suc i) (suc (suc j)) d l m = absurd (omega arith)

pub leaf_is : (b : Bool) → is_branch_kind (kind_of b) ≡ false → b ≡ false
leaf_is true h = h
leaf_is false h = refl

pub fit_blank : {L F room : ℕ} → AreWidths L F room → Fit L F 0 false [] []
fit_blank w = record {
  sound = sound_blank 0;
  leaf = λ e. refl;
  pairs_fit = omega arith;
  starts_fit = omega arith;
  two_pairs = w.two_pairs;
  four_children = w.four_children;
  few_pairs = w.few_pairs;
  few_children = w.few_children;
}

module _ {L F low : ℕ} {b : Bool} {ps : List Pair} {ss : List Start} (f : Fit L F low b ps ss) where
  -- a node of the same widths
  fits_as : {low : ℕ} {b : Bool} {ps : List Pair} {ss : List Start} → Sound (wide_content low b ps ss) → (b ≡ false → length ss ≡ 0) → length ps ≤ L → length ss ≤ F → Fit L F low b ps ss
  fits_as s leaf p q = record { sound = s; leaf = leaf; pairs_fit = p; starts_fit = q; two_pairs = f.two_pairs; four_children = f.four_children; few_pairs = f.few_pairs; few_children = f.few_children }

  -- what is left where all was moved out
  pub fit_emptied : Fit L F 0 false [] []
  fit_emptied = fits_as (sound_blank 0) (λ e. refl) (omega arith) (omega arith)

  -- the branch that a grow leaves
  pub fit_over : (left cut right : ℕ) → 0 < cut → cut ≤ top → Fit L F low true [] (two_children left cut right)
  fit_over left cut right h l = fits_as (record {
    starts_ascend = two_ascend left cut right h;
    starts_are_places = All-cons (λ s. s.low ≤ top) (record { low = 0; node = left }) (record { low = cut; node = right } ∷ []) (omega arith) (All-cons (λ s. s.low ≤ top) (record { low = cut; node = right }) [] l (All-nil (λ s. s.low ≤ top)));
    pairs_ascend = λ i j d m n. absurd (omega arith);
    branch_no_pairs = λ e. refl;
    branch_covers = λ e. refl;
    own_alone = λ e. absurd (differ e refl);
    own_low = λ e. absurd (differ e refl);
    own_pairs = λ e. absurd (differ e refl);
  }) (λ e. absurd (differ e refl)) (omega arith) (omega (arith, f.four_children))

  pub fit_put : (p v : ℕ) → is_branch_kind (kind_of b) ≡ false → length (pairs_put p v ps) ≤ L → Fit L F low b (pairs_put p v ps) ss
  fit_put p v leaf long = fits_as (sound_put _ p v leaf (λ k d h. absurd (omega (arith, f.leaf (leaf_is b leaf)))) f.sound) f.leaf long f.starts_fit

  pub fit_del : (p : ℕ) → is_branch_kind (kind_of b) ≡ false → length (pairs_del p ps) ≤ L → Fit L F low b (pairs_del p ps) ss
  fit_del p leaf long = fits_as (sound_del _ p leaf f.sound) f.leaf long f.starts_fit

  pub fit_left : (cut : ℕ) → 0 < cut → Fit L F low b (pairs_below cut ps) (starts_below cut ss)
  fit_left cut h =
      fits_as (sound_left _ cut h f.sound) (λ e. none_kept _ ss (f.leaf e))
      (omega (arith, filter_le (λ x. nat_lt x.place cut) ps, f.pairs_fit))
      (omega (arith, filter_le (λ x. nat_lt x.low cut) ss, f.starts_fit))

-- what is left of no children
first_of_none : (low cut : ℕ) (ss : List Start) → length ss ≡ 0 → first_from low (starts_from cut ss) ≡ starts_from cut ss
first_of_none low cut [] e = refl
first_of_none low cut (s ∷ ss) e = absurd (omega arith)

pub fit_adopt : {L F low : ℕ} {b : Bool} {ps : List Pair} {ss : List Start} → Fit L F low b ps ss → (cut id : ℕ) → IsTrue (wide_can_adopt F (wide_content low b ps ss) cut) → low < cut → cut ≤ top →
    length (starts_below cut ss ++ record { low = cut; node = id } ∷ starts_from cut ss) ≤ F → All (λ x. x.place < cut) ps →
    Fit L F low b ps (starts_below cut ss ++ record { low = cut; node = id } ∷ starts_from cut ss)
fit_adopt {low = low} {b = true} {ps} {ss} f cut id can h l long below =
    fits_as f (sound_adopt (wide_content low true ps ss) cut id (λ e. not_true _ (and_first _ _ (and_second true _ can))) h l below f.sound)
    (λ e. absurd (differ e refl)) f.pairs_fit long
fit_adopt {b = false} f cut id can h l long below = absurd (differ refl can)

pub fit_right : {L F low : ℕ} {b : Bool} {ps : List Pair} {ss : List Start} → Fit L F low b ps ss → (cut : ℕ) → 0 < cut → (kind_of b ≡ Inner → IsTrue (begins cut ss)) →
    Fit L F cut b (pairs_from cut ps) (first_from 0 (starts_from cut ss))
fit_right {low = low} {b = true} {ps} {ss} f cut h at_start =
    fits_as f (sound_right (wide_content low true ps ss) cut h (λ _. at_start refl) f.sound) (λ e. absurd (differ e refl))
    (omega (arith, filter_le (λ x. nat_le cut x.place) ps, f.pairs_fit))
    (omega (arith, first_length 0 (starts_from cut ss), filter_le (λ x. nat_le cut x.low) ss, f.starts_fit))
fit_right {low = low} {b = false} {ps} {ss} f cut h at_start =
    fits_as f (subst (λ l. Sound (wide_content cut false (pairs_from cut ps) l)) (sym (first_of_none 0 cut ss (f.leaf refl))) (sound_right (wide_content low false ps ss) cut h (λ e. absurd (differ refl e)) f.sound))
    (λ e. first_length 0 (starts_from cut ss) ∙ none_kept _ ss (f.leaf e))
    (omega (arith, filter_le (λ x. nat_le cut x.place) ps, f.pairs_fit))
    (omega (arith, first_length 0 (starts_from cut ss), filter_le (λ x. nat_le cut x.low) ss, f.starts_fit))

pub fit_absorb : {L F low right_low : ℕ} {b c : Bool} {ps qs : List Pair} {ss ts : List Start} → Fit L F low b ps ss → Fit L F right_low c qs ts →
    IsTrue (fit_together (wide_layout L F) (wide_body low b ps ss) (wide_body right_low c qs ts)) → Absorbs (wide_body low b ps ss) (wide_body right_low c qs ts) → right_low ≤ top →
    length (ps ++ qs) ≤ L → length (ss ++ first_from right_low ts) ≤ F → Fit L F low b (ps ++ qs) (ss ++ first_from right_low ts)
fit_absorb {low = low} {right_low} {b = true} {c = true} {ps} {qs} {ss} {ts} f g fits a l plong slong =
    fits_as f (sound_absorb (wide_content low true ps ss) (wide_content right_low true qs ts) refl f.sound g.sound a.lows a.above_pairs a.right_pairs (λ e k d q. let x = a.above_edges refl k d q in omega arith) a.right_edges l)
    (λ e. absurd (differ e refl)) plong slong
fit_absorb {b = true} {c = false} f g fits a l plong slong = absurd (differ refl fits)
fit_absorb {b = false} {c = true} f g fits a l plong slong = absurd (differ refl fits)
fit_absorb {low = low} {right_low} {b = false} {c = false} {ps} {qs} {ss} {ts} f g fits a l plong slong =
    let none_s : ss ≡ [] = nil_from_length ss (f.leaf refl) in
    let none_t : ts ≡ [] = nil_from_length ts (g.leaf refl) in
    let s : Sound (wide_content low false (ps ++ qs) ts) = sound_absorb (wide_content low false ps ss) (wide_content right_low false qs ts) refl f.sound g.sound a.lows a.above_pairs a.right_pairs (λ e. absurd (differ refl e)) (λ e. absurd (differ refl e)) l in
    fits_as f (rw (none_s, none_t) (subst (λ l. Sound (wide_content low false (ps ++ qs) l)) none_t s))
    (λ e. omega (arith, length-append ss (first_from right_low ts), first_length right_low ts, f.leaf refl, g.leaf refl)) plong slong

pub fit_forget : {L F low : ℕ} {b : Bool} {ps : List Pair} {ss : List Start} → Fit L F low b ps ss → (id : ℕ) → IsTrue (is_branch_kind (kind_of b)) → (first_node ss ≡ Some id → ⊥) → Fit L F low b ps (without id ss)
fit_forget {low = low} {b = true} {ps} {ss} f id branch later =
    fits_as f (sound_forget (wide_content low true ps ss) id branch later f.sound) (λ e. absurd (differ e refl)) f.pairs_fit
    (omega (arith, without_le (position (λ s. nat_eq s.node id) ss) ss, f.starts_fit))
fit_forget {b = false} f id branch later = absurd (differ refl branch)

pub fit_held : {L F low : ℕ} {b : Bool} {ps : List Pair} {ss : List Start} → Fit L F low b ps ss → IsHeld (wide_layout L F) (wide_body low b ps ss)
fit_held {F = F} {b = true} f c e = let same : F ≡ c = cc in omega (arith, f.starts_fit)
fit_held {L = L} {b = false} f c e = let same : L ≡ c = cc in omega (arith, f.pairs_fit)

pub fit_few : {L F low : ℕ} {b : Bool} {ps : List Pair} {ss : List Start} → Fit L F low b ps ss → length ss < 2 ^ 32 - 1
fit_few f = omega (arith, f.starts_fit, f.few_children)

fit_leaf : {L F low : ℕ} {b : Bool} {ps : List Pair} {ss : List Start} → Fit L F low b ps ss → is_branch (wide_body low b ps ss) ≡ false → length ss ≡ 0
fit_leaf {b = true} f e = absurd (differ e refl)
fit_leaf {b = false} f e = f.leaf refl

-- a number up to a bound that is not the bound is below it
not_full : (n bound : ℕ) → n ≤ bound → nat_eq n bound ≡ false → n < bound
not_full n bound h e = elim (eqb_tells n bound) [ inl s ↦ absurd (differ e s.0) | inr s ↦ omega (arith, s.1) ]

fit_adopts : {L F low : ℕ} {b : Bool} {ps : List Pair} {ss : List Start} → Fit L F low b ps ss → AdoptsInside (wide_can_adopt F) (wide_layout L F) (wide_body low b ps ss)
fit_adopts {F = F} {b = true} {ss = ss} f cut branch less inside free = rw free (lt-ltb (length ss) F (not_full (length ss) F f.starts_fit less))
fit_adopts {b = false} f cut branch less inside free = absurd (differ refl branch)

pub fit_adopting : {L F low : ℕ} {b : Bool} {ps : List Pair} {ss : List Start} → Fit L F low b ps ss → BranchesAdopt (wide_can_adopt F) (wide_layout L F) (wide_body low b ps ss)
fit_adopting f = record { bare = fit_leaf f; inside = fit_adopts f }

-- of a full node
pub full_load : {L F : ℕ} (low : ℕ) (parts : Parts L F) → IsTrue (is_full (wide_layout L F) (body_of low parts)) → load_of parts ≡ room_of parts
full_load {L} low (Leaf ps) h = eqb-true (length ps.items) L h
full_load {F = F} low (Branch ss) h = eqb-true (length ss.items) F h

-- what holds of the pairs of a node holds of those of a leaf that it is, and the same of children
pub at_leaf : {L F : ℕ} {parts : Parts L F} {ps : Items} (P : List Pair → Type 0) → parts ≡ Leaf ps → P (pairs_of parts) → P ps.items
at_leaf P is h = subst (λ q. P (pairs_of q)) is h

pub at_branch : {L F : ℕ} {parts : Parts L F} {ss : Kids} (P : List Start → Type 0) → parts ≡ Branch ss → P (starts_of parts) → P ss.items
at_branch P is h = subst (λ q. P (starts_of q)) is h

-- a blank node is a leaf with no pair
pub blank_leaf : {L F : ℕ} (low : ℕ) (parts : Parts L F) → IsBlank (body_of low parts) → is_inner parts ≡ false
blank_leaf low (Leaf ps) e = refl
blank_leaf low (Branch ss) e = absurd (kinds_differ (sym (ap (λ b. b.kind) e)))

pub blank_pairs : {L F : ℕ} (low : ℕ) (parts : Parts L F) → IsBlank (body_of low parts) → pairs_of parts ≡ []
blank_pairs low parts e = ap (λ b. b.pairs) e

-- a leaf that is not full has room
pub leaf_room : {L F : ℕ} (low : ℕ) (parts : Parts L F) → is_branch (body_of low parts) ≡ false → is_full (wide_layout L F) (body_of low parts) ≡ false → length (pairs_of parts) ≤ L → length (pairs_of parts) < L
leaf_room low (Leaf ps) leaf less h = not_full _ _ h less
leaf_room low (Branch ss) leaf less h = absurd (differ leaf refl)

-- of two that fit
pub same_kinds : {L F : ℕ} (low right_low : ℕ) (parts right : Parts L F) → IsTrue (fit_together (wide_layout L F) (body_of low parts) (body_of right_low right)) → is_inner parts ≡ is_inner right
same_kinds low right_low (Leaf ps) (Leaf qs) h = refl
same_kinds low right_low (Leaf ps) (Branch ts) h = absurd (differ refl h)
same_kinds low right_low (Branch ss) (Leaf qs) h = absurd (differ refl h)
same_kinds low right_low (Branch ss) (Branch ts) h = refl

fits_in : (n bound : ℕ) → nat_le n bound ≡ true → n ≤ bound
fits_in n bound h = elim (leb_tells n bound) [ inl e ↦ e.1 | inr e ↦ absurd (differ e.0 h) ]

pub loads_fit : {L F : ℕ} (low right_low : ℕ) (parts right : Parts L F) → IsTrue (fit_together (wide_layout L F) (body_of low parts) (body_of right_low right)) → load_of parts + load_of right ≤ room_of parts
loads_fit {L} low right_low (Leaf ps) (Leaf qs) h = fits_in _ L h
loads_fit low right_low (Leaf ps) (Branch ts) h = absurd (differ refl h)
loads_fit low right_low (Branch ss) (Leaf qs) h = absurd (differ refl h)
loads_fit {F = F} low right_low (Branch ss) (Branch ts) h = fits_in _ F h

-- a full node has two
pub two_held : {L F low : ℕ} (parts : Parts L F) {b : Bool} {ps : List Pair} {ss : List Start} → Fit L F low b ps ss → 2 ≤ room_of parts
two_held (Leaf ps) f = f.two_pairs
two_held (Branch ss) f = omega (arith, f.four_children)

module _ {L F low : ℕ} {ps : List Pair} {ss : List Start} where
  pub branch_cuts : Fit L F low true ps ss → (span : Span) (o : Option Span) → length ss ≡ F → Suits (wide_body low true ps ss) span →
      IsGoodCut (wide_body low true ps ss) span (wide_cut L F (wide_content low true ps ss) o)
  branch_cuts f span o full suits =
      let none : Start = record { low = 0; node = 0 } in
      let half : 2 ≤ F / 2 = omega (arith, f.four_children) in
      let less : F / 2 < length ss = omega (arith, f.four_children) in
      let second = tail_at (λ s. (span.low ≤ s.low) × (s.low ≤ span.last)) ss 1 none suits.starts (omega arith) (omega arith) in
      let middle = tail_at (λ s. (span.low ≤ s.low) × (s.low ≤ span.last)) ss (F / 2) none suits.starts (omega arith) less in
      let rise = f.sound.starts_ascend 1 (F / 2) none (omega arith) less in
      let low_is = suits.begins_low in
      record {
        above = omega (arith, second.0, rise);
        within = middle.1;
        splits = ((omega (arith, second.0, rise, low_is), λ r e. absurd (no_range r e)), λ e. begins_start ss (F / 2) none less, λ e. absurd (kinds_differ (sym e)));
      }

  pub leaf_cuts : Fit L F low false ps ss → (span : Span) (o : Option Span) → length ps ≡ L → Suits (wide_body low false ps ss) span →
      IsGoodCut (wide_body low false ps ss) span (wide_cut L F (wide_content low false ps ss) o)
  leaf_cuts f span o full suits =
      let none : Pair = record { place = 0; value = 0 } in
      let half : 1 ≤ L / 2 = omega (arith, f.two_pairs) in
      let less : L / 2 < length ps = omega (arith, f.two_pairs) in
      let first = suits.pairs 0 none (omega arith) in
      let middle = suits.pairs (L / 2) none less in
      let rise = f.sound.pairs_ascend 0 (L / 2) none (omega arith) less in
      let low_is = suits.begins_low in
      record {
        above = omega (arith, first.0, rise);
        within = middle.1;
        splits = ((omega (arith, first.0, rise, low_is), λ r e. absurd (no_range r e)), λ e. absurd (kinds_differ e), λ e k d h. absurd (omega (arith, f.leaf refl)));
      }

  pub branch_halves : Fit L F low true ps ss → (o : Option Span) → length ss ≡ F →
      HalvesHaveRoom (wide_layout L F) (wide_cut L F (wide_content low true ps ss) o) (wide_body low true ps ss)
  branch_halves f o full =
      let none : Start = record { low = 0; node = 0 } in
      let cut : ℕ = (get_or ss (F / 2) none).low in
      let half : 2 ≤ F / 2 = omega (arith, f.four_children) in
      let less : F / 2 < length ss = omega (arith, f.four_children) in
      let left : length (starts_below cut ss) ≡ F / 2 = length-below (λ s. s.low) ss (F / 2) none f.sound.starts_ascend less in
      let right : length (starts_from cut ss) + F / 2 ≡ F = length-from (λ s. s.low) ss (F / 2) none f.sound.starts_ascend less ∙ full in
      (ne_eqb _ _ (λ e. omega (arith, e)), ne_eqb _ _ (λ e. omega (arith, e, first_length 0 (starts_from cut ss))))

  pub leaf_halves : Fit L F low false ps ss → (o : Option Span) → length ps ≡ L →
      HalvesHaveRoom (wide_layout L F) (wide_cut L F (wide_content low false ps ss) o) (wide_body low false ps ss)
  leaf_halves f o full =
      let none : Pair = record { place = 0; value = 0 } in
      let cut : ℕ = (get_or ps (L / 2) none).place in
      let half : 1 ≤ L / 2 = omega (arith, f.two_pairs) in
      let less : L / 2 < length ps = omega (arith, f.two_pairs) in
      let left : length (pairs_below cut ps) ≡ L / 2 = length-below (λ x. x.place) ps (L / 2) none f.sound.pairs_ascend less in
      let right : length (pairs_from cut ps) + L / 2 ≡ L = length-from (λ x. x.place) ps (L / 2) none f.sound.pairs_ascend less ∙ full in
      (ne_eqb _ _ (λ e. omega (arith, e)), ne_eqb _ _ (λ e. omega (arith, e)))

pub fit_cuts : {L F low : ℕ} (parts : Parts L F) → Fit L F low (is_inner parts) (pairs_of parts) (starts_of parts) → (span : Span) (o : Option Span) →
    load_of parts ≡ room_of parts → Suits (body_of low parts) span → IsGoodCut (body_of low parts) span (cut_of parts)
fit_cuts (Leaf ps) f span o full suits = leaf_cuts f span o full suits
fit_cuts (Branch ss) f span o full suits = branch_cuts f span o full suits

-- half of what a full node holds goes to each side of its cut
pub fit_halves : {L F low : ℕ} (parts : Parts L F) → Fit L F low (is_inner parts) (pairs_of parts) (starts_of parts) → load_of parts ≡ room_of parts → (o : Option Span) →
    HalvesHaveRoom (wide_layout L F) (cut_of parts) (body_of low parts)
fit_halves (Leaf ps) f full o = leaf_halves f o full
fit_halves (Branch ss) f full o = branch_halves f o full

-- the edges of a node, one for each child
pub fit_edges : {L F : ℕ} (low : ℕ) (b : Bool) (ps : List Pair) (ss : List Start) → Fit L F low b ps ss → edges_of (wide_body low b ps ss) ≡ plain_edges 0 top ss
fit_edges low b ps ss f = edges_are (wide_body low b ps ss) f.sound (λ r e. absurd (no_range r e)) refl

pub fit_edge_count : {L F : ℕ} (low : ℕ) (b : Bool) (ps : List Pair) (ss : List Start) → Fit L F low b ps ss → length (edges_of (wide_body low b ps ss)) ≡ length ss
fit_edge_count low b ps ss f = length_edges (wide_body low b ps ss) f.sound (λ r e. absurd (no_range r e)) refl
