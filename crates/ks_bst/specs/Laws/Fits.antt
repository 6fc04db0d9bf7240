-- What each change of a node of a binary search tree keeps.
use Rattle.std.specs.Prelude.{◌≡◌, ℕ, ◌+◌, ◌<◌, ◌≤◌, Bool, true, false, nat_le, nat_lt, List, [], ◌∷◌, ◌++◌, length, refl, IsTrue, Some, None, Option, All, get_or}
use Rattle.std.proofs.Common.{arith}
use Rattle.std.proofs.lemmas.List.Elements.{All-nil, All-cons}
use Rattle.std.proofs.lemmas.Bool.{eqb-true, leb-true}
use Rattle.ks_keysets.specs.declared.Span.{Span}
use Rattle.ks_keysets.specs.declared.Pair.{Pair}
use Rattle.ks_keysets.specs.declared.Kind.TheVariants.{NoBranch, Inner}
use Rattle.ks_keysets.specs.Layout.{bst_layout}
use Rattle.ks_keysets.specs.Record.{top}
use Rattle.ks_node.specs.declared.start.Start.{Start}
use Rattle.ks_node.specs.Body.{pairs_below, pairs_from, first_node, is_branch_kind, is_branch}
use Rattle.ks_node.specs.Room.{is_full, IsHeld, fit_together}
use Rattle.ks_node.specs.Effect.{pairs_put, pairs_del, without}
use Rattle.ks_node.specs.Edges.{edges_of}
use Rattle.ks_node.specs.Asks.{Absorbs, Suits, IsGoodCut, HalvesHaveRoom}
use Rattle.ks_node.specs.Sound.{Sound}
use Rattle.ks_node.specs.Keyed.{Ascends}
use Rattle.ks_node.specs.Laws.Ascend.{asc_nil, asc_cons, asc_filter, asc_join}
use Rattle.ks_node.specs.Laws.Cuts.{length-below, length-from}
use Rattle.ks_node.specs.Laws.Starts.{differ, filter_le}
use Rattle.ks_node.specs.Laws.Keep.{sound_put, sound_del, sound_forget}
use Rattle.ks_node.specs.Spans.{plain_edges}
use Rattle.ks_node.specs.Laws.Spans.{edges_are, length_edges}
use Rattle.ks_bst.specs.declared.parts.Parts.{Parts}
use Rattle.ks_bst.specs.Parts.{is_inner, pairs_of, starts_of, body_of}
use Rattle.ks_bst.specs.Bst.{bst_body, bst_content, bst_cut, two_children, kind_of, Fit}

kinds_differ : NoBranch ≡ Inner → ⊥
kinds_differ e = cc

pub no_range : (r : Span) → None ≡ Some r → ⊥
no_range r e = cc

no_bound : (c : ℕ) → None ≡ Some c → ⊥
no_bound c e = cc

leaf_is : (b : Bool) → is_branch_kind (kind_of b) ≡ false → b ≡ false
leaf_is true h = h
leaf_is false h = refl

-- a leaf whose pairs ascend
sound_leaf : (low : ℕ) (ps : List Pair) → Ascends (λ x. x.place) ps → Sound (bst_content low false ps [])
sound_leaf low ps up = record {
  starts_ascend = asc_nil (λ s. s.low);
  starts_are_places = All-nil (λ s. s.low ≤ top);
  pairs_ascend = up;
  branch_no_pairs = λ e. absurd (differ refl e);
  branch_covers = λ e. absurd (differ refl e);
  own_alone = λ e. omega arith;
  own_low = λ e. All-nil (λ s. low ≤ s.low);
  own_pairs = λ e. All-nil (λ s. All (λ x. x.place < s.low) ps);
}

pub fit_blank : Fit 0 false [] []
fit_blank = record { sound = sound_leaf 0 [] (asc_nil (λ x. x.place)); leaf = λ e. refl; pairs_fit = omega arith }

module _ {low : ℕ} {b : Bool} {ps : List Pair} {ss : List Start} (f : Fit low b ps ss) where
  pub fit_leaf : is_branch (bst_body low b ps ss) ≡ false → length ss ≡ 0
  fit_leaf e = f.leaf (leaf_is b e)

  pub fit_put : (p v : ℕ) → is_branch_kind (kind_of b) ≡ false → length (pairs_put p v ps) ≤ 2 → Fit low b (pairs_put p v ps) ss
  fit_put p v leaf long = record {
    sound = sound_put _ p v leaf (λ k d h. absurd (omega (arith, f.leaf (leaf_is b leaf)))) f.sound;
    leaf = f.leaf;
    pairs_fit = long;
  }

  pub fit_del : (p : ℕ) → is_branch_kind (kind_of b) ≡ false → length (pairs_del p ps) ≤ 2 → Fit low b (pairs_del p ps) ss
  fit_del p leaf long = record { sound = sound_del _ p leaf f.sound; leaf = f.leaf; pairs_fit = long }

-- the pairs of one half in a leaf
pub fit_left : {low at : ℕ} {b : Bool} {ps : List Pair} {ss : List Start} → Fit low b ps ss → (cut : ℕ) → Fit at false (pairs_below cut ps) []
fit_left {at = at} {ps = ps} f cut = record {
  sound = sound_leaf at (pairs_below cut ps) (asc_filter (λ x. x.place) _ ps f.sound.pairs_ascend);
  leaf = λ e. refl;
  pairs_fit = omega (arith, filter_le (λ x. nat_lt x.place cut) ps, f.pairs_fit);
}

pub fit_right : {low at : ℕ} {b : Bool} {ps : List Pair} {ss : List Start} → Fit low b ps ss → (cut : ℕ) → Fit at false (pairs_from cut ps) []
fit_right {at = at} {ps = ps} f cut = record {
  sound = sound_leaf at (pairs_from cut ps) (asc_filter (λ x. x.place) _ ps f.sound.pairs_ascend);
  leaf = λ e. refl;
  pairs_fit = omega (arith, filter_le (λ x. nat_le cut x.place) ps, f.pairs_fit);
}

-- a fork
pub fit_fork : (low left cut right : ℕ) → 0 < cut → cut ≤ top → Fit low true [] (two_children left cut right)
fit_fork low left cut right h l =
    let first : Start = record { low = 0; node = left } in
    let second : Start = record { low = cut; node = right } in
    record {
      sound = record {
        starts_ascend = asc_cons (λ s. s.low) first (second ∷ []) (All-cons (λ s. 0 < s.low) second [] h (All-nil (λ s. 0 < s.low))) (asc_cons (λ s. s.low) second [] (All-nil (λ s. cut < s.low)) (asc_nil (λ s. s.low)));
        starts_are_places = All-cons (λ s. s.low ≤ top) first (second ∷ []) (omega arith) (All-cons (λ s. s.low ≤ top) second [] l (All-nil (λ s. s.low ≤ top)));
        pairs_ascend = asc_nil (λ x. x.place);
        branch_no_pairs = λ e. refl;
        branch_covers = λ e. refl;
        own_alone = λ e. absurd (differ e refl);
        own_low = λ e. absurd (differ e refl);
        own_pairs = λ e. absurd (differ e refl);
      };
      leaf = λ e. absurd (differ e refl);
      pairs_fit = omega arith;
    }

-- the pairs of two nodes in a leaf
pub fit_absorb : {low right_low : ℕ} {b c : Bool} {ps qs : List Pair} {ss ts : List Start} → Fit low b ps ss → Fit right_low c qs ts →
    Absorbs (bst_body low b ps ss) (bst_body right_low c qs ts) → length (ps ++ qs) ≤ 2 → Fit low false (ps ++ qs) []
fit_absorb {low} {right_low} {ps = ps} {qs} f g a long = record {
  sound = sound_leaf low (ps ++ qs) (asc_join (λ x. x.place) right_low ps qs f.sound.pairs_ascend g.sound.pairs_ascend a.above_pairs a.right_pairs);
  leaf = λ e. refl;
  pairs_fit = long;
}

-- the right child of a fork starts above 0
pub fork_rises : (left cut right : ℕ) → Ascends (λ s. s.low) (two_children left cut right) → 0 < cut
fork_rises left cut right up = up 0 1 (record { low = 0; node = left }) (omega arith) (omega arith)

pub fit_forget : {low : ℕ} {b : Bool} {ps : List Pair} {ss : List Start} → Fit low b ps ss → (id : ℕ) → IsTrue (is_branch_kind (kind_of b)) → (first_node ss ≡ Some id → ⊥) → Fit low true ps (without id ss)
fit_forget {low} {b = true} {ps} {ss} f id branch later = record {
  sound = sound_forget (bst_content low true ps ss) id branch later f.sound;
  leaf = λ e. absurd (differ e refl);
  pairs_fit = f.pairs_fit;
}
fit_forget {b = false} f id branch later = absurd (differ refl branch)

pub fit_held : {low : ℕ} {b : Bool} {ps : List Pair} {ss : List Start} → Fit low b ps ss → IsHeld bst_layout (bst_body low b ps ss)
fit_held {b = true} f c e = absurd (no_bound c e)
fit_held {b = false} f c e = let same : 2 ≡ c = cc in omega (arith, f.pairs_fit)

-- only a leaf with two pairs is full, and only leaves fit together
full_by : (low : ℕ) (b : Bool) (ps : List Pair) (ss : List Start) → IsTrue (is_full bst_layout (bst_body low b ps ss)) → (b ≡ false) × (length ps ≡ 2)
full_by low true ps ss h = absurd (differ refl h)
full_by low false ps ss h = (refl, eqb-true (length ps) 2 h)

pub full_is : (low : ℕ) (parts : Parts) → IsTrue (is_full bst_layout (body_of low parts)) → (is_inner parts ≡ false) × (length (pairs_of parts) ≡ 2)
full_is low parts h = full_by low (is_inner parts) (pairs_of parts) (starts_of parts) h

pub record Joins (b c : Bool) (ps qs : List Pair) : Type 0 where
  pub left : b ≡ false
  pub right : c ≡ false
  pub few : length ps + length qs ≤ 2

joined : (low right_low : ℕ) (b c : Bool) (ps qs : List Pair) (ss ts : List Start) → IsTrue (fit_together bst_layout (bst_body low b ps ss) (bst_body right_low c qs ts)) → Joins b c ps qs
joined low right_low true true ps qs ss ts h = absurd (differ refl h)
joined low right_low true false ps qs ss ts h = absurd (differ refl h)
joined low right_low false true ps qs ss ts h = absurd (differ refl h)
joined low right_low false false ps qs ss ts h = record { left = refl; right = refl; few = leb-true (length ps + length qs) 2 h }

pub joins : (low right_low : ℕ) (parts right : Parts) → IsTrue (fit_together bst_layout (body_of low parts) (body_of right_low right)) →
    Joins (is_inner parts) (is_inner right) (pairs_of parts) (pairs_of right)
joins low right_low parts right h = joined low right_low (is_inner parts) (is_inner right) (pairs_of parts) (pairs_of right) (starts_of parts) (starts_of right) h

pub fit_cuts : {low : ℕ} {b : Bool} {ps : List Pair} {ss : List Start} → Fit low b ps ss → (span : Span) (o : Option Span) → (b ≡ false) × (length ps ≡ 2) →
    Suits (bst_body low b ps ss) span → IsGoodCut (bst_body low b ps ss) span (bst_cut (bst_content low b ps ss) o)
fit_cuts {b = true} f span o full suits = absurd (differ full.0 refl)
fit_cuts {b = false} {ps = ps} {ss = ss} f span o full suits =
    let two : length ps ≡ 2 = full.1 in
    let none : Pair = record { place = 0; value = 0 } in
    let first = suits.pairs 0 none (omega arith) in
    let second = suits.pairs 1 none (omega arith) in
    let rise = f.sound.pairs_ascend 0 1 none (omega arith) (omega arith) in
    let low_is = suits.begins_low in
    record {
      above = omega (arith, first.0, rise);
      within = second.1;
      splits = ((omega (arith, first.0, rise, low_is), λ r e. absurd (no_range r e)), λ e. absurd (kinds_differ e), λ e k d h. absurd (omega (arith, f.leaf refl)));
    }

-- one pair of a full leaf goes to each side of its cut
pub fit_halves : {low : ℕ} {b : Bool} {ps : List Pair} {ss : List Start} → Fit low b ps ss → (b ≡ false) × (length ps ≡ 2) → (o : Option Span) →
    HalvesHaveRoom bst_layout (bst_cut (bst_content low b ps ss) o) (bst_body low b ps ss)
fit_halves {b = true} f full o = absurd (differ full.0 refl)
fit_halves {b = false} {ps = ps} f full o =
    let two : length ps ≡ 2 = full.1 in
    let none : Pair = record { place = 0; value = 0 } in
    let cut : ℕ = (get_or ps 1 none).place in
    let left : length (pairs_below cut ps) ≡ 1 = length-below (λ x. x.place) ps 1 none f.sound.pairs_ascend (omega arith) in
    let right : length (pairs_from cut ps) ≡ 1 = omega (arith, length-from (λ x. x.place) ps 1 none f.sound.pairs_ascend (omega arith)) in
    (rw left refl, rw right refl)

-- the edges of a node, one for each child

pub fit_edges : (low : ℕ) (b : Bool) (ps : List Pair) (ss : List Start) → Fit low b ps ss → edges_of (bst_body low b ps ss) ≡ plain_edges 0 top ss
fit_edges low b ps ss f = edges_are (bst_body low b ps ss) f.sound (λ r e. absurd (no_range r e)) refl

pub fit_edge_count : (low : ℕ) (b : Bool) (ps : List Pair) (ss : List Start) → Fit low b ps ss → length (edges_of (bst_body low b ps ss)) ≡ length ss
fit_edge_count low b ps ss f = length_edges (bst_body low b ps ss) f.sound (λ r e. absurd (no_range r e)) refl
