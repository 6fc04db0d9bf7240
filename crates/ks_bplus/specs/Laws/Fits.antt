-- What each change of a B+ node keeps.
use Rattle.std.specs.Prelude.{◌≡◌, ℕ, suc, ◌-◌, ◌^◌, ◌<◌, ◌≤◌, Bool, true, false, not, ◌&&◌, nat_eq, nat_lt, nat_le, List, [], ◌∷◌, ◌++◌, length, filter, refl, IsTrue, Some, None, Option, All, take, drop, position, get_or}
use Rattle.std.proofs.Common.{arith, sym, ◌∙◌, subst}
use Rattle.std.proofs.lemmas.List.{length-append, nil_from_length, length-take, length-drop, get_or-drop}
use Rattle.std.proofs.lemmas.Bool.{lt-ltb, eqb-true}
use Rattle.ks_keysets.specs.declared.Span.{Span}
use Rattle.ks_keysets.specs.declared.Pair.{Pair}
use Rattle.ks_keysets.specs.declared.Kind.TheVariants.{NoBranch, Inner}
use Rattle.ks_keysets.specs.Layout.{bplus_layout}
use Rattle.ks_keysets.specs.Record.{top}
use Rattle.ks_node.specs.declared.start.Start.{Start}
use Rattle.ks_node.specs.Body.{pairs_below, pairs_from, starts_below, starts_from, first_node, begins, is_branch_kind, is_branch}
use Rattle.ks_node.specs.Room.{load, is_full, IsHeld, fit_together}
use Rattle.ks_node.specs.Effect.{pairs_put, pairs_del, first_from, without, without_at}
use Rattle.ks_node.specs.Edges.{edges_of}
use Rattle.ks_node.specs.Asks.{Absorbs, Suits, IsGoodCut, AdoptsInside, BranchesAdopt, HalvesHaveRoom}
use Rattle.ks_node.specs.Sound.{Sound}
use Rattle.ks_node.specs.Laws.Cuts.{length-below, length-from}
use Rattle.ks_node.specs.Laws.Starts.{differ, filter_le}
use Rattle.ks_node.specs.Laws.Keep.{sound_blank, sound_put, sound_del, sound_adopt, sound_left, sound_right, sound_absorb, sound_forget}
use Rattle.ks_node.specs.Spans.{plain_edges, AreWithin}
use Rattle.ks_node.specs.Laws.Spans.{begins_start, within_all, edges_are, length_edges}
use Rattle.ks_bplus.specs.declared.parts.Parts.{Parts}
use Rattle.ks_bplus.specs.Parts.{is_inner, pairs_of, starts_of, body_of}
use Rattle.ks_bplus.specs.Bplus.{bplus_body, bplus_content, bplus_can_adopt, bplus_cut, kind_of, Fit}

pub none_left : {X : Type 0} (xs : List X) → length xs ≡ 0 → xs ≡ []
none_left xs e = nil_from_length xs e

none_kept : {X : Type 0} (p : X → Bool) (xs : List X) → length xs ≡ 0 → length (filter p xs) ≡ 0
none_kept p xs e = omega (arith, filter_le p xs)

without_le : (o : Option ℕ) (ss : List Start) → length (without_at o ss) ≤ length ss
without_le None ss = omega arith
without_le (Some i) ss = omega (arith, length-append (take i ss) (drop (suc i) ss), length-take i ss, length-drop (suc i) ss)

first_length : (low : ℕ) (ss : List Start) → length (first_from low ss) ≡ length ss
first_length low [] = refl
first_length low (s ∷ ss) = refl

pub and_first : (a b : Bool) → (a && b) ≡ true → a ≡ true
and_first true b h = refl
and_first false b h = h

pub and_second : (a b : Bool) → (a && b) ≡ true → b ≡ true
and_second true b h = h
and_second false b h = absurd (differ refl h)

not_true : (a : Bool) → not a ≡ true → a ≡ false
not_true true h = absurd (differ refl h)
not_true false h = refl

kinds_differ : NoBranch ≡ Inner → ⊥
kinds_differ e = cc

pub no_range : (r : Span) → None ≡ Some r → ⊥
no_range r e = cc

pub fit_blank : Fit 0 false [] []
fit_blank = record {
  sound = sound_blank 0;
  leaf = λ e. refl;
  pairs_fit = omega arith;
  starts_fit = omega arith;
}

module _ {low : ℕ} {b : Bool} {ps : List Pair} {ss : List Start} (f : Fit low b ps ss) where
  pub fit_put : (p v : ℕ) → is_branch_kind (kind_of b) ≡ false → length (pairs_put p v ps) ≤ 16 → Fit low b (pairs_put p v ps) ss
  fit_put p v leaf long = record {
    sound = sound_put _ p v leaf (λ k d h. absurd (omega (arith, f.leaf (leaf_is b leaf)))) f.sound;
    leaf = f.leaf;
    pairs_fit = long;
    starts_fit = f.starts_fit;
  }
    where
      leaf_is : (b : Bool) → is_branch_kind (kind_of b) ≡ false → b ≡ false
      leaf_is true h = h
      leaf_is false h = refl

  pub fit_del : (p : ℕ) → is_branch_kind (kind_of b) ≡ false → length (pairs_del p ps) ≤ 16 → Fit low b (pairs_del p ps) ss
  fit_del p leaf long = record { sound = sound_del _ p leaf f.sound; leaf = f.leaf; pairs_fit = long; starts_fit = f.starts_fit }

  pub fit_left : (cut : ℕ) → 0 < cut → Fit low b (pairs_below cut ps) (starts_below cut ss)
  fit_left cut h = record {
    sound = sound_left _ cut h f.sound;
    leaf = λ e. none_kept _ ss (f.leaf e);
    pairs_fit = omega (arith, filter_le (λ x. nat_lt x.place cut) ps, f.pairs_fit);
    starts_fit = omega (arith, filter_le (λ x. nat_lt x.low cut) ss, f.starts_fit);
  }

-- what is left of no children
first_of_none : (low cut : ℕ) (ss : List Start) → length ss ≡ 0 → first_from low (starts_from cut ss) ≡ starts_from cut ss
first_of_none low cut [] e = refl
first_of_none low cut (s ∷ ss) e = absurd (omega arith)

pub fit_adopt : {low : ℕ} {b : Bool} {ps : List Pair} {ss : List Start} → Fit low b ps ss → (cut id : ℕ) → IsTrue (bplus_can_adopt (bplus_content low b ps ss) cut) → low < cut → cut ≤ top →
    length (starts_below cut ss ++ record { low = cut; node = id } ∷ starts_from cut ss) ≤ 16 → All (λ x. x.place < cut) ps →
    Fit low b ps (starts_below cut ss ++ record { low = cut; node = id } ∷ starts_from cut ss)
fit_adopt {low} {b = true} {ps} {ss} f cut id can h l long below =
    record {
      sound = sound_adopt (bplus_content low true ps ss) cut id (λ e. not_true _ (and_first _ _ (and_second true _ can))) h l below f.sound;
      leaf = λ e. absurd (differ e refl);
      pairs_fit = f.pairs_fit;
      starts_fit = long;
    }
fit_adopt {b = false} f cut id can h l long below = absurd (differ refl can)

pub fit_right : {low : ℕ} {b : Bool} {ps : List Pair} {ss : List Start} → Fit low b ps ss → (cut : ℕ) → 0 < cut → (kind_of b ≡ Inner → IsTrue (begins cut ss)) →
    Fit cut b (pairs_from cut ps) (first_from 0 (starts_from cut ss))
fit_right {low} {b = true} {ps} {ss} f cut h at_start = record {
  sound = sound_right (bplus_content low true ps ss) cut h (λ _. at_start refl) f.sound;
  leaf = λ e. absurd (differ e refl);
  pairs_fit = omega (arith, filter_le (λ x. nat_le cut x.place) ps, f.pairs_fit);
  starts_fit = omega (arith, first_length 0 (starts_from cut ss), filter_le (λ x. nat_le cut x.low) ss, f.starts_fit);
}
fit_right {low} {b = false} {ps} {ss} f cut h at_start = record {
  sound = subst (λ l. Sound (bplus_content cut false (pairs_from cut ps) l)) (sym (first_of_none 0 cut ss (f.leaf refl))) (sound_right (bplus_content low false ps ss) cut h (λ e. absurd (differ refl e)) f.sound);
  leaf = λ e. first_length 0 (starts_from cut ss) ∙ none_kept _ ss (f.leaf e);
  pairs_fit = omega (arith, filter_le (λ x. nat_le cut x.place) ps, f.pairs_fit);
  starts_fit = omega (arith, first_length 0 (starts_from cut ss), filter_le (λ x. nat_le cut x.low) ss, f.starts_fit);
}

pub fit_absorb : {low right_low : ℕ} {b c : Bool} {ps qs : List Pair} {ss ts : List Start} → Fit low b ps ss → Fit right_low c qs ts →
    IsTrue (fit_together bplus_layout (bplus_body low b ps ss) (bplus_body right_low c qs ts)) → Absorbs (bplus_body low b ps ss) (bplus_body right_low c qs ts) → right_low ≤ top →
    length (ps ++ qs) ≤ 16 → length (ss ++ first_from right_low ts) ≤ 16 → Fit low b (ps ++ qs) (ss ++ first_from right_low ts)
fit_absorb {low} {right_low} {b = true} {c = true} {ps} {qs} {ss} {ts} f g fits a l plong slong = record {
  sound = sound_absorb (bplus_content low true ps ss) (bplus_content right_low true qs ts) refl f.sound g.sound a.lows a.above_pairs a.right_pairs (λ e k d q. let x = a.above_edges refl k d q in omega arith) a.right_edges l;
  leaf = λ e. absurd (differ e refl);
  pairs_fit = plong;
  starts_fit = slong;
}
fit_absorb {b = true} {c = false} f g fits a l plong slong = absurd (differ refl fits)
fit_absorb {b = false} {c = true} f g fits a l plong slong = absurd (differ refl fits)
fit_absorb {low} {right_low} {b = false} {c = false} {ps} {qs} {ss} {ts} f g fits a l plong slong =
    let none_s : ss ≡ [] = none_left ss (f.leaf refl) in
    let none_t : ts ≡ [] = none_left ts (g.leaf refl) in
    let s : Sound (bplus_content low false (ps ++ qs) ts) = sound_absorb (bplus_content low false ps ss) (bplus_content right_low false qs ts) refl f.sound g.sound a.lows a.above_pairs a.right_pairs (λ e. absurd (differ refl e)) (λ e. absurd (differ refl e)) l in
    record {
      sound = rw (none_s, none_t) (subst (λ l. Sound (bplus_content low false (ps ++ qs) l)) none_t s);
      leaf = λ e. omega (arith, length-append ss (first_from right_low ts), first_length right_low ts, f.leaf refl, g.leaf refl);
      pairs_fit = plong;
      starts_fit = slong;
    }

pub fit_forget : {low : ℕ} {b : Bool} {ps : List Pair} {ss : List Start} → Fit low b ps ss → (id : ℕ) → IsTrue (is_branch_kind (kind_of b)) → (first_node ss ≡ Some id → ⊥) → Fit low b ps (without id ss)
fit_forget {low} {b = true} {ps} {ss} f id branch later = record {
  sound = sound_forget (bplus_content low true ps ss) id branch later f.sound;
  leaf = λ e. absurd (differ e refl);
  pairs_fit = f.pairs_fit;
  starts_fit = omega (arith, without_le (position (λ s. nat_eq s.node id) ss) ss, f.starts_fit);
}
fit_forget {b = false} f id branch later = absurd (differ refl branch)

pub fit_held : {low : ℕ} {b : Bool} {ps : List Pair} {ss : List Start} → Fit low b ps ss → IsHeld bplus_layout (bplus_body low b ps ss)
fit_held {b = true} f c e = let same : 16 ≡ c = cc in omega (arith, f.starts_fit)
fit_held {b = false} f c e = let same : 16 ≡ c = cc in omega (arith, f.pairs_fit)

pub fit_few : {low : ℕ} {b : Bool} {ps : List Pair} {ss : List Start} → Fit low b ps ss → length ss < 2 ^ 32 - 1
fit_few f = omega (arith, f.starts_fit)

fit_leaf : {low : ℕ} {b : Bool} {ps : List Pair} {ss : List Start} → Fit low b ps ss → is_branch (bplus_body low b ps ss) ≡ false → length ss ≡ 0
fit_leaf {b = true} f e = absurd (differ e refl)
fit_leaf {b = false} f e = f.leaf refl

-- a number up to 16 that is not 16 is below it
not_full : (n : ℕ) → n ≤ 16 → nat_eq n 16 ≡ false → n < 16
not_full n h e = grind arith

fit_adopts : {low : ℕ} {b : Bool} {ps : List Pair} {ss : List Start} → Fit low b ps ss → AdoptsInside bplus_can_adopt bplus_layout (bplus_body low b ps ss)
fit_adopts {b = true} {ss = ss} f cut branch less inside free = rw free (lt-ltb (length ss) 16 (not_full (length ss) f.starts_fit less))
fit_adopts {b = false} f cut branch less inside free = absurd (differ refl branch)

pub fit_adopting : {low : ℕ} {b : Bool} {ps : List Pair} {ss : List Start} → Fit low b ps ss → BranchesAdopt bplus_can_adopt bplus_layout (bplus_body low b ps ss)
fit_adopting f = record { bare = fit_leaf f; inside = fit_adopts f }

pub full_is : (low : ℕ) (b : Bool) (ps : List Pair) (ss : List Start) → IsTrue (is_full bplus_layout (bplus_body low b ps ss)) → load (bplus_body low b ps ss) ≡ 16
full_is low true ps ss h = eqb-true (length ss) 16 h
full_is low false ps ss h = eqb-true (length ps) 16 h

pub full_load : (low : ℕ) (parts : Parts) → IsTrue (is_full bplus_layout (body_of low parts)) → load (body_of low parts) ≡ 16
full_load low parts h = full_is low (is_inner parts) (pairs_of parts) (starts_of parts) h

pub fit_cuts : {low : ℕ} {b : Bool} {ps : List Pair} {ss : List Start} → Fit low b ps ss → (span : Span) (o : Option Span) →
    load (bplus_body low b ps ss) ≡ 16 → Suits (bplus_body low b ps ss) span → IsGoodCut (bplus_body low b ps ss) span (bplus_cut (bplus_content low b ps ss) o)
fit_cuts {b = true} {ss = ss} f span o full suits =
    let none : Start = record { low = 0; node = 0 } in
    let second = suits.starts 0 none (omega (arith, length-drop 1 ss)) in
    let ninth = suits.starts 7 none (omega (arith, length-drop 1 ss)) in
    let at_second = get_or-drop 1 ss 0 none in
    let at_ninth = get_or-drop 1 ss 7 none in
    let second_low : span.low ≤ (get_or ss 1 none).low = rw (← at_second) second.0 in
    let ninth_low : (get_or ss 8 none).low ≤ span.last = rw (← at_ninth) ninth.1 in
    let rise = f.sound.starts_ascend 1 8 none (omega arith) (omega arith) in
    let low_is = suits.begins_low in
    record {
      above = omega (arith, second_low, rise);
      within = ninth_low;
      splits = ((omega (arith, second_low, rise, low_is), λ r e. absurd (no_range r e)), λ e. begins_start ss 8 none (omega arith), λ e. absurd (kinds_differ (sym e)));
    }
fit_cuts {b = false} {ps = ps} {ss = ss} f span o full suits =
    let none : Pair = record { place = 0; value = 0 } in
    let first = suits.pairs 0 none (omega arith) in
    let ninth = suits.pairs 8 none (omega arith) in
    let rise = f.sound.pairs_ascend 0 8 none (omega arith) (omega arith) in
    let low_is = suits.begins_low in
    record {
      above = omega (arith, first.0, rise);
      within = ninth.1;
      splits = ((omega (arith, first.0, rise, low_is), λ r e. absurd (no_range r e)), λ e. absurd (kinds_differ e), λ e k d h. absurd (omega (arith, f.leaf refl)));
    }

-- half of what a full node holds goes to each side of its cut
pub fit_halves : {low : ℕ} {b : Bool} {ps : List Pair} {ss : List Start} → Fit low b ps ss → load (bplus_body low b ps ss) ≡ 16 → (o : Option Span) →
    HalvesHaveRoom bplus_layout (bplus_cut (bplus_content low b ps ss) o) (bplus_body low b ps ss)
fit_halves {b = true} {ss = ss} f full o =
    let none : Start = record { low = 0; node = 0 } in
    let cut : ℕ = (get_or ss 8 none).low in
    let left : length (starts_below cut ss) ≡ 8 = length-below (λ s. s.low) ss 8 none f.sound.starts_ascend (omega arith) in
    let right : length (starts_from cut ss) ≡ 8 = omega (arith, length-from (λ s. s.low) ss 8 none f.sound.starts_ascend (omega arith)) in
    (rw left refl, rw (first_length 0 (starts_from cut ss), right) refl)
fit_halves {b = false} {ps = ps} f full o =
    let none : Pair = record { place = 0; value = 0 } in
    let cut : ℕ = (get_or ps 8 none).place in
    let left : length (pairs_below cut ps) ≡ 8 = length-below (λ x. x.place) ps 8 none f.sound.pairs_ascend (omega arith) in
    let right : length (pairs_from cut ps) ≡ 8 = omega (arith, length-from (λ x. x.place) ps 8 none f.sound.pairs_ascend (omega arith)) in
    (rw left refl, rw right refl)

-- the edges of a node, one for each child

pub fit_edges : (low : ℕ) (b : Bool) (ps : List Pair) (ss : List Start) → Fit low b ps ss → edges_of (bplus_body low b ps ss) ≡ plain_edges 0 top ss
fit_edges low b ps ss f = edges_are (bplus_body low b ps ss) f.sound (λ r e. absurd (no_range r e)) refl

pub fit_edge_count : (low : ℕ) (b : Bool) (ps : List Pair) (ss : List Start) → Fit low b ps ss → length (edges_of (bplus_body low b ps ss)) ≡ length ss
fit_edge_count low b ps ss f = length_edges (bplus_body low b ps ss) f.sound (λ r e. absurd (no_range r e)) refl

pub fit_within : (low : ℕ) (b : Bool) (ps : List Pair) (ss : List Start) → Fit low b ps ss → AreWithin 0 top ss
fit_within low b ps ss f = within_all (bplus_body low b ps ss) f.sound
