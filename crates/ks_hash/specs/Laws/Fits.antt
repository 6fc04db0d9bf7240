-- What each change of a hash node keeps, and what its cuts are.
use Rattle.std.specs.Prelude.{◌≡◌, ℕ, suc, ◌%◌, ◌-◌, ◌^◌, ◌<◌, ◌≤◌, Bool, true, false, cond, ◌&&◌, ◌||◌, nat_eq, nat_lt, nat_le, IsTrue, List, [], ◌∷◌, ◌++◌, length, All, Option, None, Some, get_or, refl}
use Rattle.std.specs.List.{list_all}
use Rattle.std.proofs.Common.{arith, ap, sym, subst}
use Rattle.std.proofs.lemmas.List.{get_or_read}
use Rattle.std.proofs.lemmas.List.Elements.{All-nil, All-cons, All-head, All-tail, All-append, All-weaker}
use Rattle.std.proofs.lemmas.Bool.{ltb-true, leb-true, eqb-true, ne_eqb}
use Rattle.ks_keysets.specs.declared.Pair.{Pair}
use Rattle.ks_keysets.specs.declared.Span.{Span}
use Rattle.ks_keysets.specs.declared.Kind.TheVariants.{NoBranch, Inner}
use Rattle.ks_keysets.specs.Layout.{hash_layout}
use Rattle.ks_keysets.specs.Record.{top}
use Rattle.ks_node.specs.declared.start.Start.{Start}
use Rattle.ks_node.specs.Keyed.{Ascends}
use Rattle.ks_node.specs.Laws.Ascend.{asc_nil, asc_filter, asc_join}
use Rattle.ks_node.specs.Body.{pairs_below, pairs_from, begins, is_branch_kind, is_branch}
use Rattle.ks_node.specs.Room.{is_full, IsHeld, fit_together}
use Rattle.ks_node.specs.Effect.{pairs_put, pairs_del}
use Rattle.ks_node.specs.Edges.{edges_of}
use Rattle.ks_node.specs.Asks.{CanSplitAt, Suits, IsNoneOr, IsGoodCut, Absorbs}
use Rattle.ks_node.specs.Sound.{Sound}
use Rattle.ks_node.specs.Laws.Starts.{differ, filter_le}
use Rattle.ks_node.specs.Laws.Keep.{sound_put, sound_del, sound_right}
use Rattle.ks_node.specs.Spans.{AreWithin, plain_edges}
use Rattle.ks_node.specs.Laws.Spans.{within_all, edges_are, length_edges}
use Rattle.ks_hash.specs.Slices.{is_size, smallest}
use Rattle.ks_hash.specs.Laws.Joined.{starts_ascend, starts_few, starts_zero, starts_places, size_bounds, from_all}
use Rattle.ks_hash.specs.Hash.{kind_of, own_starts, hash_starts, hash_content, hash_body, hash_can_adopt, hash_grows, slices_in, is_whole, middle_of, fifth, hash_cut, Fit}

pub no_range : (r : Span) → None ≡ Some r → ⊥
no_range r e = cc

and_first : (a b : Bool) → (a && b) ≡ true → a ≡ true
and_first true b h = refl
and_first false b h = h

and_second : (a b : Bool) → (a && b) ≡ true → b ≡ true
and_second true b h = h
and_second false b h = absurd (differ refl h)

kinds_differ : NoBranch ≡ Inner → ⊥
kinds_differ e = cc

-- a bucket with no edge, and a directory

sound_plain : (low : ℕ) (ps : List Pair) (ss : List ℕ) → Ascends (λ x. x.place) ps → Sound (hash_content low false ps None ss)
sound_plain low ps ss up = record {
  starts_ascend = asc_nil (λ s. s.low);
  starts_are_places = All-nil (λ s. s.low ≤ top);
  pairs_ascend = up;
  branch_no_pairs = λ e. absurd (differ refl e);
  branch_covers = λ e. absurd (differ refl e);
  own_alone = λ e. omega arith;
  own_low = λ e. All-nil (λ s. low ≤ s.low);
  own_pairs = λ e. All-nil (λ s. All (λ x. x.place < s.low) ps);
}

sound_slices : (low : ℕ) (ps : List Pair) (own : Option Start) (ss : List ℕ) → Ascends (λ x. x.place) ps → length ps ≡ 0 → IsTrue (is_size (length ss)) → Sound (hash_content low true ps own ss)
sound_slices low ps own ss up none size =
    let two = size_bounds (length ss) size in
    record {
      starts_ascend = starts_ascend ss size;
      starts_are_places = starts_places ss size;
      pairs_ascend = up;
      branch_no_pairs = λ e. none;
      branch_covers = λ e. starts_zero ss (omega arith);
      own_alone = λ e. absurd (differ e refl);
      own_low = λ e. absurd (differ e refl);
      own_pairs = λ e. absurd (differ e refl);
    }

-- a full node is a bucket with eight pairs

pub full_bucket : {low : ℕ} {b : Bool} {ps : List Pair} {own : Option Start} {ss : List ℕ} → Fit low b ps own ss → IsTrue (is_full hash_layout (hash_body low b ps own ss)) → b ≡ false
full_bucket {b = true} f h = absurd (differ refl h)
full_bucket {b = false} f h = refl

-- a branch is a directory
pub is_directory : (b : Bool) → IsTrue (is_branch_kind (kind_of b)) → b ≡ true
is_directory true h = refl
is_directory false h = absurd (differ refl h)

-- a bucket's own edge starts at the cut of a split or above
pub split_above : {low : ℕ} {b : Bool} {ps : List Pair} {own : Option Start} {ss : List ℕ} → Fit low b ps own ss → (cut : ℕ) → b ≡ false → CanSplitAt (hash_body low b ps own ss) cut → All (λ s. cut ≤ s.low) (hash_starts b own ss)
split_above {b = true} f cut e h = absurd (differ e refl)
split_above {b = false} f cut e h = h.2 refl

pub fit_held : {low : ℕ} {b : Bool} {ps : List Pair} {own : Option Start} {ss : List ℕ} → Fit low b ps own ss → IsHeld hash_layout (hash_body low b ps own ss)
fit_held {b = true} f c e = cc
fit_held {b = false} f c e = let same : 8 ≡ c = cc in omega (arith, f.pairs_fit)

-- pairs

module _ {low : ℕ} {b : Bool} {ps : List Pair} {own : Option Start} {ss : List ℕ} (f : Fit low b ps own ss) where
  pub fit_put : (p v : ℕ) → is_branch_kind (kind_of b) ≡ false → All (λ s. p < s.low) (hash_starts b own ss) → length (pairs_put p v ps) ≤ 8 → Fit low b (pairs_put p v ps) own ss
  fit_put p v leaf below long = record { sound = sound_put _ p v leaf below f.sound; size = f.size; pairs_fit = long }

  pub fit_del : (p : ℕ) → is_branch_kind (kind_of b) ≡ false → length (pairs_del p ps) ≤ 8 → Fit low b (pairs_del p ps) own ss
  fit_del p leaf long = record { sound = sound_del _ p leaf f.sound; size = f.size; pairs_fit = long }

-- slices

pub fit_slices : {low : ℕ} {b : Bool} {ps : List Pair} {own : Option Start} {ss : List ℕ} → Fit low b ps own ss → b ≡ true → (ts : List ℕ) → IsTrue (is_size (length ts)) → Fit low b ps own ts
fit_slices {low} {b = true} {ps} {own} {ss} f e ts size = record {
  sound = sound_slices low ps own ts f.sound.pairs_ascend (f.sound.branch_no_pairs refl) size;
  size = λ _. size;
  pairs_fit = f.pairs_fit;
}
fit_slices {b = false} f e ts size = absurd (differ refl e)

-- own edges

pub fit_plain : (low : ℕ) (ps : List Pair) (ss : List ℕ) → Ascends (λ x. x.place) ps → length ps ≤ 8 → Fit low false ps None ss
fit_plain low ps ss up long = record { sound = sound_plain low ps ss up; size = λ e. absurd (differ refl e); pairs_fit = long }

pub fit_left : {low : ℕ} {b : Bool} {ps : List Pair} {own : Option Start} {ss : List ℕ} → Fit low b ps own ss → b ≡ false → (new : ℕ) (c : Bool) (cut : ℕ) (ts : List ℕ) → c ≡ false → Fit new c (pairs_below cut ps) None ts
fit_left {ps = ps} f e new c cut ts d =
    subst (λ k. Fit new k (pairs_below cut ps) None ts) (sym d)
    (fit_plain new (pairs_below cut ps) ts (asc_filter (λ x. x.place) _ ps f.sound.pairs_ascend) (omega (arith, filter_le (λ x. nat_lt x.place cut) ps, f.pairs_fit)))

pub fit_right : {low : ℕ} {b : Bool} {ps : List Pair} {own : Option Start} {ss : List ℕ} → Fit low b ps own ss → b ≡ false → (c : Bool) (cut : ℕ) (ts : List ℕ) → c ≡ false → 0 < cut → All (λ s. cut ≤ s.low) (hash_starts b own ss) → Fit cut c (pairs_from cut ps) own ts
fit_right {b = true} f e c cut ts d h above = absurd (differ e refl)
fit_right {low} {b = false} {ps} {own} {ss} f e c cut ts d h above =
    subst (λ k. Fit cut k (pairs_from cut ps) own ts) (sym d) (record {
      sound = subst (λ l. Sound (record { starts = l; pairs = pairs_from cut ps; low = cut; kind = NoBranch })) (from_all cut (own_starts own) above)
          (sound_right (hash_content low false ps own ss) cut h (λ e. absurd (differ refl e)) f.sound);
      size = λ e. absurd (differ refl e);
      pairs_fit = omega (arith, filter_le (λ x. nat_le cut x.place) ps, f.pairs_fit);
    })

pub fit_absorb : {low right_low : ℕ} {b c : Bool} {ps qs : List Pair} {own right_own : Option Start} {ss ts : List ℕ} → Fit low b ps own ss → Fit right_low c qs right_own ts →
    IsTrue (fit_together hash_layout (hash_body low b ps own ss) (hash_body right_low c qs right_own ts)) → Absorbs (hash_body low b ps own ss) (hash_body right_low c qs right_own ts) →
    length (ps ++ qs) ≤ 8 → (d : Bool) (us : List ℕ) → d ≡ false → Fit low d (ps ++ qs) right_own us
fit_absorb {b = true} f g fits meets long d us e = absurd (differ refl fits)
fit_absorb {b = false} {c = true} f g fits meets long d us e = absurd (differ refl fits)
fit_absorb {low} {right_low} {b = false} {c = false} {ps} {qs} {own} {right_own} {ss} {ts} f g fits meets long d us e =
    subst (λ k. Fit low k (ps ++ qs) right_own us) (sym e) (record {
      sound = record {
        starts_ascend = g.sound.starts_ascend;
        starts_are_places = g.sound.starts_are_places;
        pairs_ascend = asc_join (λ x. x.place) right_low ps qs f.sound.pairs_ascend g.sound.pairs_ascend meets.above_pairs meets.right_pairs;
        branch_no_pairs = λ branch. absurd (differ refl branch);
        branch_covers = λ branch. absurd (differ refl branch);
        own_alone = g.sound.own_alone;
        own_low = λ _. All-weaker (λ s. right_low ≤ s.low) (λ s. low ≤ s.low) (λ s q. omega (arith, meets.lows)) (own_starts right_own) (g.sound.own_low refl);
        own_pairs = λ _ k x q.
            let first : right_low ≤ (get_or (own_starts right_own) k x).low = g.sound.own_low refl k x q in
            All-append (λ y. y.place < (get_or (own_starts right_own) k x).low) ps qs
            (All-weaker (λ y. y.place < right_low) (λ y. y.place < (get_or (own_starts right_own) k x).low) (λ y w. omega (arith, first, w)) ps meets.above_pairs)
            (g.sound.own_pairs refl k x q);
      };
      size = λ directory. absurd (differ refl directory);
      pairs_fit = long;
    })

-- edges

pub fit_edges : {low : ℕ} {b : Bool} {ps : List Pair} {own : Option Start} {ss : List ℕ} → Fit low b ps own ss → edges_of (hash_body low b ps own ss) ≡ plain_edges 0 top (hash_starts b own ss)
fit_edges {low} {b} {ps} {own} {ss} f = edges_are (hash_body low b ps own ss) f.sound (λ r e. absurd (no_range r e)) refl

pub fit_edge_count : {low : ℕ} {b : Bool} {ps : List Pair} {own : Option Start} {ss : List ℕ} → Fit low b ps own ss → length (edges_of (hash_body low b ps own ss)) ≡ length (hash_starts b own ss)
fit_edge_count {low} {b} {ps} {own} {ss} f = length_edges (hash_body low b ps own ss) f.sound (λ r e. absurd (no_range r e)) refl

pub fit_within : {low : ℕ} {b : Bool} {ps : List Pair} {own : Option Start} {ss : List ℕ} → Fit low b ps own ss → AreWithin 0 top (hash_starts b own ss)
fit_within {low} {b} {ps} {own} {ss} f = within_all (hash_body low b ps own ss) f.sound

-- cuts

list_all_is : (p : Start → Bool) (ss : List Start) → list_all p ss ≡ true → All (λ s. p s ≡ true) ss
list_all_is p [] h = All-nil (λ s. p s ≡ true)
list_all_is p (s ∷ ss) h = All-cons (λ s. p s ≡ true) s ss (and_first _ _ h) (list_all_is p ss (and_second (p s) _ h))

begins_above : (cut : ℕ) (ss : List Start) → All (λ s. cut < s.low) ss → begins cut ss ≡ false
begins_above cut [] a = refl
begins_above cut (s ∷ ss) a =
    let here : cut < s.low = All-head (λ s. cut < s.low) s ss a in
    let other : nat_eq s.low cut ≡ false = ne_eqb _ _ (λ e. omega arith) in
    rw other (begins_above cut ss (All-tail (λ s. cut < s.low) s ss a))

chosen : (P : ℕ → Type 0) (b : Bool) (m n : ℕ) → (b ≡ true → P m) → P n → P (cond b m n)
chosen P true m n f h = f refl
chosen P false m n f h = h

-- a bucket with eight pairs is cut below its own edge
cut_below : {low : ℕ} {ps : List Pair} {own : Option Start} {ss : List ℕ} → Fit low false ps own ss → length ps ≡ 8 → (o : Option Span) → All (λ s. hash_cut (hash_content low false ps own ss) o < s.low) (own_starts own)
cut_below {low} {ps} {own} {ss} f eight o = by_option o
  where
    by_fifth : All (λ s. fifth ps < s.low) (own_starts own)
    by_fifth k d h = f.sound.own_pairs refl k d h 4 (record { place = 0; value = 0 }) (omega arith)

    by_option : (o : Option Span) → All (λ s. hash_cut (hash_content low false ps own ss) o < s.low) (own_starts own)
    by_option None = by_fifth
    by_option (Some span) = chosen (λ n. All (λ s. n < s.low) (own_starts own)) (is_whole span && list_all (λ s. nat_lt (middle_of span) s.low) (own_starts own)) (middle_of span) (fifth ps)
        (λ e. All-weaker (λ s. nat_lt (middle_of span) s.low ≡ true) (λ s. middle_of span < s.low) (λ s h. ltb-true _ _ h) _ (list_all_is (λ s. nat_lt (middle_of span) s.low) _ (and_second (is_whole span) _ e)))
        by_fifth

pub fit_adopts : {low : ℕ} {b : Bool} {ps : List Pair} {own : Option Start} {ss : List ℕ} → Fit low b ps own ss → (span : Span) (o : Option Span) → IsTrue (is_full hash_layout (hash_body low b ps own ss)) → Suits (hash_body low b ps own ss) span →
    IsTrue (hash_can_adopt (hash_content low b ps own ss) (hash_cut (hash_content low b ps own ss) o))
fit_adopts {b = true} f span o full suits = absurd (differ refl full)
fit_adopts {low} {b = false} {ps} {own} {ss} f span o full suits = rw (begins_above (hash_cut (hash_content low false ps own ss) o) (own_starts own) (cut_below f (eqb-true _ _ full) o)) refl

-- the middle of two or more whole smallest slices lies in the span
middle_inside : (span : Span) → is_whole span ≡ true → (span.low < middle_of span) × (middle_of span ≤ span.last)
middle_inside span e =
    let low : span.low % smallest ≡ 0 = eqb-true _ _ (and_first _ _ e) in
    let last : suc span.last % smallest ≡ 0 = eqb-true _ _ (and_first _ _ (and_second (nat_eq (span.low % smallest) 0) _ e)) in
    let two : 2 ≤ slices_in span = leb-true _ _ (and_second (nat_eq (suc span.last % smallest) 0) _ (and_second (nat_eq (span.low % smallest) 0) _ e)) in
    (omega arith, omega arith)

pub fit_cuts : {low : ℕ} {b : Bool} {ps : List Pair} {own : Option Start} {ss : List ℕ} → Fit low b ps own ss → IsTrue (is_full hash_layout (hash_body low b ps own ss)) → (o : Option Span) (span : Span) →
    Suits (hash_body low b ps own ss) span → IsNoneOr o span → IsGoodCut (hash_body low b ps own ss) span (hash_cut (hash_content low b ps own ss) o)
fit_cuts {b = true} f full o span suits is = absurd (differ refl full)
fit_cuts {low} {b = false} {ps} {own} {ss} f full o span suits is =
    let eight : length ps ≡ 8 = eqb-true _ _ full in
    let cut : ℕ = hash_cut (hash_content low false ps own ss) o in
    let inside : (span.low < cut) × (cut ≤ span.last) = lies eight o is in
    let begin : span.low ≡ low = suits.begins_low in
    record {
      above = inside.0;
      within = inside.1;
      splits = ((omega arith, λ r e. absurd (no_range r e)), λ e. absurd (kinds_differ e), λ e. All-weaker (λ s. cut < s.low) (λ s. cut ≤ s.low) (λ s h. omega arith) _ (cut_below f eight o));
    }
  where
    by_fifth : length ps ≡ 8 → (span.low < fifth ps) × (fifth ps ≤ span.last)
    by_fifth eight =
        let none : Pair = record { place = 0; value = 0 } in
        let first = suits.pairs 0 none (omega arith) in
        let fifth_in = suits.pairs 4 none (omega arith) in
        let rise = f.sound.pairs_ascend 0 4 none (omega arith) (omega arith) in
        (omega (arith, first.0, rise), fifth_in.1)

    lies : length ps ≡ 8 → (o : Option Span) → IsNoneOr o span → (span.low < hash_cut (hash_content low false ps own ss) o) × (hash_cut (hash_content low false ps own ss) o ≤ span.last)
    lies eight None is = by_fifth eight
    lies eight (Some given) is =
        subst (λ q. (span.low < hash_cut (hash_content low false ps own ss) (Some q)) × (hash_cut (hash_content low false ps own ss) (Some q) ≤ span.last)) (sym (is given refl))
        (chosen (λ n. (span.low < n) × (n ≤ span.last)) (is_whole span && list_all (λ s. nat_lt (middle_of span) s.low) (own_starts own)) (middle_of span) (fifth ps)
        (λ e. middle_inside span (and_first _ _ e)) (by_fifth eight))

-- what is read for a cut: the fifth pair, and the edge of a bucket's own

pub fifth_is : {low : ℕ} {b : Bool} {ps : List Pair} {own : Option Start} {ss : List ℕ} → Fit low b ps own ss → IsTrue (is_full hash_layout (hash_body low b ps own ss)) → (x : Pair) → x ≡ get_or ps 4 x → x.place ≡ fifth ps
fifth_is {b = true} f full x is = absurd (differ refl full)
fifth_is {b = false} {ps = ps} f full x is =
    let eight : length ps ≡ 8 = eqb-true _ _ full in
    ap (λ y. y.place) (get_or_read ps 4 x (omega arith) is (record { place = 0; value = 0 }))

pub cut_is : {low : ℕ} {b : Bool} {ps : List Pair} {own : Option Start} {ss : List ℕ} → Fit low b ps own ss → IsTrue (is_full hash_layout (hash_body low b ps own ss)) → (given : Span) →
    cond (is_whole given && list_all (λ s. nat_lt (middle_of given) s.low) (own_starts own)) (middle_of given) (fifth ps) ≡ hash_cut (hash_content low b ps own ss) (Some given)
cut_is {b = true} f full given = absurd (differ refl full)
cut_is {b = false} f full given = refl

pub fit_cut_by : {low : ℕ} {b : Bool} {ps : List Pair} {own : Option Start} {ss : List ℕ} → Fit low b ps own ss → IsTrue (is_full hash_layout (hash_body low b ps own ss)) → (given span : Span) →
    Suits (hash_body low b ps own ss) span → IsNoneOr (Some given) span →
    IsGoodCut (hash_body low b ps own ss) span (cond (is_whole given && list_all (λ s. nat_lt (middle_of given) s.low) (own_starts own)) (middle_of given) (fifth ps))
fit_cut_by {b = true} f full given span suits is = absurd (differ refl full)
fit_cut_by {b = false} f full given span suits is = fit_cuts f full (Some given) span suits is

pub fit_grows : {low : ℕ} {b : Bool} {ps : List Pair} {own : Option Start} {ss : List ℕ} → Fit low b ps own ss → IsTrue (is_branch (hash_body low b ps own ss) || nat_eq (length (hash_starts b own ss)) 0) → IsTrue (hash_grows (hash_content low b ps own ss))
fit_grows {b = true} f h = refl
fit_grows {b = false} {own = None} f h = refl
fit_grows {b = false} {own = Some s} f h = absurd (differ refl h)

pub fit_few : {low : ℕ} {b : Bool} {ps : List Pair} {own : Option Start} {ss : List ℕ} → Fit low b ps own ss → length (hash_starts b own ss) < 2 ^ 32 - 1
fit_few {b = true} {ss = ss} f = let size = size_bounds (length ss) (f.size refl) in let few = starts_few ss in omega arith
fit_few {b = false} {own = None} f = omega arith
fit_few {b = false} {own = Some s} f = omega arith
