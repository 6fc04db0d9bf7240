-- If a body is in order, each call leaves it in order.
use Rattle.std.specs.Prelude.{◌≡◌, ℕ, suc, ◌<◌, ◌≤◌, Bool, true, false, cond, IsTrue, List, [], ◌∷◌, ◌++◌, length, filter, All, drop, refl, Option, None, Some, is_some, nat_lt, nat_le, get_or}
use Rattle.std.proofs.Common.{arith, subst}
use Rattle.std.proofs.lemmas.List.{append-nil, length-append}
use Rattle.std.proofs.lemmas.List.Elements.{All-filter, All-weaker, All-cons, All-append, All-nil, All-drop}
use Rattle.ks_keysets.specs.declared.Kind.TheVariants.{NoBranch}
use Rattle.ks_keysets.specs.declared.Pair.{Pair}
use Rattle.ks_keysets.specs.Record.{top}
use Rattle.ks_node.specs.declared.start.Start.{Start}
use Rattle.ks_node.specs.Keyed.{Ascends}
use Rattle.ks_node.specs.Laws.Ascend.{asc_put, asc_del, asc_filter, asc_insert, asc_join, asc_cons, asc_nil, all_from}
use Rattle.ks_node.specs.Body.{Content, pairs_below, pairs_from, starts_below, starts_from, begins, is_branch_kind, first_node}
use Rattle.ks_node.specs.Effect.{pairs_put, pairs_del, first_from, settled, without}
use Rattle.ks_node.specs.Sound.{Sound}
use Rattle.ks_node.specs.Laws.Starts.{differ, all_first, all_settled, all_insert, all_without, asc_settled, asc_without, asc_first, tail_above, zero_below, zero_ahead, zero_settled, zero_first, zero_without, found_from, filter_le}

none_at : {X : Type 0} (o : Option X) → is_some o ≡ false → o ≡ None
none_at None e = refl
none_at (Some x) e = cc

none_kept : {X : Type 0} (p : X → Bool) (xs : List X) → length xs ≡ 0 → length (filter p xs) ≡ 0
none_kept p xs e = omega (arith, filter_le p xs)

pub all_put : (q p v : ℕ) (ps : List Pair) → p < q → All (λ x. x.place < q) ps → All (λ x. x.place < q) (pairs_put p v ps)
all_put q p v ps h a =
    let P : Pair → Type 0 = λ x. x.place < q in
    All-append P (pairs_below p ps) _ (All-filter _ P ps a) (All-cons P (record { place = p; value = v }) (pairs_from (suc p) ps) h (All-filter _ P ps a))

pub all_del : (q p : ℕ) (ps : List Pair) → All (λ x. x.place < q) ps → All (λ x. x.place < q) (pairs_del p ps)
all_del q p ps a =
    let P : Pair → Type 0 = λ x. x.place < q in
    All-append P (pairs_below p ps) _ (All-filter _ P ps a) (All-filter _ P ps a)

either : (P : List Start → Type 0) (b : Bool) (xs ys : List Start) → (b ≡ true → P xs) → (b ≡ false → P ys) → P (cond b xs ys)
either P true xs ys a c = a refl
either P false xs ys a c = c refl

pub sound_blank : (low : ℕ) → Sound (record { starts = []; pairs = []; low = low; kind = NoBranch })
sound_blank low = record {
  starts_ascend = asc_nil (λ s. s.low);
  starts_are_places = All-nil (λ s. s.low ≤ top);
  pairs_ascend = asc_nil (λ x. x.place);
  branch_no_pairs = λ e. refl;
  branch_covers = λ e. absurd (differ refl e);
  own_alone = λ e. omega arith;
  own_low = λ e. All-nil (λ s. low ≤ s.low);
  own_pairs = λ e. All-nil (λ s. All (λ x. x.place < s.low) []);
}

pub sound_put : (c : Content) (p v : ℕ) → is_branch_kind c.kind ≡ false → All (λ s. p < s.low) c.starts → Sound c → Sound (record c { pairs = pairs_put p v c.pairs })
sound_put c p v leaf below s = record {
  starts_ascend = s.starts_ascend;
  starts_are_places = s.starts_are_places;
  pairs_ascend = asc_put (λ x. x.place) p (record { place = p; value = v }) c.pairs refl s.pairs_ascend;
  branch_no_pairs = λ b. absurd (differ leaf b);
  branch_covers = s.branch_covers;
  own_alone = s.own_alone;
  own_low = s.own_low;
  own_pairs = λ e k d l. all_put _ p v c.pairs (below k d l) (s.own_pairs e k d l);
}

pub sound_del : (c : Content) (p : ℕ) → is_branch_kind c.kind ≡ false → Sound c → Sound (record c { pairs = pairs_del p c.pairs })
sound_del c p leaf s = record {
  starts_ascend = s.starts_ascend;
  starts_are_places = s.starts_are_places;
  pairs_ascend = asc_del (λ x. x.place) p c.pairs s.pairs_ascend;
  branch_no_pairs = λ b. absurd (differ leaf b);
  branch_covers = s.branch_covers;
  own_alone = s.own_alone;
  own_low = s.own_low;
  own_pairs = λ e k d l. all_del _ p c.pairs (s.own_pairs e k d l);
}

pub sound_adopt : (c : Content) (cut id : ℕ) → (is_branch_kind c.kind ≡ true → begins cut c.starts ≡ false) → c.low < cut → cut ≤ top → All (λ x. x.place < cut) c.pairs → Sound c →
    Sound (record c { starts = cond (is_branch_kind c.kind) (settled c.kind (starts_below cut c.starts ++ record { low = cut; node = id } ∷ starts_from cut c.starts)) (record { low = cut; node = id } ∷ []) })
sound_adopt c cut id free h l pairs s =
    let new : Start = record { low = cut; node = id } in
    let more : List Start = starts_below cut c.starts ++ new ∷ starts_from cut c.starts in
    record {
      starts_ascend = either (Ascends (λ s. s.low)) (is_branch_kind c.kind) _ _
          (λ b. asc_settled c.kind more (asc_insert (λ x. x.low) cut new c.starts refl (none_at _ (free b)) s.starts_ascend))
          (λ b. asc_cons (λ s. s.low) new [] (All-nil (λ t. cut < t.low)) (asc_nil (λ s. s.low)));
      starts_are_places = either (All (λ s. s.low ≤ top)) (is_branch_kind c.kind) _ _
          (λ b. all_settled (λ s. s.low ≤ top) c.kind more (all_insert (λ s. s.low ≤ top) cut id c.starts l s.starts_are_places))
          (λ b. All-cons (λ s. s.low ≤ top) new [] l (All-nil (λ s. s.low ≤ top)));
      pairs_ascend = s.pairs_ascend;
      branch_no_pairs = s.branch_no_pairs;
      branch_covers = λ b. rw b (zero_settled c.kind more (zero_below cut c.starts _ (omega arith) (s.branch_covers b)));
      own_alone = λ e. rw e (omega arith);
      own_low = λ e. rw e (All-cons (λ s. c.low ≤ s.low) new [] (omega arith) (All-nil (λ s. c.low ≤ s.low)));
      own_pairs = λ e. rw e (All-cons (λ s. All (λ x. x.place < s.low) c.pairs) new [] pairs (All-nil (λ s. All (λ x. x.place < s.low) c.pairs)));
    }

pub sound_left : (c : Content) (cut : ℕ) → 0 < cut → Sound c → Sound (record c { starts = starts_below cut c.starts; pairs = pairs_below cut c.pairs })
sound_left c cut h s = record {
  starts_ascend = asc_filter (λ x. x.low) _ c.starts s.starts_ascend;
  starts_are_places = All-filter _ (λ s. s.low ≤ top) c.starts s.starts_are_places;
  pairs_ascend = asc_filter (λ x. x.place) _ c.pairs s.pairs_ascend;
  branch_no_pairs = λ b. none_kept _ c.pairs (s.branch_no_pairs b);
  branch_covers = λ b. rw append-nil at (zero_below cut c.starts [] h (s.branch_covers b));
  own_alone = λ e. omega (arith, filter_le (λ s. nat_lt s.low cut) c.starts, s.own_alone e);
  own_low = λ e. All-filter _ (λ s. c.low ≤ s.low) c.starts (s.own_low e);
  own_pairs = λ e. All-filter _ (λ s. All (λ x. x.place < s.low) (pairs_below cut c.pairs)) c.starts (λ k d l. All-filter _ (λ x. x.place < (get_or c.starts k d).low) c.pairs (s.own_pairs e k d l));
}

pub sound_right : (c : Content) (cut : ℕ) → 0 < cut → (IsTrue (is_branch_kind c.kind) → begins cut c.starts ≡ true) → Sound c →
    Sound (record c { starts = cond (is_branch_kind c.kind) (first_from 0 (starts_from cut c.starts)) (starts_from cut c.starts); pairs = pairs_from cut c.pairs; low = cut })
sound_right c cut h at_start s =
    let up : Ascends (λ x. x.low) (starts_from cut c.starts) = asc_filter (λ x. x.low) _ c.starts s.starts_ascend in
    let high : All (λ x. cut ≤ x.low) (starts_from cut c.starts) = all_from (λ x. x.low) cut c.starts in
    let places : All (λ s. s.low ≤ top) (starts_from cut c.starts) = All-filter _ (λ s. s.low ≤ top) c.starts s.starts_are_places in
    record {
      starts_ascend = either (Ascends (λ s. s.low)) (is_branch_kind c.kind) _ _
          (λ b. asc_first 0 (starts_from cut c.starts) (All-weaker (λ s. cut < s.low) (λ s. 0 < s.low) (λ s l. omega arith) _ (tail_above cut (starts_from cut c.starts) up high)) up)
          (λ b. up);
      starts_are_places = either (All (λ s. s.low ≤ top)) (is_branch_kind c.kind) _ _
          (λ b. all_first (λ s. s.low ≤ top) 0 (starts_from cut c.starts) (λ s e. omega arith) (All-drop (λ s. s.low ≤ top) 1 _ places))
          (λ b. places);
      pairs_ascend = asc_filter (λ x. x.place) _ c.pairs s.pairs_ascend;
      branch_no_pairs = λ b. none_kept _ c.pairs (s.branch_no_pairs b);
      branch_covers = λ b. rw b (zero_first _ (found_from cut c.starts (at_start b)));
      own_alone = λ e. rw e (omega (arith, filter_le (λ s. nat_le cut s.low) c.starts, s.own_alone e));
      own_low = λ e. rw e high;
      own_pairs = λ e. rw e (All-filter _ (λ s. All (λ x. x.place < s.low) (pairs_from cut c.pairs)) c.starts (λ k d l. All-filter _ (λ x. x.place < (get_or c.starts k d).low) c.pairs (s.own_pairs e k d l)));
    }

pub sound_absorb : (b r : Content) → b.kind ≡ r.kind → Sound b → Sound r → b.low ≤ r.low →
    All (λ x. x.place < r.low) b.pairs → All (λ x. r.low ≤ x.place) r.pairs →
    (IsTrue (is_branch_kind b.kind) → All (λ s. s.low < r.low) b.starts) →
    (IsTrue (is_branch_kind r.kind) → All (λ s. r.low < s.low) (drop 1 r.starts)) →
    r.low ≤ top →
    Sound (record b { starts = cond (is_branch_kind b.kind) (b.starts ++ first_from r.low r.starts) r.starts; pairs = b.pairs ++ r.pairs })
sound_absorb b r kind s t lows low high starts_low starts_high l =
    let over : IsTrue (is_branch_kind b.kind) → IsTrue (is_branch_kind r.kind) = λ e. subst (λ k. IsTrue (is_branch_kind k)) kind e in
    let not_over : is_branch_kind b.kind ≡ false → is_branch_kind r.kind ≡ false = λ e. subst (λ k. is_branch_kind k ≡ false) kind e in
    record {
      starts_ascend = either (Ascends (λ s. s.low)) (is_branch_kind b.kind) _ _
          (λ e. asc_join (λ x. x.low) r.low b.starts (first_from r.low r.starts) s.starts_ascend (asc_first r.low r.starts (starts_high (over e)) t.starts_ascend) (starts_low e)
          (all_first (λ s. r.low ≤ s.low) r.low r.starts (λ s q. omega arith) (All-weaker (λ s. r.low < s.low) (λ s. r.low ≤ s.low) (λ s q. omega arith) _ (starts_high (over e)))))
          (λ e. t.starts_ascend);
      starts_are_places = either (All (λ s. s.low ≤ top)) (is_branch_kind b.kind) _ _
          (λ e. All-append (λ s. s.low ≤ top) b.starts _ s.starts_are_places (all_first (λ s. s.low ≤ top) r.low r.starts (λ s q. omega arith) (All-drop (λ s. s.low ≤ top) 1 r.starts t.starts_are_places)))
          (λ e. t.starts_are_places);
      pairs_ascend = asc_join (λ x. x.place) r.low b.pairs r.pairs s.pairs_ascend t.pairs_ascend low high;
      branch_no_pairs = λ e. omega (arith, length-append b.pairs r.pairs, s.branch_no_pairs e, t.branch_no_pairs (over e));
      branch_covers = λ e. rw e (zero_ahead b.starts _ (s.branch_covers e));
      own_alone = λ e. rw e (t.own_alone (not_over e));
      own_low = λ e. rw e (All-weaker (λ s. r.low ≤ s.low) (λ s. b.low ≤ s.low) (λ s q. omega arith) r.starts (t.own_low (not_over e)));
      own_pairs = λ e. rw e (λ k d q.
          let first : r.low ≤ (get_or r.starts k d).low = t.own_low (not_over e) k d q in
          All-append (λ x. x.place < (get_or r.starts k d).low) b.pairs r.pairs (All-weaker (λ x. x.place < r.low) (λ x. x.place < (get_or r.starts k d).low) (λ x w. omega arith) b.pairs low) (t.own_pairs (not_over e) k d q));
    }

pub sound_forget : (c : Content) (id : ℕ) → IsTrue (is_branch_kind c.kind) → (first_node c.starts ≡ Some id → ⊥) → Sound c → Sound (record c { starts = settled c.kind (without id c.starts) })
sound_forget c id branch later s = record {
  starts_ascend = asc_settled c.kind (without id c.starts) (asc_without id c.starts s.starts_ascend);
  starts_are_places = all_settled (λ s. s.low ≤ top) c.kind (without id c.starts) (all_without (λ s. s.low ≤ top) id c.starts s.starts_are_places);
  pairs_ascend = s.pairs_ascend;
  branch_no_pairs = s.branch_no_pairs;
  branch_covers = λ e. zero_settled c.kind (without id c.starts) (zero_without id c.starts later (s.branch_covers e));
  own_alone = λ e. absurd (differ e branch);
  own_low = λ e. absurd (differ e branch);
  own_pairs = λ e. absurd (differ e branch);
}
