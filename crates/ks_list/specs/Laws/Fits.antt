-- What each call makes of a list node that fits still fits, and what its cut is.
use Rattle.std.specs.Prelude.{◌≡◌, ℕ, ◌+◌, ◌<◌, ◌≤◌, true, false, not, nat_lt, nat_le, nat_eq, IsTrue, List, [], ◌∷◌, ◌++◌, length, All, refl, Option, None, Some, get_or}
use Rattle.std.proofs.Common.{arith, ap, sym, subst, ◌∙◌}
use Rattle.std.proofs.lemmas.Bool.{ne_eqb, le-leb, le-ltb, lt-ltb, eqb-true}
use Rattle.std.proofs.lemmas.Bool.Decides.{leb_tells}
use Rattle.std.proofs.Common.{inl, inr}
use Rattle.std.proofs.lemmas.List.{map-append, length-append}
use Rattle.ks_keysets.specs.declared.Span.{Span}
use Rattle.ks_keysets.specs.declared.Pair.{Pair}
use Rattle.ks_keysets.specs.declared.Kind.TheVariants.{NoBranch, Inner}
use Rattle.ks_keysets.specs.Layout.{list_layout}
use Rattle.ks_keysets.specs.Record.{top}
use Rattle.ks_node.specs.declared.start.Start.{Start}
use Rattle.ks_node.specs.Body.{begins, starts_below, starts_from, pairs_below, pairs_from}
use Rattle.ks_node.specs.Room.{IsHeld, is_full}
use Rattle.ks_node.specs.Effect.{pairs_put, pairs_del}
use Rattle.ks_node.specs.Asks.{Suits, IsGoodCut, Absorbs, HalvesHaveRoom}
use Rattle.ks_node.specs.Sound.{Sound}
use Rattle.ks_node.specs.Laws.Cuts.{length-below, length-from}
use Rattle.ks_node.specs.Laws.Starts.{filter_le}
use Rattle.ks_node.specs.Laws.Keep.{sound_blank, sound_put, sound_del, sound_adopt, sound_left, sound_right, sound_absorb}
use Rattle.ks_list.specs.Listed.{pair_of, pairs_of, starts_of, list_content, list_body, list_can_adopt, list_cut, Fit}
use Rattle.ks_list.specs.Laws.Pairs.{pairs_length, pair_read}

pub no_range : {r : Span} → None ≡ Some r → ⊥
no_range e = cc

pub differ : false ≡ true → ⊥
differ e = cc

kinds_differ : NoBranch ≡ Inner → ⊥
kinds_differ e = cc

-- the edge of its own lies above a cut at which the node may be split
pub own_below : (cut : ℕ) (own : Option Start) → All (λ s. cut ≤ s.low) (starts_of own) → starts_below cut (starts_of own) ≡ []
own_below cut None a = refl
own_below cut (Some s) a = let h : cut ≤ s.low = a 0 s (omega arith) in let t : nat_lt s.low cut ≡ false = le-ltb _ _ h in rw t refl

pub own_from : (cut : ℕ) (own : Option Start) → All (λ s. cut ≤ s.low) (starts_of own) → starts_from cut (starts_of own) ≡ starts_of own
own_from cut None a = refl
own_from cut (Some s) a = let h : cut ≤ s.low = a 0 s (omega arith) in let t : nat_le cut s.low ≡ true = le-leb _ _ h in rw t refl

pub fit_blank : Fit 0 None [] 8
fit_blank = record { sound = sound_blank 0; held = omega arith; room_is = refl }

pub fit_held : {low room : ℕ} {own : Option Start} {xs : List (ℕ × ℕ)} → Fit low own xs room → IsHeld list_layout (list_body low own xs)
fit_held {xs = xs} f c e = let is : 8 ≡ c = cc in omega (arith, pairs_length xs, f.held)

module _ {low room : ℕ} {own : Option Start} {xs : List (ℕ × ℕ)} (f : Fit low own xs room) where
  pub fit_put : (p v : ℕ) (ys : List (ℕ × ℕ)) (n : ℕ) → All (λ s. p < s.low) (starts_of own) → pairs_of ys ≡ pairs_put p v (pairs_of xs) → n ≡ room → (length xs ≤ room → length ys ≤ n) → Fit low own ys n
  fit_put p v ys n below is same long = record {
    sound = subst (λ ps. Sound (record { starts = starts_of own; pairs = ps; low = low; kind = NoBranch })) (sym is) (sound_put (list_content low own xs) p v refl below f.sound);
    held = omega (arith, f.held, f.room_is, long (omega (arith, f.held, f.room_is)));
    room_is = same ∙ f.room_is;
  }

  pub fit_del : (p : ℕ) (ys : List (ℕ × ℕ)) (n : ℕ) → pairs_of ys ≡ pairs_del p (pairs_of xs) → n ≡ room → length ys ≤ length xs → Fit low own ys n
  fit_del p ys n is same fewer = record {
    sound = subst (λ ps. Sound (record { starts = starts_of own; pairs = ps; low = low; kind = NoBranch })) (sym is) (sound_del (list_content low own xs) p refl f.sound);
    held = omega (arith, f.held);
    room_is = same ∙ f.room_is;
  }

  pub fit_adopt : (cut id : ℕ) → low < cut → cut ≤ top → All (λ x. x.place < cut) (pairs_of xs) → Fit low (Some (record { low = cut; node = id })) xs room
  fit_adopt cut id h l pairs = record {
    sound = sound_adopt (list_content low own xs) cut id (λ e. absurd (differ e)) h l pairs f.sound;
    held = f.held;
    room_is = f.room_is;
  }

  shorter : (ys : List (ℕ × ℕ)) (n : ℕ) → length (pairs_of ys) ≤ n → length ys ≤ n
  shorter ys n h = omega (arith, pairs_length ys)

  pub fit_left : (cut : ℕ) (ys : List (ℕ × ℕ)) (n : ℕ) → low < cut → All (λ s. cut ≤ s.low) (starts_of own) → pairs_of ys ≡ pairs_below cut (pairs_of xs) → n ≡ room → Fit low None ys n
  fit_left cut ys n h above is same =
      let s : Sound (record { starts = starts_below cut (starts_of own); pairs = pairs_below cut (pairs_of xs); low = low; kind = NoBranch }) = sound_left (list_content low own xs) cut (omega arith) f.sound in
      let t : Sound (record { starts = []; pairs = pairs_below cut (pairs_of xs); low = low; kind = NoBranch }) = subst (λ ss. Sound (record { starts = ss; pairs = pairs_below cut (pairs_of xs); low = low; kind = NoBranch })) (own_below cut own above) s in
      record {
        sound = subst (λ ps. Sound (record { starts = []; pairs = ps; low = low; kind = NoBranch })) (sym is) t;
        held = shorter ys 8 (omega (arith, ap length is, filter_le (λ x. nat_lt x.place cut) (pairs_of xs), pairs_length xs, f.held));
        room_is = same ∙ f.room_is;
      }

  pub fit_right : (cut : ℕ) (ys : List (ℕ × ℕ)) (n : ℕ) → low < cut → All (λ s. cut ≤ s.low) (starts_of own) → pairs_of ys ≡ pairs_from cut (pairs_of xs) → n ≡ 8 → Fit cut own ys n
  fit_right cut ys n h above is eight =
      let s : Sound (record { starts = starts_from cut (starts_of own); pairs = pairs_from cut (pairs_of xs); low = cut; kind = NoBranch }) = sound_right (list_content low own xs) cut (omega arith) (λ e. absurd (differ e)) f.sound in
      let t : Sound (record { starts = starts_of own; pairs = pairs_from cut (pairs_of xs); low = cut; kind = NoBranch }) = subst (λ ss. Sound (record { starts = ss; pairs = pairs_from cut (pairs_of xs); low = cut; kind = NoBranch })) (own_from cut own above) s in
      record {
        sound = subst (λ ps. Sound (record { starts = starts_of own; pairs = ps; low = cut; kind = NoBranch })) (sym is) t;
        held = shorter ys 8 (omega (arith, ap length is, filter_le (λ x. nat_le cut x.place) (pairs_of xs), pairs_length xs, f.held));
        room_is = eight;
      }

  pub fit_absorb : {right_low n : ℕ} {right_own : Option Start} {ys : List (ℕ × ℕ)} → Fit right_low right_own ys n → right_low ≤ top → length xs + length ys ≤ 8 →
      Absorbs (list_body low own xs) (list_body right_low right_own ys) → Fit low right_own (xs ++ ys) room
  fit_absorb {right_low} {n} {right_own} {ys} g l long a =
      let s : Sound (record { starts = starts_of right_own; pairs = pairs_of xs ++ pairs_of ys; low = low; kind = NoBranch }) =
      sound_absorb (list_content low own xs) (list_content right_low right_own ys) refl f.sound g.sound a.lows a.above_pairs a.right_pairs (λ e. absurd (differ e)) (λ e. absurd (differ e)) l in
      record {
        sound = subst (λ ps. Sound (record { starts = starts_of right_own; pairs = ps; low = low; kind = NoBranch })) (sym (map-append pair_of xs ys)) s;
        held = omega (arith, length-append xs ys);
        room_is = f.room_is;
      }

  -- the fifth of eight pairs
  pub fit_cuts : (span : Span) (o : Option Span) → IsTrue (is_full list_layout (list_body low own xs)) → Suits (list_body low own xs) span → IsGoodCut (list_body low own xs) span (list_cut (list_content low own xs) o)
  fit_cuts span o full suits =
      let none : Pair = record { place = 0; value = 0 } in
      let long : length (pairs_of xs) ≡ 8 = eqb-true _ _ full in
      let first = suits.pairs 0 none (omega arith) in
      let fifth = suits.pairs 4 none (omega arith) in
      let rise = f.sound.pairs_ascend 0 4 none (omega arith) (omega arith) in
      let low_is = suits.begins_low in
      record {
        above = omega (arith, first.0, rise);
        within = fifth.1;
        splits = ((omega (arith, first.0, rise, low_is), λ r e. absurd (no_range e)), λ e. absurd (kinds_differ e), λ e k d h. let under = f.sound.own_pairs refl k d h 4 none (omega arith) in omega (arith, under));
      }

  -- as it is read from the block
  pub fit_cut : (x : ℕ × ℕ) (span : Span) (o : Option Span) → x ≡ get_or xs 4 x → IsTrue (is_full list_layout (list_body low own xs)) → Suits (list_body low own xs) span → IsGoodCut (list_body low own xs) span x.0
  fit_cut x span o is full suits =
      let long : length (pairs_of xs) ≡ 8 = eqb-true _ _ full in
      let same = pairs_length xs in
      let read = ap (λ q. q.place) (pair_read xs 4 x (record { place = 0; value = 0 }) (omega arith) is) in
      subst (λ n. IsGoodCut (list_body low own xs) span n) (sym read) (fit_cuts span o full suits)

  -- four of the eight pairs go to each side of it
  fit_halves : IsTrue (is_full list_layout (list_body low own xs)) → HalvesHaveRoom list_layout (get_or (pairs_of xs) 4 (record { place = 0; value = 0 })).place (list_body low own xs)
  fit_halves full =
      let none : Pair = record { place = 0; value = 0 } in
      let long : length (pairs_of xs) ≡ 8 = eqb-true _ _ full in
      let cut : ℕ = (get_or (pairs_of xs) 4 none).place in
      let left : length (pairs_below cut (pairs_of xs)) ≡ 4 = length-below (λ x. x.place) (pairs_of xs) 4 none f.sound.pairs_ascend (omega arith) in
      let right : length (pairs_from cut (pairs_of xs)) ≡ 4 = omega (arith, length-from (λ x. x.place) (pairs_of xs) 4 none f.sound.pairs_ascend (omega arith)) in
      (rw left refl, rw right refl)

  pub fit_halves_read : (x : ℕ × ℕ) → x ≡ get_or xs 4 x → IsTrue (is_full list_layout (list_body low own xs)) → HalvesHaveRoom list_layout x.0 (list_body low own xs)
  fit_halves_read x is full =
      let long : length (pairs_of xs) ≡ 8 = eqb-true _ _ full in
      let same = pairs_length xs in
      let read = ap (λ q. q.place) (pair_read xs 4 x (record { place = 0; value = 0 }) (omega arith) is) in
      subst (λ n. HalvesHaveRoom list_layout n (list_body low own xs)) (sym read) (fit_halves full)

  high_begins : (cut : ℕ) (o : Option Start) → All (λ s. cut < s.low) (starts_of o) → not (begins cut (starts_of o)) ≡ true
  high_begins cut None a = refl
  high_begins cut (Some s) a = let h : cut < s.low = a 0 s (omega arith) in let t : nat_eq s.low cut ≡ false = ne_eqb _ _ (λ e. omega arith) in rw t refl

  -- a full node can adopt its cut
  pub fit_adopts : (o : Option Span) → IsTrue (is_full list_layout (list_body low own xs)) → IsTrue (list_can_adopt (list_content low own xs) (list_cut (list_content low own xs) o))
  fit_adopts o full =
      let none : Pair = record { place = 0; value = 0 } in
      let long : length (pairs_of xs) ≡ 8 = eqb-true _ _ full in
      high_begins (get_or (pairs_of xs) 4 none).place own (λ k d h. f.sound.own_pairs refl k d h 4 none (omega arith))

-- an edge that starts below the cut does not start at it
pub left_adopts : (cut : ℕ) (ss : List Start) → not (begins cut (starts_below cut ss)) ≡ true
left_adopts cut [] = refl
left_adopts cut (s ∷ ss) = elim (leb_tells cut s.low) [
  | inl h ↦ (let t : nat_lt s.low cut ≡ false = le-ltb _ _ h.1 in rw t (left_adopts cut ss))
  | inr h ↦ (
      let t : nat_lt s.low cut ≡ true = lt-ltb _ _ h.1 in
      let u : nat_eq s.low cut ≡ false = ne_eqb _ _ (λ e. omega (arith, h.1)) in
      rw (t, u) (left_adopts cut ss))
]
