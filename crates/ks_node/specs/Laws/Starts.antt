-- Facts of all edges, or of all but the first, that the calls keep when they change lists of edges.
use Rattle.std.specs.Prelude.{◌≡◌, ℕ, zero, suc, ◌+◌, ◌<◌, ◌≤◌, Bool, true, false, cond, nat_lt, nat_le, nat_eq, IsTrue, List, [], ◌∷◌, ◌++◌, length, filter, All, take, drop, refl, Option, None, Some, remove, position}
use Rattle.std.proofs.Common.{arith, ap}
use Rattle.std.proofs.lemmas.Bool.{eqb-true, lt-ltb, ne_eqb}
use Rattle.std.proofs.lemmas.Bool.Decides.{leb_tells}
use Rattle.std.proofs.Common.{inl, inr}
use Rattle.std.proofs.lemmas.List.Elements.{All-filter, All-weaker, All-cons, All-head, All-tail, All-append, All-nil, All-take, All-drop}
use Rattle.ks_keysets.specs.declared.Kind.{Kind}
use Rattle.ks_keysets.specs.declared.Kind.TheVariants.{NoBranch, Inner, Directory}
use Rattle.ks_node.specs.declared.start.Start.{Start}
use Rattle.ks_node.specs.Keyed.{Ascends}
use Rattle.ks_node.specs.Laws.Ascend.{asc_cons, asc_head, asc_tail}
use Rattle.ks_node.specs.Body.{starts_below, starts_from, begins, first_node}
use Rattle.ks_node.specs.Effect.{first_from, runs, runs_after, settled, without, without_at}
use Rattle.ks_node.specs.Sound.{starts_at_zero}

pub differ : {b : Bool} → b ≡ false → b ≡ true → ⊥
differ e f = cc

module _ (P : Start → Type 0) where
  tail_either : (c : Bool) (p : Start → Bool) (s : Start) (ss : List Start) → All P ss → All P (drop 1 (cond c (s ∷ filter p ss) (filter p ss)))
  tail_either true p s ss a = All-filter p P ss a
  tail_either false p s ss a = All-drop P 1 (filter p ss) (All-filter p P ss a)

  pub tail_filter : (p : Start → Bool) (ss : List Start) → All P (drop 1 ss) → All P (drop 1 (filter p ss))
  tail_filter p [] a = a
  tail_filter p (s ∷ ss) a = tail_either (p s) p s ss a

  pub tail_append : (ss ts : List Start) → All P (drop 1 ss) → All P ts → All P (drop 1 (ss ++ ts))
  tail_append [] ts a b = All-drop P 1 ts b
  tail_append (s ∷ ss) ts a b = All-append P ss ts a b

  pub tail_first : (low : ℕ) (ss : List Start) → All P (drop 1 ss) → All P (drop 1 (first_from low ss))
  tail_first low [] a = a
  tail_first low (s ∷ ss) a = a

  pub all_first : (low : ℕ) (ss : List Start) → ((s : Start) → s.low ≡ low → P s) → All P (drop 1 ss) → All P (first_from low ss)
  all_first low [] h a = All-nil P
  all_first low (s ∷ ss) h a = All-cons P (record { low = low; node = s.node }) ss (h (record { low = low; node = s.node }) refl) a

  all_remove : (ss : List Start) (i : ℕ) → All P ss → All P (remove ss i)
  all_remove ss i a = All-append P (take i ss) (drop (suc i) ss) (All-take P i ss a) (All-drop P (suc i) ss a)

  all_without_at : (o : Option ℕ) (ss : List Start) → All P ss → All P (without_at o ss)
  all_without_at None ss a = a
  all_without_at (Some i) ss a = all_remove ss i a

  tail_without_at : (o : Option ℕ) (ss : List Start) → All P (drop 1 ss) → All P (drop 1 (without_at o ss))
  tail_without_at None ss a = a
  tail_without_at (Some zero) [] a = a
  tail_without_at (Some zero) (s ∷ ss) a = All-drop P 1 ss a
  tail_without_at (Some (suc i)) [] a = a
  tail_without_at (Some (suc i)) (s ∷ ss) a = All-append P (take i ss) (drop (suc i) ss) (All-take P i ss a) (All-drop P (suc i) ss a)

  pub all_without : (id : ℕ) (ss : List Start) → All P ss → All P (without id ss)
  all_without id ss a = all_without_at (position (λ s. nat_eq s.node id) ss) ss a

  pub tail_without : (id : ℕ) (ss : List Start) → All P (drop 1 ss) → All P (drop 1 (without id ss))
  tail_without id ss a = tail_without_at (position (λ s. nat_eq s.node id) ss) ss a

  all_either : (b : Bool) (s : Start) (xs ys : List Start) → P s → All P xs → All P ys → All P (cond b xs (s ∷ ys))
  all_either true s xs ys h a c = a
  all_either false s xs ys h a c = All-cons P s ys h c

  pub all_runs_after : (m : ℕ) (ss : List Start) → All P ss → All P (runs_after m ss)
  all_runs_after m [] a = a
  all_runs_after m (s ∷ ss) a =
      all_either (nat_eq s.node m) s (runs_after m ss) (runs_after s.node ss) (All-head P s ss a)
      (all_runs_after m ss (All-tail P s ss a)) (all_runs_after s.node ss (All-tail P s ss a))

  all_runs : (ss : List Start) → All P ss → All P (runs ss)
  all_runs [] a = a
  all_runs (s ∷ ss) a = All-cons P s (runs_after s.node ss) (All-head P s ss a) (all_runs_after s.node ss (All-tail P s ss a))

  tail_runs : (ss : List Start) → All P (drop 1 ss) → All P (drop 1 (runs ss))
  tail_runs [] a = a
  tail_runs (s ∷ ss) a = all_runs_after s.node ss a

  pub all_settled : (kind : Kind) (ss : List Start) → All P ss → All P (settled kind ss)
  all_settled NoBranch ss a = a
  all_settled Inner ss a = a
  all_settled Directory ss a = all_runs ss a

  pub tail_settled : (kind : Kind) (ss : List Start) → All P (drop 1 ss) → All P (drop 1 (settled kind ss))
  tail_settled NoBranch ss a = a
  tail_settled Inner ss a = a
  tail_settled Directory ss a = tail_runs ss a

  -- if the first edge starts at 0 and the cut is above it, the fact holds of all but the first with one more at the cut
  pub tail_insert : (cut id : ℕ) (ss : List Start) → 0 < cut → IsTrue (starts_at_zero ss) → P (record { low = cut; node = id }) → All P (drop 1 ss) →
      All P (drop 1 (starts_below cut ss ++ record { low = cut; node = id } ∷ starts_from cut ss))
  tail_insert cut id [] h z new a = absurd (differ refl z)
  tail_insert cut id (s ∷ ss) h z new a =
      let zero_low : s.low ≡ 0 = eqb-true _ _ z in
      let passes : nat_lt s.low cut ≡ true = lt-ltb _ _ (omega arith) in
      let stays : nat_le cut s.low ≡ false = lt_leb_zero s.low cut zero_low h in
      rw (passes, stays) (All-append P (starts_below cut ss) (record { low = cut; node = id } ∷ starts_from cut ss) (All-filter _ P ss a) (All-cons P (record { low = cut; node = id }) (starts_from cut ss) new (All-filter _ P ss a)))
    where
      lt_leb_zero : (n cut : ℕ) → n ≡ 0 → 0 < cut → nat_le cut n ≡ false
      lt_leb_zero n cut e h = elim (leb_tells cut n) [ inl l ↦ absurd (omega (arith, l.1)) | inr l ↦ l.0 ]

  pub all_insert : (cut id : ℕ) (ss : List Start) → P (record { low = cut; node = id }) → All P ss →
      All P (starts_below cut ss ++ record { low = cut; node = id } ∷ starts_from cut ss)
  all_insert cut id ss new a = All-append P (starts_below cut ss) _ (All-filter _ P ss a) (All-cons P (record { low = cut; node = id }) (starts_from cut ss) new (All-filter _ P ss a))

-- order
asc_either : (b : Bool) (xs ys : List Start) → Ascends (λ s. s.low) xs → Ascends (λ s. s.low) ys → Ascends (λ s. s.low) (cond b xs ys)
asc_either true xs ys a c = a
asc_either false xs ys a c = c

asc_runs_after : (m : ℕ) (ss : List Start) → Ascends (λ s. s.low) ss → Ascends (λ s. s.low) (runs_after m ss)
asc_runs_after m [] a = a
asc_runs_after m (s ∷ ss) a =
    asc_either (nat_eq s.node m) (runs_after m ss) (s ∷ runs_after s.node ss)
    (asc_runs_after m ss (asc_tail (λ s. s.low) s ss a))
    (asc_cons (λ s. s.low) s (runs_after s.node ss) (all_runs_after (λ t. s.low < t.low) s.node ss (asc_head (λ s. s.low) s ss a)) (asc_runs_after s.node ss (asc_tail (λ s. s.low) s ss a)))

asc_runs : (ss : List Start) → Ascends (λ s. s.low) ss → Ascends (λ s. s.low) (runs ss)
asc_runs [] a = a
asc_runs (s ∷ ss) a = asc_cons (λ s. s.low) s (runs_after s.node ss) (all_runs_after (λ t. s.low < t.low) s.node ss (asc_head (λ s. s.low) s ss a)) (asc_runs_after s.node ss (asc_tail (λ s. s.low) s ss a))

pub asc_settled : (kind : Kind) (ss : List Start) → Ascends (λ s. s.low) ss → Ascends (λ s. s.low) (settled kind ss)
asc_settled NoBranch ss a = a
asc_settled Inner ss a = a
asc_settled Directory ss a = asc_runs ss a

asc_remove : (ss : List Start) (i : ℕ) → Ascends (λ s. s.low) ss → Ascends (λ s. s.low) (remove ss i)
asc_remove [] zero a = a
asc_remove [] (suc i) a = a
asc_remove (s ∷ ss) zero a = asc_tail (λ s. s.low) s ss a
asc_remove (s ∷ ss) (suc i) a = asc_cons (λ s. s.low) s (remove ss i) (all_remove (λ t. s.low < t.low) ss i (asc_head (λ s. s.low) s ss a)) (asc_remove ss i (asc_tail (λ s. s.low) s ss a))

asc_without_at : (o : Option ℕ) (ss : List Start) → Ascends (λ s. s.low) ss → Ascends (λ s. s.low) (without_at o ss)
asc_without_at None ss a = a
asc_without_at (Some i) ss a = asc_remove ss i a

pub asc_without : (id : ℕ) (ss : List Start) → Ascends (λ s. s.low) ss → Ascends (λ s. s.low) (without id ss)
asc_without id ss a = asc_without_at (position (λ s. nat_eq s.node id) ss) ss a

-- a first edge at another low, below all others
pub asc_first : (low : ℕ) (ss : List Start) → All (λ s. low < s.low) (drop 1 ss) → Ascends (λ s. s.low) ss → Ascends (λ s. s.low) (first_from low ss)
asc_first low [] h a = a
asc_first low (s ∷ ss) h a = asc_cons (λ s. s.low) (record { low = low; node = s.node }) ss h (asc_tail (λ s. s.low) s ss a)

-- all but the first are above the cut if none is below it
pub tail_above : (cut : ℕ) (ss : List Start) → Ascends (λ s. s.low) ss → All (λ s. cut ≤ s.low) ss → All (λ s. cut < s.low) (drop 1 ss)
tail_above cut [] a h = All-nil (λ s. cut < s.low)
tail_above cut (s ∷ ss) a h =
    let first : cut ≤ s.low = All-head (λ s. cut ≤ s.low) s ss h in
    All-weaker (λ t. s.low < t.low) (λ t. cut < t.low) (λ t l. omega arith) ss (asc_head (λ s. s.low) s ss a)

-- the first edge at 0
pub zero_below : (cut : ℕ) (ss more : List Start) → 0 < cut → IsTrue (starts_at_zero ss) → IsTrue (starts_at_zero (starts_below cut ss ++ more))
zero_below cut [] more h z = absurd (differ refl z)
zero_below cut (s ∷ ss) more h z =
    let low : s.low ≡ 0 = eqb-true _ _ z in
    let passes : nat_lt s.low cut ≡ true = lt-ltb _ _ (omega arith) in
    rw passes z

pub zero_ahead : (ss more : List Start) → IsTrue (starts_at_zero ss) → IsTrue (starts_at_zero (ss ++ more))
zero_ahead [] more z = absurd (differ refl z)
zero_ahead (s ∷ ss) more z = z

zero_runs : (ss : List Start) → IsTrue (starts_at_zero ss) → IsTrue (starts_at_zero (runs ss))
zero_runs [] z = z
zero_runs (s ∷ ss) z = z

pub zero_settled : (kind : Kind) (ss : List Start) → IsTrue (starts_at_zero ss) → IsTrue (starts_at_zero (settled kind ss))
zero_settled NoBranch ss z = z
zero_settled Inner ss z = z
zero_settled Directory ss z = zero_runs ss z

pub zero_first : (ss : List Start) → 0 < length ss → IsTrue (starts_at_zero (first_from 0 ss))
zero_first [] h = absurd (omega arith)
zero_first (s ∷ ss) h = refl

zero_at : (o : Option ℕ) (ss : List Start) → (o ≡ Some 0 → ⊥) → IsTrue (starts_at_zero ss) → IsTrue (starts_at_zero (without_at o ss))
zero_at None ss h z = z
zero_at (Some zero) ss h z = absurd (h refl)
zero_at (Some (suc i)) [] h z = z
zero_at (Some (suc i)) (s ∷ ss) h z = z

not_first : (b : Bool) (n : ℕ) → cond b (Some (1 + n)) None ≡ Some 0 → ⊥
not_first true n e = let same : 1 + n ≡ 0 = cc in omega arith
not_first false n e = cc

first_position : (ss : List Start) (id : ℕ) → (first_node ss ≡ Some id → ⊥) → position (λ s. nat_eq s.node id) ss ≡ Some 0 → ⊥
first_position [] id h e = cc
first_position (s ∷ ss) id h e =
    let other : nat_eq s.node id ≡ false = ne_eqb _ _ (λ q. h (ap (λ n. Some n) q)) in
    not_first _ _ (rw other at e)

pub zero_without : (id : ℕ) (ss : List Start) → (first_node ss ≡ Some id → ⊥) → IsTrue (starts_at_zero ss) → IsTrue (starts_at_zero (without id ss))
zero_without id ss later z = zero_at _ ss (first_position ss id later) z

-- a start at the cut is among those from it on
pub found_from : (cut : ℕ) (ss : List Start) → begins cut ss ≡ true → 0 < length (starts_from cut ss)
found_from cut [] e = absurd (differ refl e)
found_from cut (s ∷ ss) e =
    elim (leb_tells cut s.low) [
      | inl le ↦ rw le.0 (omega arith)
      | inr gt ↦ (
          let other : nat_eq s.low cut ≡ false = ne_eqb _ _ (λ q. omega (arith, gt.1)) in
          rw gt.0 (found_from cut ss (rw other at e)))
    ]

one_more : {X : Type 0} (b : Bool) (x : X) (ys xs : List X) → length ys ≤ length xs → length (cond b (x ∷ ys) ys) ≤ length (x ∷ xs)
one_more true x ys xs h = omega arith
one_more false x ys xs h = omega arith

-- a filter keeps no more than there is
pub filter_le : {X : Type 0} (p : X → Bool) (xs : List X) → length (filter p xs) ≤ length xs
filter_le p [] = omega arith
filter_le p (x ∷ xs) = one_more (p x) x (filter p xs) xs (filter_le p xs)
