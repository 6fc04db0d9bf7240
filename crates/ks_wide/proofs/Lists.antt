-- What a change of the places of children and one of their numbers make of the children.
use Rattle.std.specs.Prelude.{◌≡◌, ℕ, zero, suc, ◌+◌, ◌-◌, ◌<◌, ◌≤◌, cond, nat_eq, List, [], ◌∷◌, ◌++◌, length, take, drop, get_or, position, Some, None, not, nat_lt, slice_get, refl}
use Rattle.std.specs.List.{insert, remove, list_all, prefix_len}
use Rattle.std.specs.Option.{option_map}
use Rattle.std.proofs.Common.{arith, ap, sym, ◌∙◌, inl, inr}
use Rattle.std.proofs.lemmas.Bool.Decides.{eqb_tells}
use Rattle.std.proofs.lemmas.List.{get_or_default, length-take-le, get_or-take, drop_all}
use Rattle.ks_node.specs.declared.start.Start.{Start}
use Rattle.ks_node.specs.Keyed.{Ascends, IsRank}
use Rattle.ks_node.specs.Body.{first_node, last_node, sole, starts_below, starts_from}
use Rattle.ks_node.specs.Effect.{without}
use Rattle.ks_node.specs.Laws.Cuts.{below_is_take, from_is_drop}
use Rattle.ks_wide.specs.Started.{started, sole_of}
use Rattle.ks_wide.specs.Wide.{with_child}

pub length-started : (ls ns : List ℕ) → length ls ≡ length ns → length (started ls ns) ≡ length ls
length-started [] ns e = refl
length-started (l ∷ ls) [] e = absurd (omega arith)
length-started (l ∷ ls) (n ∷ ns) e = ap suc (length-started ls ns (omega arith))

pub get-started : (ls ns : List ℕ) (i l n : ℕ) (d : Start) → length ls ≡ length ns → i < length ls → get_or (started ls ns) i d ≡ record { low = get_or ls i l; node = get_or ns i n }
get-started [] ns i l n d e h = absurd (omega arith)
get-started (k ∷ ls) [] i l n d e h = absurd (omega arith)
get-started (k ∷ ls) (m ∷ ns) zero l n d e h = refl
get-started (k ∷ ls) (m ∷ ns) (suc i) l n d e h = get-started ls ns i l n d (omega arith) (omega arith)

pub take-started : (i : ℕ) (ls ns : List ℕ) → started (take i ls) (take i ns) ≡ take i (started ls ns)
take-started zero ls ns = refl
take-started (suc i) [] ns = refl
take-started (suc i) (l ∷ ls) [] = refl
take-started (suc i) (l ∷ ls) (n ∷ ns) = ap (λ xs. record { low = l; node = n } ∷ xs) (take-started i ls ns)

pub drop-started : (i : ℕ) (ls ns : List ℕ) → length ls ≡ length ns → started (drop i ls) (drop i ns) ≡ drop i (started ls ns)
drop-started zero ls ns e = refl
drop-started (suc i) [] ns e = refl
drop-started (suc i) (l ∷ ls) [] e = absurd (omega arith)
drop-started (suc i) (l ∷ ls) (n ∷ ns) e = drop-started i ls ns (omega arith)

pub append-started : (ls ns ms os : List ℕ) → length ls ≡ length ns → started (ls ++ ms) (ns ++ os) ≡ started ls ns ++ started ms os
append-started [] [] ms os e = refl
append-started [] (n ∷ ns) ms os e = absurd (omega arith)
append-started (l ∷ ls) [] ms os e = absurd (omega arith)
append-started (l ∷ ls) (n ∷ ns) ms os e = ap (λ xs. record { low = l; node = n } ∷ xs) (append-started ls ns ms os (omega arith))

pub insert-started : (ls ns : List ℕ) (i l n : ℕ) → length ls ≡ length ns → started (insert ls i l) (insert ns i n) ≡ insert (started ls ns) i (record { low = l; node = n })
insert-started ls ns zero l n e = refl
insert-started [] [] (suc i) l n e = refl
insert-started [] (m ∷ ns) (suc i) l n e = absurd (omega arith)
insert-started (k ∷ ls) [] (suc i) l n e = absurd (omega arith)
insert-started (k ∷ ls) (m ∷ ns) (suc i) l n e = ap (λ xs. record { low = k; node = m } ∷ xs) (insert-started ls ns i l n (omega arith))

pub remove-started : (ls ns : List ℕ) (i : ℕ) → length ls ≡ length ns → started (remove ls i) (remove ns i) ≡ remove (started ls ns) i
remove-started [] [] zero e = refl
remove-started [] [] (suc i) e = refl
remove-started [] (n ∷ ns) i e = absurd (omega arith)
remove-started (l ∷ ls) [] i e = absurd (omega arith)
remove-started (l ∷ ls) (n ∷ ns) zero e = refl
remove-started (l ∷ ls) (n ∷ ns) (suc i) e = ap (λ xs. record { low = l; node = n } ∷ xs) (remove-started ls ns i (omega arith))

all-started : (m : ℕ) (ls ns : List ℕ) → length ls ≡ length ns → list_all (λ s. nat_eq s.node m) (started ls ns) ≡ list_all (λ n. nat_eq n m) ns
all-started m [] [] e = refl
all-started m [] (n ∷ ns) e = absurd (omega arith)
all-started m (l ∷ ls) [] e = absurd (omega arith)
all-started m (l ∷ ls) (n ∷ ns) e = rw (all-started m ls ns (omega arith)) refl

pub sole-started : (ls ns : List ℕ) → length ls ≡ length ns → sole (started ls ns) ≡ sole_of ns
sole-started [] [] e = refl
sole-started [] (n ∷ ns) e = absurd (omega arith)
sole-started (l ∷ ls) [] e = absurd (omega arith)
sole-started (l ∷ ls) (n ∷ ns) e = rw (all-started n ls ns (omega arith)) refl

prefix-started : (m : ℕ) (ls ns : List ℕ) → length ls ≡ length ns → prefix_len (λ s. not (nat_eq s.node m)) (started ls ns) ≡ prefix_len (λ n. not (nat_eq n m)) ns
prefix-started m [] [] e = refl
prefix-started m [] (n ∷ ns) e = absurd (omega arith)
prefix-started m (l ∷ ls) [] e = absurd (omega arith)
prefix-started m (l ∷ ls) (n ∷ ns) e = rw (prefix-started m ls ns (omega arith)) refl

pub position-started : (m : ℕ) (ls ns : List ℕ) → length ls ≡ length ns → position (λ s. nat_eq s.node m) (started ls ns) ≡ position (λ n. nat_eq n m) ns
position-started m ls ns e =
    let at : ℕ = prefix_len (λ n. not (nat_eq n m)) ns in
    ap (λ k. cond (nat_lt k (length (started ls ns))) (Some k) None) (prefix-started m ls ns e)
    ∙ ap (λ k. cond (nat_lt at k) (Some at) None) (length-started ls ns e ∙ e)

-- all numbers up to one that is below a limit are
pub front_below : (ns : List ℕ) (i limit : ℕ) → Ascends (λ n. n) ns → i < length ns → get_or ns i 0 < limit → (k d : ℕ) → k < i + 1 → get_or ns k d < limit
front_below ns i limit up h here k d l =
    elim (eqb_tells k i) [
      | inl e ↦ (let same : get_or ns k d ≡ get_or ns i 0 = ap (λ n. get_or ns n d) e.1 ∙ get_or_default ns i d 0 h in omega arith)
      | inr e ↦ (
          let rise = up k i 0 (omega arith) h in
          let same : get_or ns k d ≡ get_or ns k 0 = get_or_default ns k d 0 (omega arith) in
          omega arith)
    ]

slice_get_is : {X : Type 0} (xs : List X) (i : ℕ) (d : X) → i < length xs → slice_get xs i ≡ Some (get_or xs i d)
slice_get_is [] i d h = absurd (omega arith)
slice_get_is (x ∷ xs) zero d h = refl
slice_get_is (x ∷ xs) (suc i) d h = slice_get_is xs i d (omega arith)

-- the last of the first children, and the first of the last
pub last_node_take : (ss : List Start) (i : ℕ) (d : Start) → i < length ss → last_node (take (suc i) ss) ≡ Some (get_or ss i d).node
last_node_take ss i d h =
    let long : length (take (suc i) ss) ≡ suc i = length-take-le (suc i) ss (omega arith) in
    let last : length (take (suc i) ss) - 1 ≡ i = omega arith in
    ap (λ n. option_map (λ s. s.node) (slice_get (take (suc i) ss) n)) last
    ∙ ap (option_map (λ s. s.node)) (slice_get_is (take (suc i) ss) i d (omega arith))
    ∙ ap (λ s. Some s.node) (get_or-take (suc i) ss i d (omega arith))

pub last_node_front : (ss : List Start) (i : ℕ) (d : Start) → 0 < i → i ≤ length ss → last_node (take i ss) ≡ Some (get_or ss (i - 1) d).node
last_node_front ss zero d p h = absurd (omega arith)
last_node_front ss (suc i) d p h =
    let same : i ≡ suc i - 1 = omega arith in
    last_node_take ss i d (omega arith) ∙ ap (λ n. Some (get_or ss n d).node) same

pub first_node_drop : (ss : List Start) (i : ℕ) (d : Start) → i < length ss → first_node (drop i ss) ≡ Some (get_or ss i d).node
first_node_drop [] i d h = absurd (omega arith)
first_node_drop (s ∷ ss) zero d h = refl
first_node_drop (s ∷ ss) (suc i) d h = first_node_drop ss i d (omega arith)

pub first_node_past : (ss : List Start) (i : ℕ) → length ss ≤ i → first_node (drop i ss) ≡ None
first_node_past ss i h = rw (drop_all i ss h) refl

module _ (ls ns : List ℕ) {xs : List Start} (same : length ls ≡ length ns) (is : started ls ns ≡ xs) where
  pub lows_length : length ls ≡ length xs
  lows_length = sym (length-started ls ns same) ∙ ap length is

  pub nodes_length : length ns ≡ length xs
  nodes_length = sym same ∙ lows_length

  pub low_is : (i : ℕ) (d : Start) (l : ℕ) → i < length xs → (get_or xs i d).low ≡ get_or ls i l
  low_is i d l h = ap (λ ss. (get_or ss i d).low) (sym is) ∙ ap (λ s. s.low) (get-started ls ns i l 0 d same (omega (arith, lows_length)))

  pub node_is : (i : ℕ) (d : Start) (n : ℕ) → i < length xs → (get_or xs i d).node ≡ get_or ns i n
  node_is i d n h = ap (λ ss. (get_or ss i d).node) (sym is) ∙ ap (λ s. s.node) (get-started ls ns i 0 n d same (omega (arith, lows_length)))

  pub lows_ascend : Ascends (λ s. s.low) xs → Ascends (λ l. l) ls
  lows_ascend up i j d h l =
      let none : Start = record { low = 0; node = 0 } in
      let long = lows_length in
      let low = low_is i none d (omega arith) in
      let high = low_is j none d (omega arith) in
      let rise = up i j none h (omega arith) in
      omega arith

  pub rank_is : (place i : ℕ) → IsRank (λ l. l) place ls i → IsRank (λ s. s.low) place xs i
  rank_is place i r =
      let long = lows_length in
      record {
        within = omega (arith, r.within);
        before = λ k d h l. let at = low_is k d 0 l in let low = r.before k 0 h (omega arith) in omega arith;
        after = λ k d h l. let at = low_is k d 0 l in let high = r.after k 0 h (omega arith) in omega arith;
      }

  pub below_rank : {cut i : ℕ} → IsRank (λ s. s.low) cut xs i → started (take i ls) (take i ns) ≡ starts_below cut xs
  below_rank {cut} {i} r = take-started i ls ns ∙ ap (take i) is ∙ sym (below_is_take (λ s. s.low) cut xs i r.before r.after)

  pub from_rank : {cut i : ℕ} → IsRank (λ s. s.low) cut xs i → started (drop i ls) (drop i ns) ≡ starts_from cut xs
  from_rank {cut} {i} r = drop-started i ls ns same ∙ ap (drop i) is ∙ sym (from_is_drop (λ s. s.low) cut xs i r.before r.after)

  pub with_rank : {low i : ℕ} → IsRank (λ s. s.low) low xs i → (node : ℕ) → started (insert ls i low) (insert ns i node) ≡ with_child low node xs
  with_rank {low} {i} r node =
      insert-started ls ns i low node same
      ∙ ap (λ ss. insert ss i (record { low = low; node = node })) is
      ∙ rw (below_is_take (λ s. s.low) low xs i r.before r.after, from_is_drop (λ s. s.low) low xs i r.before r.after) refl

  pub sole_is : sole_of ns ≡ sole xs
  sole_is = sym (sole-started ls ns same) ∙ ap sole is

  pub position_is : (m : ℕ) → position (λ n. nat_eq n m) ns ≡ position (λ s. nat_eq s.node m) xs
  position_is m = sym (position-started m ls ns same) ∙ ap (position (λ s. nat_eq s.node m)) is

  pub without_at : (m : ℕ) {i : ℕ} → Some i ≡ position (λ n. nat_eq n m) ns → started (remove ls i) (remove ns i) ≡ without m xs
  without_at m {i} at = remove-started ls ns i same ∙ ap (λ ss. remove ss i) is ∙ rw (sym (position_is m) ∙ sym at) refl

  pub without_none : (m : ℕ) → None ≡ position (λ n. nat_eq n m) ns → xs ≡ without m xs
  without_none m at = rw (sym (position_is m) ∙ sym at) refl
