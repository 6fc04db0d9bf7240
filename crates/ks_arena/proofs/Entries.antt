-- What is read of a run that has ended: states of nodes, a graph, and the entries of a good graph, gathered node after
-- node and then sorted; they are what is found in the graph, and nothing else.
use Rattle.std.proofs.Common.{◌≡◌, ◌≢◌, ℕ, zero, suc, ◌+◌, ◌-◌, ◌<◌, ◌≤◌, ◌⊎◌, ◌↔◌, List, [], ◌∷◌, ◌++◌, length, map, get_or, Option, Some, None, refl, sym, ap, ◌∙◌, subst, inl, inr, ⊎_elim, arith, length-append, append_assoc, append-nil, add-one, take}
use Rattle.std.specs.Prelude.{All, AllPairs, Contains}
use Rattle.std.specs.Option.{option_copied}
use Rattle.std.proofs.Math.Seq.{take-length}
use mathlib.Core.Option.{some, some-injective, some-ne-none}
use mathlib.Core.Option as maybe
use lib.ListN.{get_elem?}
use denote.Bor.{Bor}
use Rattle.std.specs.List.{swap}
use Rattle.std.specs.List.Sorted.{IsPermutation, IsNonDecreasingBy}
use Rattle.std.proofs.lemmas.List.{take_more, map-append, length-map, get_or-map, get_or_append_left, get_or-append_right}
use Rattle.std.proofs.lemmas.List.Edits.{length-swap, swapped_from_swap}
use Rattle.std.proofs.lemmas.List.Elements.{All-contains, All-map, Contains-append_left, Contains-append_right, Contains-append_cases, Contains-get_or}
use Rattle.std.proofs.lemmas.List.Sorted.{IsPermutation-keeps, IsPermutation-sym, Contains-permutation}
use mathlib.Core.Logic.{dite}
use native.Mathlib.Decide.{ℕ_discrete}
use Rattle.ks_keysets.specs.declared.Pair.{Pair}
use Rattle.ks_keysets.specs.declared.Record.{Record}
use Rattle.ks_keysets.specs.declared.NodeState.{NodeState}
use Rattle.ks_keysets.specs.declared.NodeState.TheVariants.{Free, Claimed, Live}
use Rattle.ks_keysets.specs.declared.Frame.{Frame}
use Rattle.ks_keysets.specs.Record.{IsPlace, first_value}
use Rattle.ks_keysets.specs.Listed.{graph_of}
use Rattle.ks_keysets.specs.Keyset.{live_record, record_at, InKeyset, IsFound, here, nowhere, value_in, value_at, Good}
use Rattle.ks_keysets.specs.Laws.Found.{found_here, found_one, reached_live}
use Rattle.ks_node.specs.Body.{Body}
use Rattle.ks_node.specs.Edges.{record_of}
use Rattle.ks_history.specs.declared.Event.{Event}
use Rattle.ks_history.specs.Map.{map_after}
use Rattle.ks_history.specs.Trace.{Turn, free, idle, held, calls_of, graph_after, turn_after}
use Rattle.ks_history.specs.Lawful.{Lawful}
use Rattle.ks_history.specs.Served.{IsListing}
use Rattle.ks_history.specs.Laws.Stays.{cond_here, cond_else, lawful_in_turn}
use Rattle.ks_arena.specs.Sound.{Sort}
use Rattle.ks_arena.specs.Rule.{turn_word, Ends}
use Rattle.ks_arena.specs.Laws.FromSound.{rested}
use Rattle.ks_arena.specs.Ended.{AreFound, IsReadAs, entry_of, entries_at, entries_below}
use Rattle.ks_arena.proofs.Words.{word_free}

index_cases : (m n : ℕ) → (m < n) ⊎ (n ≤ m)
index_cases m n = grind arith

-- lists that grow by one

took : {X : Type 0} (xs : List X) (n : ℕ) (x : X) → n < length xs → x ≡ get_or xs n x → take n xs ++ x ∷ [] ≡ take (n + 1) xs
took {X} xs n x near is = ap (λ (y : X). take n xs ++ y ∷ []) is ∙ sym (take_more xs n x near)

pub pushed : {X : Type 0} (xs ys zs : List X) (n : ℕ) (x : X) → zs ≡ take n xs → n < length xs → x ≡ get_or xs n x → ys ≡ zs ++ x ∷ [] → ys ≡ take (n + 1) xs
pushed {X} xs ys zs n x before near is more = more ∙ ap (λ (z : List X). z ++ x ∷ []) before ∙ took xs n x near is

pub whole : {X : Type 0} (xs ys : List X) (n : ℕ) → ys ≡ take n xs → n ≡ length xs → ys ≡ xs
whole {X} xs ys n is all = is ∙ ap (λ (k : ℕ). take k xs) all ∙ take-length xs

pub entry_pushed : (xs : List Pair) (old ys zs : List (ℕ × ℕ)) (n : ℕ) (x : Pair) → zs ≡ old ++ map entry_of (take n xs) → n < length xs → x ≡ get_or xs n x → ys ≡ zs ++ entry_of x ∷ [] → ys ≡ old ++ map entry_of (take (n + 1) xs)
entry_pushed xs old ys zs n x before near is more = more ∙ ap (λ (z : List (ℕ × ℕ)). z ++ entry_of x ∷ []) before ∙ append_assoc old (map entry_of (take n xs)) (entry_of x ∷ [])
    ∙ ap (λ (z : List (ℕ × ℕ)). old ++ z) (sym (map-append entry_of (take n xs) (x ∷ [])) ∙ ap (map entry_of) (took xs n x near is))

pub entries_whole : (xs : List Pair) (old ys : List (ℕ × ℕ)) (n : ℕ) → ys ≡ old ++ map entry_of (take n xs) → n ≡ length xs → ys ≡ old ++ map entry_of xs
entries_whole xs old ys n is all = is ∙ ap (λ (z : List Pair). old ++ map entry_of z) (ap (λ (k : ℕ). take k xs) all ∙ take-length xs)

pub entries_live : (s : NodeState) (b : Body) (zs : List (ℕ × ℕ)) → s ≡ Live (record_of b) → zs ≡ map entry_of b.pairs → zs ≡ entries_at s
entries_live s b zs is at = at ∙ sym (ap entries_at is)

pub entries_more : (g : ℕ → NodeState) (n : ℕ) (xs ys zs : List (ℕ × ℕ)) → xs ≡ entries_below g n → ys ≡ xs ++ zs → zs ≡ entries_at (g n) → ys ≡ entries_below g (n + 1)
entries_more g n xs ys zs before is at = is ∙ ap (λ (z : List (ℕ × ℕ)). z ++ zs) before ∙ ap (λ (z : List (ℕ × ℕ)). entries_below g n ++ z) at ∙ ap (entries_below g) (sym (add-one n))

pub entries_same : (g : ℕ → NodeState) (n : ℕ) (xs ys : List (ℕ × ℕ)) → xs ≡ entries_below g n → ys ≡ xs → g n ≡ Free → ys ≡ entries_below g (n + 1)
entries_same g n xs ys before is at = entries_more g n xs ys [] before (is ∙ sym (append-nil xs)) (sym (ap entries_at at))

-- words, slots and bodies

pub read_at : {X : Type 0} (xs : List X) (i : ℕ) (x d : X) → get_elem? xs i ≡ some x → get_or xs i d ≡ x
read_at [] i x d is = absurd (some-ne-none x (sym is))
read_at (y ∷ xs) zero x d is = some-injective y x is
read_at (y ∷ xs) (suc i) x d is = read_at xs i x d is

module _ {N : Type 0} (sort : Sort) (shows : N → Body) where
  -- once nobody holds it, a node whose turn word is not 0 is live
  live_of : (s : NodeState) (f : Frame) (t : Turn) (x : maybe.Option (Option N)) → turn_word t ≢ 0 → Ends sort shows s f t x → (b : N) × (x ≡ some (Some b)) × (s ≡ Live (record_of (shows b)))
  live_of s f free x other so = absurd (other refl)
  live_of s f idle x other so = (so.0, so.1, so.2)
  live_of s f (held c) x other so = absurd so

  read_as : (s : NodeState) (r : Option (Bor N)) (b : N) → option_copied r ≡ Some b → s ≡ Live (record_of (shows b)) → IsReadAs shows s r
  read_as s None b e is = absurd (let q : ⊥ = cc in q)
  read_as s (Some x) b e is = let same : b ≡ x.now = cc in is ∙ ap (λ (y : N). Live (record_of (shows y))) same

  pub live_read : (s : NodeState) (f : Frame) (t : Turn) (word : ℕ) (xs : List (Option N)) (i : ℕ) (slot : Option N) (r : Option (Bor N)) → word ≡ turn_word t → word ≢ 0 → Ends sort shows s f t (get_elem? xs i) → slot ≡ get_or xs i slot → option_copied r ≡ slot → IsReadAs shows s r
  live_read s f t word xs i slot r is other so at copied = let l = live_of s f t (get_elem? xs i) (λ z. other (is ∙ z)) so in
      read_as s r l.0 (copied ∙ at ∙ read_at xs i (Some l.0) slot l.1) l.2

pub free_read : (h : List Event) (i word : ℕ) → Lawful h → word ≡ turn_word (turn_after h i) → word ≡ 0 → graph_after h i ≡ Free
free_read h i word lawful is zero' = (rested h (lawful_in_turn h lawful) i).free_is (word_free (turn_after h i) (sym is ∙ zero'))

-- a graph as a list

graph_before : (xs : List NodeState) (s : NodeState) (i : ℕ) → i < length xs → graph_of (xs ++ s ∷ []) i ≡ graph_of xs i
graph_before [] s i lt = absurd (omega arith)
graph_before (x ∷ xs) s zero lt = refl
graph_before (x ∷ xs) s (suc i) lt = graph_before xs s i (omega arith)

graph_last : (xs : List NodeState) (s : NodeState) → graph_of (xs ++ s ∷ []) (length xs) ≡ s
graph_last [] s = refl
graph_last (x ∷ xs) s = graph_last xs s

graph_past : (xs : List NodeState) (i : ℕ) → length xs ≤ i → graph_of xs i ≡ Free
graph_past [] i le = refl
graph_past (x ∷ xs) zero le = absurd (omega arith)
graph_past (x ∷ xs) (suc i) le = graph_past xs i (omega arith)

pub graph_more : (g : ℕ → NodeState) (n : ℕ) (xs ys : List NodeState) (s : NodeState) → length xs ≡ n → ((i : ℕ) → i < n → graph_of xs i ≡ g i) → ys ≡ xs ++ s ∷ [] → s ≡ g n → (i : ℕ) → i < n + 1 → graph_of ys i ≡ g i
graph_more g n xs ys s long before more is i lt = ap (λ (z : List NodeState). graph_of z i) more ∙ dite (ℕ_discrete i n)
    (λ same. ap (graph_of (xs ++ s ∷ [])) (same ∙ sym long) ∙ graph_last xs s ∙ is ∙ ap g (sym same))
    (λ other. graph_before xs s i (omega arith) ∙ before i (omega arith))

pub graph_whole : (g : ℕ → NodeState) (n : ℕ) (xs : List NodeState) → length xs ≡ n → ((i : ℕ) → i < n → graph_of xs i ≡ g i) → ((i : ℕ) → n ≤ i → g i ≡ Free) → (i : ℕ) → graph_of xs i ≡ g i
graph_whole g n xs long near far i = ⊎_elim (λ lt. near i lt) (λ le. graph_past xs i (omega arith) ∙ sym (far i le)) (index_cases i n)

-- entries of one node

-- no two entries have the same place
abbrev pub Apart : List (ℕ × ℕ) → Type 0
Apart xs = AllPairs (λ x y. x.0 ≡ y.0 → ⊥) xs

abbrev pub Once : List Pair → Type 0
Once xs = AllPairs (λ x y. x.place ≡ y.place → ⊥) xs

first_entry : (x : ℕ × ℕ) (xs : List (ℕ × ℕ)) → Contains (x ∷ xs) x
first_entry x xs = (0, omega arith, refl)

later_entry : (x z : ℕ × ℕ) (xs : List (ℕ × ℕ)) → Contains xs z → Contains (x ∷ xs) z
later_entry x z xs (k, lt, is) = (suc k, omega arith, is)

entry_cases : (x z : ℕ × ℕ) (xs : List (ℕ × ℕ)) → Contains (x ∷ xs) z → (x ≡ z) ⊎ Contains xs z
entry_cases x z xs (zero, lt, is) = inl is
entry_cases x z xs (suc k, lt, is) = inr (k, omega arith, is)

no_entry : (z : ℕ × ℕ) → Contains [] z → ⊥
no_entry z (k, lt, is) = omega arith

-- what is read at a place of a record is among its entries
value_entry : (xs : List Pair) (p v : ℕ) → first_value xs p ≡ Some v → Contains (map entry_of xs) (p, v)
value_entry [] p v is = absurd (let q : ⊥ = cc in q)
value_entry (x ∷ xs) p v is = dite (ℕ_discrete x.place p)
    (λ same. let value : Some x.value ≡ Some v = sym (cond_here x.place p (Some x.value) (first_value xs p) same) ∙ is in let value' : x.value ≡ v = cc in
    subst (λ (z : ℕ × ℕ). Contains (map entry_of (x ∷ xs)) z) (λ k. (same k, value' k)) (first_entry (entry_of x) (map entry_of xs)))
    (λ other. later_entry (entry_of x) (p, v) (map entry_of xs) (value_entry xs p v (sym (cond_else x.place p (Some x.value) (first_value xs p) other) ∙ is)))

once_tail : (x : Pair) (xs : List Pair) → Once (x ∷ xs) → Once xs
once_tail x xs once i j d lt within = once (suc i) (suc j) d (omega arith) (omega arith)

once_head : (x : Pair) (xs : List Pair) → Once (x ∷ xs) → All (λ (y : Pair). x.place ≡ y.place → ⊥) xs
once_head x xs once k d lt = once 0 (suc k) d (omega arith) (omega arith)

-- and conversely, if each place is in one pair only
entry_value : (xs : List Pair) (p v : ℕ) → Once xs → Contains (map entry_of xs) (p, v) → first_value xs p ≡ Some v
entry_value [] p v once in' = absurd (no_entry (p, v) in')
entry_value (x ∷ xs) p v once in' = ⊎_elim
    (λ is. let place : x.place ≡ p = ap (λ (z : ℕ × ℕ). z.0) is in cond_here x.place p (Some x.value) (first_value xs p) place ∙ ap (λ (z : ℕ × ℕ). Some z.1) is)
    (λ more. let other : x.place ≢ p = All-contains (λ (z : ℕ × ℕ). x.place ≢ z.0) (map entry_of xs) (p, v) (All-map (λ (z : ℕ × ℕ). x.place ≢ z.0) entry_of xs (once_head x xs once)) more in
    cond_else x.place p (Some x.value) (first_value xs p) other ∙ entry_value xs p v (once_tail x xs once) more)
    (entry_cases (entry_of x) (p, v) (map entry_of xs) in')

once_apart : (xs : List Pair) → Once xs → Apart (map entry_of xs)
once_apart xs once i j d lt within same = let long = length-map xs entry_of in let e : Pair = record { place = 0; value = 0 } in
    once i j e lt (omega arith) (sym (ap (λ (z : ℕ × ℕ). z.0) (get_or-map entry_of xs i e d (omega arith))) ∙ same ∙ ap (λ (z : ℕ × ℕ). z.0) (get_or-map entry_of xs j e d (omega arith)))

-- entries with different places in each of two lists and across them
apart_append : (xs ys : List (ℕ × ℕ)) → Apart xs → Apart ys → ((x y : ℕ × ℕ) → Contains xs x → Contains ys y → x.0 ≡ y.0 → ⊥) → Apart (xs ++ ys)
apart_append xs ys left right across i j d lt within = go (index_cases i (length xs)) (index_cases j (length xs))
  where
    long : length (xs ++ ys) ≡ length xs + length ys
    long = length-append xs ys

    at_left : (k : ℕ) → k < length xs → get_or (xs ++ ys) k d ≡ get_or xs k d
    at_left k lt = get_or_append_left xs ys d k lt

    at_right : (k : ℕ) → length xs ≤ k → get_or (xs ++ ys) k d ≡ get_or ys (k - length xs) d
    at_right k le = get_or-append_right xs ys (length xs) k d refl le

    along : (a b x y : ℕ × ℕ) → a ≡ x → b ≡ y → (x.0 ≡ y.0 → ⊥) → a.0 ≡ b.0 → ⊥
    along a b x y e f apart same = apart (ap (λ (z : ℕ × ℕ). z.0) (sym e) ∙ same ∙ ap (λ (z : ℕ × ℕ). z.0) f)

    go : (i < length xs) ⊎ (length xs ≤ i) → (j < length xs) ⊎ (length xs ≤ j) → (get_or (xs ++ ys) i d).0 ≡ (get_or (xs ++ ys) j d).0 → ⊥
    go (inl a) (inl b) = along (get_or (xs ++ ys) i d) (get_or (xs ++ ys) j d) (get_or xs i d) (get_or xs j d) (at_left i a) (at_left j b) (left i j d lt b)
    go (inl a) (inr b) = along (get_or (xs ++ ys) i d) (get_or (xs ++ ys) j d) (get_or xs i d) (get_or ys (j - length xs) d) (at_left i a) (at_right j b)
        (across (get_or xs i d) (get_or ys (j - length xs) d) (Contains-get_or xs i d a) (Contains-get_or ys (j - length xs) d (let l = long in omega arith)))
    go (inr a) (inl b) = absurd (omega arith)
    go (inr a) (inr b) = along (get_or (xs ++ ys) i d) (get_or (xs ++ ys) j d) (get_or ys (i - length xs) d) (get_or ys (j - length xs) d) (at_right i a) (at_right j b)
        (right (i - length xs) (j - length xs) d (omega arith) (let l = long in omega arith))

-- a node with an entry is live
live_entry : (s : NodeState) (z : ℕ × ℕ) → Contains (entries_at s) z → (r : Record) × (s ≡ Live r) × Contains (map entry_of r.pairs) z
live_entry Free z in' = absurd (no_entry z in')
live_entry (Claimed c) z in' = absurd (no_entry z in')
live_entry (Live r) z in' = (r, refl, in')

live_is : (s : NodeState) (r : Record) → live_record s ≡ Some r → s ≡ Live r
live_is Free r is = absurd (let q : ⊥ = cc in q)
live_is (Claimed c) r is = absurd (let q : ⊥ = cc in q)
live_is (Live q) r is = cc

-- entries of the nodes below n

below_in : (g : ℕ → NodeState) (n m : ℕ) (z : ℕ × ℕ) → m < n → Contains (entries_at (g m)) z → Contains (entries_below g n) z
below_in g zero m z lt in' = absurd (omega arith)
below_in g (suc n) m z lt in' = dite (ℕ_discrete m n)
    (λ same. Contains-append_right (entries_below g n) (entries_at (g n)) z (subst (λ (k : ℕ). Contains (entries_at (g k)) z) same in'))
    (λ other. Contains-append_left (entries_below g n) (entries_at (g n)) z (below_in g n m z (omega arith) in'))

in_below : (g : ℕ → NodeState) (n : ℕ) (z : ℕ × ℕ) → Contains (entries_below g n) z → (m : ℕ) × (m < n) × Contains (entries_at (g m)) z
in_below g zero z in' = absurd (no_entry z in')
in_below g (suc n) z in' = ⊎_elim
    (λ older. let r = in_below g n z older in (r.0, let lt : r.0 < n = r.1 in omega arith, r.2))
    (λ newer. (n, omega arith, newer))
    (Contains-append_cases (entries_below g n) (entries_at (g n)) z in')

module _ (g : ℕ → NodeState) (good : Good g) where
  -- an entry of a node has its place in the keyset of the node
  in_keyset : (m : ℕ) (z : ℕ × ℕ) → Contains (entries_at (g m)) z → InKeyset g m z.0
  in_keyset m z in' = let r = live_entry (g m) z in' in
      All-contains (λ (x : ℕ × ℕ). InKeyset g m x.0) (map entry_of r.0.pairs) z (All-map (λ (x : ℕ × ℕ). InKeyset g m x.0) entry_of r.0.pairs (good.stored m r.0 (ap live_record r.1))) r.2

  found_entry : (m p v : ℕ) → Contains (entries_at (g m)) (p, v) → IsFound g p (Some v)
  found_entry m p v in' = let r = live_entry (g m) (p, v) in' in let is : record_at g m ≡ Some r.0 = ap live_record r.1 in
      let value : value_at g m p ≡ Some v = ap (λ (o : Option Record). value_in o p) is ∙ entry_value r.0.pairs p v (good.once m r.0 is) r.2 in
      subst (λ (o : Option ℕ). IsFound g p o) value (found_here g m p good (in_keyset m (p, v) in'))

  module _ (n : ℕ) (far : (i : ℕ) → n ≤ i → g i ≡ Free) where
    live_near : (m : ℕ) (r : Record) → record_at g m ≡ Some r → m < n
    live_near m r is = ⊎_elim (λ lt. lt) (λ le. let e : None ≡ Some r = sym (ap live_record (far m le)) ∙ is in absurd (let q : ⊥ = cc in q)) (index_cases m n)

    entry_found : (p v : ℕ) → IsFound g p (Some v) → Contains (entries_below g n) (p, v)
    entry_found p v (here m in' least is) = let live = reached_live in'.0.1 in
        let value : first_value live.0.pairs p ≡ Some v = sym (is ∙ ap (λ (o : Option Record). value_in o p) live.1) in
        below_in g n m (p, v) (live_near m live.0 live.1) (subst (λ (s : NodeState). Contains (entries_at s) (p, v)) (sym (live_is (g m) live.0 live.1)) (value_entry live.0.pairs p v value))
    entry_found p v (nowhere none is) = absurd (let q : ⊥ = cc in q)

    pub found_below : (p v : ℕ) → IsFound g p (Some v) ↔ Contains (entries_below g n) (p, v)
    found_below p v = (entry_found p v, λ in'. let r = in_below g n (p, v) in' in found_entry r.0 p v r.2)

  apart_at : (m : ℕ) → (s : NodeState) → g m ≡ s → Apart (entries_at s)
  apart_at m Free is = λ i j d lt within. absurd (omega arith)
  apart_at m (Claimed c) is = λ i j d lt within. absurd (omega arith)
  apart_at m (Live r) is = once_apart r.pairs (good.once m r (ap live_record is))

  pub apart_below : (n : ℕ) → Apart (entries_below g n)
  apart_below zero = λ i j d lt within. absurd (omega arith)
  apart_below (suc n) = apart_append (entries_below g n) (entries_at (g n)) (apart_below n) (apart_at n (g n) refl) (λ x y in' in'' same. let m = in_below g n x in' in
      let both : m.0 ≡ n = good.one m.0 n x.0 (in_keyset m.0 x m.2) (subst (InKeyset g n) (sym same) (in_keyset n y in'')) in let lt : m.0 < n = m.1 in omega arith)

-- the order after a sort

-- where the element at i of a list was before a and b were swapped
abbrev Source : ℕ → ℕ → ℕ → ℕ → Type 0
Source a b i k = ((i ≡ a) × (k ≡ b)) ⊎ (((i ≡ b) × (k ≡ a)) ⊎ ((i ≢ a) × (i ≢ b) × (k ≡ i)))

source : (xs : List (ℕ × ℕ)) (a b i : ℕ) (d : ℕ × ℕ) → a < length xs → b < length xs → i < length xs → (k : ℕ) × (k < length xs) × (get_or (swap xs a b) i d ≡ get_or xs k d) × Source a b i k
source xs a b i d p q r = let s = swapped_from_swap xs (swap xs a b) a b d p q refl in dite (ℕ_discrete i a)
    (λ e. (b, q, ap (λ (m : ℕ). get_or (swap xs a b) m d) e ∙ s.0, inl (e, refl)))
    (λ n. dite (ℕ_discrete i b)
    (λ e. (a, p, ap (λ (m : ℕ). get_or (swap xs a b) m d) e ∙ s.1, inr (inl (e, refl))))
    (λ m. (i, r, s.2 i n m, inr (inr (n, m, refl)))))

sources_differ : (a b i j k l : ℕ) → Source a b i k → Source a b j l → i < j → k ≢ l
sources_differ a b i j k l (inl s) (inl t) lt same = omega arith
sources_differ a b i j k l (inl s) (inr (inl t)) lt same = omega arith
sources_differ a b i j k l (inl s) (inr (inr t)) lt same = t.1 (omega arith)
sources_differ a b i j k l (inr (inl s)) (inl t) lt same = omega arith
sources_differ a b i j k l (inr (inl s)) (inr (inl t)) lt same = omega arith
sources_differ a b i j k l (inr (inl s)) (inr (inr t)) lt same = t.0 (omega arith)
sources_differ a b i j k l (inr (inr s)) (inl t) lt same = s.1 (omega arith)
sources_differ a b i j k l (inr (inr s)) (inr (inl t)) lt same = s.0 (omega arith)
sources_differ a b i j k l (inr (inr s)) (inr (inr t)) lt same = omega arith

apart_swapped : (xs : List (ℕ × ℕ)) (a b : ℕ) → a < length xs → b < length xs → Apart xs → Apart (swap xs a b)
apart_swapped xs a b p q apart i j d lt within same = let long = length-swap xs a b in let x = source xs a b i d p q (omega arith) in let y = source xs a b j d p q (omega arith) in
    let same' : (get_or xs x.0 d).0 ≡ (get_or xs y.0 d).0 = sym (ap (λ (z : ℕ × ℕ). z.0) x.2) ∙ same ∙ ap (λ (z : ℕ × ℕ). z.0) y.2 in
    ⊎_elim (λ l. apart x.0 y.0 d l y.1 same') (λ l. apart y.0 x.0 d (omega (arith, sources_differ a b i j x.0 y.0 x.3 y.3 lt)) x.1 (sym same')) (index_cases x.0 y.0)

apart_permuted : (xs ys : List (ℕ × ℕ)) → IsPermutation xs ys → Apart xs → Apart ys
apart_permuted xs ys moved apart = IsPermutation-keeps xs Apart apart (λ l i j p q h. apart_swapped l i j p q h) ys moved

less : (m n : ℕ) → m ≤ n → m ≢ n → m < n
less m n le ne = omega arith

pub sorted_found : (g : ℕ → NodeState) (n : ℕ) (ys : List (ℕ × ℕ)) → Good g → ((i : ℕ) → n ≤ i → g i ≡ Free) → IsPermutation (entries_below g n) ys → IsNonDecreasingBy (λ z. z.0) ys → AreFound g ys
sorted_found g n ys good far moved up = record {
  exact = λ p v. (λ found. Contains-permutation (entries_below g n) ys (p, v) moved ((found_below g good n far p v).0 found), λ in'. (found_below g good n far p v).1 (Contains-permutation ys (entries_below g n) (p, v) (IsPermutation-sym (entries_below g n) ys moved) in'));
  ascend = λ i j d lt within. let apart = apart_permuted (entries_below g n) ys moved (apart_below g good n) i j d lt within in let le = up i j d (omega arith) within in less (get_or ys i d).0 (get_or ys j d).0 le apart;
}

-- the same as a map

placed : (g : ℕ → NodeState) (p v : ℕ) → IsFound g p (Some v) → IsPlace p
placed g p v (here n in' least is) = in'.0.0
placed g p v (nowhere none is) = absurd (let q : ⊥ = cc in q)

pub listing_of : (h : List Event) (ys : List (ℕ × ℕ)) → ((p : ℕ) → IsPlace p → IsFound (graph_after h) p (map_after (calls_of h) p)) → AreFound (graph_after h) ys → IsListing (map_after (calls_of h)) ys
listing_of h ys matches are = record {
  exact = λ p v. (
    λ is. (are.exact p v).0 (subst (IsFound (graph_after h) p) is.1 (matches p is.0)),
    λ in'. let found = (are.exact p v).1 in' in let place : IsPlace p = placed (graph_after h) p v found in (place, found_one (graph_after h) p (map_after (calls_of h) p) (Some v) (matches p place) found),
  );
  ascend = are.ascend;
}
