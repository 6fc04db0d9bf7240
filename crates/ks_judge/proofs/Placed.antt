-- A history over places is one over keys, where each key has a place of its own.
use Rattle.std.proofs.Common.{ℕ, zero, suc, ◌≡◌, ◌<◌, ◌≤◌, inl, inr, List, [], ◌∷◌, ◌++◌, fold, take, map, Some, None, refl, sym, ◌∙◌, ap, subst, arith}
use Rattle.std.specs.Prelude.{All, slice_get}
use Rattle.std.specs.List.{AllByRecursion}
use mathlib.Core.Logic.{dite}
use native.Mathlib.Decide.{ℕ_discrete}
use Rattle.std.proofs.lemmas.List.{map-append, take-map}
use Rattle.std.proofs.lemmas.List.Elements.{All-tail}
use Rattle.ks_keysets.specs.declared.Pair.{Pair}
use Rattle.ks_keysets.specs.Record.{IsPlace}
use Rattle.ks_history.specs.declared.Op.{Op}
use Rattle.ks_history.specs.declared.Op.TheVariants.{Get, Put, Del, Add, Swap, Part, Move}
use Rattle.ks_history.specs.declared.Reply.{Reply}
use Rattle.ks_history.specs.declared.Reply.TheVariants.{Nothing, Value, Full, Listed, Kept}
use Rattle.ks_history.specs.declared.Answered.{Answered}
use Rattle.ks_history.specs.declared.Event.{Event}
use Rattle.ks_history.specs.declared.Event.TheVariants.{Take, Give, Claim, Shape, Call, Twin}
use Rattle.ks_history.specs.Write.{Map, keeps, sets, removes, moves, written, map_with}
use Rattle.ks_history.specs.Map.{told, moved, IsAnswer, ListsSpan, Touches, map_then, map_after, Legal}
use Rattle.ks_history.specs.Trace.{calls_of, calls_by, number_after}
use Rattle.ks_history.specs.Laws.Stays.{cond_here, cond_else}
use Rattle.ks_history.specs.Served.{at_place, CalledBelow, IsListing}

-- the operation and its reply, with the place f k for its key k
abbrev pub placed : (ℕ → ℕ) → Answered → Answered
placed f a = record { op = at_place f a.op; reply = a.reply }

-- what holds of all elements

module _ {X : Type 0} (P : X → Type 0) where
  all_front : (xs ys : List X) → AllByRecursion P (xs ++ ys) → AllByRecursion P xs
  all_front [] ys all = tt
  all_front (x ∷ xs) ys all = (all.0, all_front xs ys all.1)

  all_last : (xs : List X) (y : X) → AllByRecursion P (xs ++ y ∷ []) → P y
  all_last [] y all = all.0
  all_last (x ∷ xs) y all = all_last xs y all.1

  all_more : (xs : List X) (y : X) → AllByRecursion P xs → P y → AllByRecursion P (xs ++ y ∷ [])
  all_more [] y all p = (p, tt)
  all_more (x ∷ xs) y all p = (all.0, all_more xs y all.1 p)

  all_take : (n : ℕ) (xs : List X) → AllByRecursion P xs → AllByRecursion P (take n xs)
  all_take zero [] all = tt
  all_take zero (x ∷ xs) all = tt
  all_take (suc n) [] all = tt
  all_take (suc n) (x ∷ xs) all = (all.0, all_take n xs all.1)

  all_at : (xs : List X) (n : ℕ) (x : X) → AllByRecursion P xs → slice_get xs n ≡ Some x → P x
  all_at [] n x all e = absurd cc
  all_at (y ∷ xs) zero x all e = let same : y ≡ x = cc in subst P same all.0
  all_at (y ∷ xs) (suc n) x all e = all_at xs n x all.1 e

slice_map : {X Y : Type 0} (f : X → Y) (xs : List X) (n : ℕ) (x : X) → slice_get xs n ≡ Some x → slice_get (map f xs) n ≡ Some (f x)
slice_map f [] n x e = absurd cc
slice_map f (y ∷ xs) zero x e = let same : y ≡ x = cc in ap (λ z. Some (f z)) same
slice_map f (y ∷ xs) (suc n) x e = slice_map f xs n x e

-- a call more adds its operation to those of its caller
called_here : (h : List Event) (c d i : ℕ) (op : Op) (reply : Reply) → c ≡ d → map (λ x. x.call.op) (calls_by c (Call d i op reply ∷ h)) ≡ map (λ x. x.call.op) (calls_by c h) ++ op ∷ []
called_here h c d i op reply e =
    ap (map (λ x. x.call.op)) (cond_here c d (calls_by c h ++ record { number = number_after h; call = record { op = op; reply = reply } } ∷ []) (calls_by c h) e)
    ∙ map-append (λ x. x.call.op) (calls_by c h) (record { number = number_after h; call = record { op = op; reply = reply } } ∷ [])

called_else : (h : List Event) (c d i : ℕ) (op : Op) (reply : Reply) → (c ≡ d → ⊥) → map (λ x. x.call.op) (calls_by c (Call d i op reply ∷ h)) ≡ map (λ x. x.call.op) (calls_by c h)
called_else h c d i op reply n = ap (map (λ x. x.call.op)) (cond_else c d (calls_by c h ++ record { number = number_after h; call = record { op = op; reply = reply } } ∷ []) (calls_by c h) n)

-- what holds of the calls of each caller holds of all calls

of_call : (P : Op → Type 0) (m : ℕ) (h : List Event) (d j : ℕ) (op : Op) (reply : Reply) → d < m →
    (((c : ℕ) → c < m → AllByRecursion P (map (λ x. x.call.op) (calls_by c h))) → AllByRecursion (λ a. P a.op) (calls_of h)) →
    ((c : ℕ) → c < m → AllByRecursion P (map (λ x. x.call.op) (calls_by c (Call d j op reply ∷ h)))) → AllByRecursion (λ a. P a.op) (calls_of (Call d j op reply ∷ h))
of_call P m h d j op reply inside earlier each =
    all_more (λ a. P a.op) (calls_of h) (record { op = op; reply = reply }) (earlier before)
    (all_last P (map (λ x. x.call.op) (calls_by d h)) op (subst (AllByRecursion P) (called_here h d d j op reply refl) (each d inside)))
  where
    before : (c : ℕ) → c < m → AllByRecursion P (map (λ x. x.call.op) (calls_by c h))
    before c lt = dite (ℕ_discrete c d)
        (λ e. all_front P (map (λ x. x.call.op) (calls_by c h)) (op ∷ []) (subst (AllByRecursion P) (called_here h c d j op reply e) (each c lt)))
        (λ n. subst (AllByRecursion P) (called_else h c d j op reply n) (each c lt))

pub of_all : (P : Op → Type 0) (m : ℕ) (h : List Event) → All (CalledBelow m) h → ((c : ℕ) → c < m → AllByRecursion P (map (λ x. x.call.op) (calls_by c h))) → AllByRecursion (λ a. P a.op) (calls_of h)
of_all P m [] others each = tt
of_all P m (Take d j ∷ h) others each = of_all P m h (All-tail (CalledBelow m) (Take d j) h others) each
of_all P m (Give d j ∷ h) others each = of_all P m h (All-tail (CalledBelow m) (Give d j) h others) each
of_all P m (Claim d j ∷ h) others each = of_all P m h (All-tail (CalledBelow m) (Claim d j) h others) each
of_all P m (Shape d changes ∷ h) others each = of_all P m h (All-tail (CalledBelow m) (Shape d changes) h others) each
of_all P m (Call d j op reply ∷ h) others each = of_call P m h d j op reply (others 0 (Call d j op reply) (omega arith)) (of_all P m h (All-tail (CalledBelow m) (Call d j op reply) h others)) each
of_all P m (Twin d j k op reply ∷ h) others each = of_call P m h d j op reply (others 0 (Twin d j k op reply) (omega arith)) (of_all P m h (All-tail (CalledBelow m) (Twin d j k op reply) h others)) each

-- a part of a scan goes up, and then each key is its own place
abbrev pub KeepsPart : (ℕ → ℕ) → Op → Type 0
KeepsPart f (Get k) = Unit {0}
KeepsPart f (Put k v) = Unit {0}
KeepsPart f (Del k) = Unit {0}
KeepsPart f (Add k v) = Unit {0}
KeepsPart f (Swap k old new) = Unit {0}
KeepsPart f (Part low last) = (low ≤ last) × ((k : ℕ) → IsPlace k → f k ≡ k)
KeepsPart f (Move from to) = Unit {0}

-- the keys of the operation can have places, and it is no part, or one that f keeps
abbrev pub HasKey : (ℕ → ℕ) → Op → Type 0
HasKey f op = ((k : ℕ) → Touches op k → IsPlace k) × KeepsPart f op

module _ (f g : ℕ → ℕ) (back : (k : ℕ) → IsPlace k → g (f k) ≡ k) where
  -- from the operation at a place to that of its key

  op_back : (op : Op) → HasKey f op → at_place g (at_place f op) ≡ op
  op_back (Get k) is = ap Get (back k (is.0 k refl))
  op_back (Put k v) is = ap (λ x. Put x v) (back k (is.0 k refl))
  op_back (Del k) is = ap Del (back k (is.0 k refl))
  op_back (Add k v) is = ap (λ x. Add x v) (back k (is.0 k refl))
  op_back (Swap k old new) is = ap (λ x. Swap x old new) (back k (is.0 k refl))
  op_back (Part low last) is = ap (λ x. Part x (g (f last))) (back low (is.0 low (omega arith, is.1.0))) ∙ ap (λ x. Part low x) (back last (is.0 last (is.1.0, omega arith)))
  op_back (Move from to) is = ap (λ x. Move x (g (f to))) (back from (is.0 from (inl refl))) ∙ ap (λ x. Move from x) (back to (is.0 to (inr refl)))

  pub ops_back : (ops : List Op) → AllByRecursion (HasKey f) ops → map (at_place g) (map (at_place f) ops) ≡ ops
  ops_back [] are = refl
  ops_back (op ∷ ops) are = ap (λ x. x ∷ map (at_place g) (map (at_place f) ops)) (op_back op are.0) ∙ ap (λ l. op ∷ l) (ops_back ops are.1)

  -- the operation is at the place of a key
  pub record IsPlaced (op : Op) : Type 0 where
    pub keyed : Op
    pub key : HasKey f keyed
    pub is : op ≡ at_place f keyed

  pub are_placed : (ops : List Op) → AllByRecursion (HasKey f) ops → AllByRecursion IsPlaced (map (at_place f) ops)
  are_placed [] are = tt
  are_placed (op ∷ ops) are = (record { keyed = op; key = are.0; is = refl }, are_placed ops are.1)

  keyed_is : (op : Op) (p : IsPlaced op) → at_place g op ≡ p.keyed
  keyed_is op p = ap (at_place g) p.is ∙ op_back p.keyed p.key

  pub have_keys : (calls : List Answered) → AllByRecursion (λ a. IsPlaced a.op) calls → AllByRecursion (λ a. HasKey f a.op) (map (placed g) calls)
  have_keys [] are = tt
  have_keys (a ∷ calls) are = (subst (HasKey f) (sym (keyed_is a.op are.0)) are.0.key, have_keys calls are.1)

  pub placed_back : (calls : List Answered) → AllByRecursion (λ a. IsPlaced a.op) calls → map (placed f) (map (placed g) calls) ≡ calls
  placed_back [] are = refl
  placed_back (a ∷ calls) are =
      ap (λ x. record { op = x; reply = a.reply } ∷ map (placed f) (map (placed g) calls)) (ap (at_place f) (keyed_is a.op are.0) ∙ sym are.0.is)
      ∙ ap (λ l. a ∷ l) (placed_back calls are.1)

  -- the maps agree, the one at the places of the keys of the other
  abbrev pub Agree : Map → Map → Type 0
  Agree m w = (k : ℕ) → IsPlace k → m (f k) ≡ w k

  apart : (j k : ℕ) → IsPlace j → IsPlace k → (j ≡ k → ⊥) → f j ≡ f k → ⊥
  apart j k pj pk n e = n (sym (back j pj) ∙ ap g e ∙ back k pk)

  sets_agree : (m w : Map) (p v : ℕ) → IsPlace p → Agree m w → Agree (map_with m (sets (f p) v)) (map_with w (sets p v))
  sets_agree m w p v at agree k is = dite (ℕ_discrete p k)
      (λ e. cond_here (f p) (f k) (Some v) (m (f k)) (ap f e) ∙ sym (cond_here p k (Some v) (w k) e))
      (λ n. cond_else (f p) (f k) (Some v) (m (f k)) (apart p k at is n) ∙ agree k is ∙ sym (cond_else p k (Some v) (w k) n))

  removes_agree : (m w : Map) (p : ℕ) → IsPlace p → Agree m w → Agree (map_with m (removes (f p))) (map_with w (removes p))
  removes_agree m w p at agree k is = dite (ℕ_discrete p k)
      (λ e. cond_here (f p) (f k) None (m (f k)) (ap f e) ∙ sym (cond_here p k None (w k) e))
      (λ n. cond_else (f p) (f k) None (m (f k)) (apart p k at is n) ∙ agree k is ∙ sym (cond_else p k None (w k) n))

  moves_agree : (m w : Map) (from to v : ℕ) → IsPlace from → IsPlace to → Agree m w → Agree (map_with m (moves (f from) (f to) v)) (map_with w (moves from to v))
  moves_agree m w from to v at_from at_to agree = sets_agree (map_with m (removes (f from))) (map_with w (removes from)) to v at_to (removes_agree m w from at_from agree)

  then_agree : (m w : Map) → Agree m w → (op : Op) (reply : Reply) → HasKey f op → Agree (map_with m (written (at_place f op) reply)) (map_with w (written op reply))
  then_agree m w agree (Get p) reply key = agree
  then_agree m w agree (Put p v) Nothing key = sets_agree m w p v (key.0 p refl) agree
  then_agree m w agree (Put p v) (Value u) key = sets_agree m w p v (key.0 p refl) agree
  then_agree m w agree (Put p v) Full key = agree
  then_agree m w agree (Put p v) (Listed xs) key = sets_agree m w p v (key.0 p refl) agree
  then_agree m w agree (Put p v) Kept key = sets_agree m w p v (key.0 p refl) agree
  then_agree m w agree (Del p) reply key = removes_agree m w p (key.0 p refl) agree
  then_agree m w agree (Add p v) Nothing key = sets_agree m w p v (key.0 p refl) agree
  then_agree m w agree (Add p v) (Value u) key = agree
  then_agree m w agree (Add p v) Full key = agree
  then_agree m w agree (Add p v) (Listed xs) key = agree
  then_agree m w agree (Add p v) Kept key = agree
  then_agree m w agree (Swap p old new) Nothing key = agree
  then_agree m w agree (Swap p old new) (Value u) key = λ k is. dite (ℕ_discrete u old)
      (λ e. ap (λ x. map_with m x (f k)) (cond_here u old (sets (f p) new) keeps e) ∙ sets_agree m w p new (key.0 p refl) agree k is ∙ sym (ap (λ x. map_with w x k) (cond_here u old (sets p new) keeps e)))
      (λ n. ap (λ x. map_with m x (f k)) (cond_else u old (sets (f p) new) keeps n) ∙ agree k is ∙ sym (ap (λ x. map_with w x k) (cond_else u old (sets p new) keeps n)))
  then_agree m w agree (Swap p old new) Full key = agree
  then_agree m w agree (Swap p old new) (Listed xs) key = agree
  then_agree m w agree (Swap p old new) Kept key = agree
  then_agree m w agree (Part low last) reply key = agree
  then_agree m w agree (Move from to) Nothing key = agree
  then_agree m w agree (Move from to) (Value v) key = moves_agree m w from to v (key.0 from (inl refl)) (key.0 to (inr refl)) agree
  then_agree m w agree (Move from to) Full key = agree
  then_agree m w agree (Move from to) (Listed xs) key = agree
  then_agree m w agree (Move from to) Kept key = agree

  fold_agree : (calls : List Answered) → AllByRecursion (λ a. HasKey f a.op) calls → (m w : Map) → Agree m w → Agree (fold map_then m (map (placed f) calls)) (fold map_then w calls)
  fold_agree [] are m w agree = agree
  fold_agree (a ∷ calls) are m w agree = fold_agree calls are.1 (map_then m (placed f a)) (map_then w a) (then_agree m w agree a.op a.reply are.0)

  -- the map of the calls at places is that of the calls at keys
  pub after_agree : (calls : List Answered) → AllByRecursion (λ a. HasKey f a.op) calls → Agree (map_after (map (placed f) calls)) (map_after calls)
  after_agree calls are = fold_agree calls are (λ _. None) (λ _. None) (λ k is. refl)

  -- where each key is its own place, a span of keys is that of places
  span_agree : (m w : Map) → Agree m w → (low last : ℕ) → HasKey f (Part low last) → (pairs : List Pair) → ListsSpan m (f low) (f last) pairs → ListsSpan w low last pairs
  span_agree m w agree low last key pairs span = record { ascend = here.ascend; within = here.within; exact = λ p above below. here.exact p above below ∙ sym (ap m (key.1.1 p (key.0 p (above, below)))) ∙ agree p (key.0 p (above, below)) }
    where
      here : ListsSpan m low last pairs
      here = subst (λ (k : ℕ). ListsSpan m low k pairs) (key.1.1 last (key.0 last (key.1.0, omega arith))) (subst (λ (k : ℕ). ListsSpan m k (f last) pairs) (key.1.1 low (key.0 low (omega arith, key.1.0))) span)

  answer_agree : (m w : Map) → Agree m w → (op : Op) (reply : Reply) → HasKey f op → IsAnswer m (at_place f op) reply → IsAnswer w op reply
  answer_agree m w agree (Get p) reply key is = is ∙ ap told (agree p (key.0 p refl))
  answer_agree m w agree (Put p v) reply key (inl is) = inl (is ∙ ap told (agree p (key.0 p refl)))
  answer_agree m w agree (Put p v) reply key (inr full) = inr full
  answer_agree m w agree (Del p) reply key is = is ∙ ap told (agree p (key.0 p refl))
  answer_agree m w agree (Add p v) reply key (inl is) = inl (is ∙ ap told (agree p (key.0 p refl)))
  answer_agree m w agree (Add p v) reply key (inr full) = inr full
  answer_agree m w agree (Swap p old new) reply key is = is ∙ ap told (agree p (key.0 p refl))
  answer_agree m w agree (Part low last) reply key (pairs, is, span) = (pairs, is, span_agree m w agree low last key pairs span)
  answer_agree m w agree (Move from to) reply key (inl is) = inl (is ∙ ap (λ o. moved o (m (f to))) (agree from (key.0 from (inl refl))) ∙ ap (λ o. moved (w from) o) (agree to (key.0 to (inr refl))))
  answer_agree m w agree (Move from to) reply key (inr full) = inr full

  pub legal_back : (calls : List Answered) → AllByRecursion (λ a. HasKey f a.op) calls → Legal (map (placed f) calls) → Legal calls
  legal_back calls are legal k a e =
      answer_agree (map_after (take k (map (placed f) calls))) (map_after (take k calls))
      (subst (λ cs. Agree (map_after cs) (map_after (take k calls))) (sym (take-map (placed f) k calls)) (after_agree (take k calls) (all_take (λ x. HasKey f x.op) k calls are)))
      a.op a.reply (all_at (λ x. HasKey f x.op) calls k a are e) (legal k (placed f a) (slice_map (placed f) calls k a e))

  pub listing_back : (m w : Map) (pairs : List (ℕ × ℕ)) → Agree m w → IsListing (λ k. m (f k)) pairs → IsListing w pairs
  listing_back m w pairs agree listing = record {
    exact = λ k v. (λ x. (listing.exact k v).0 (x.0, agree k x.0 ∙ x.1), λ c. let y = (listing.exact k v).1 c in (y.0, sym (agree k y.0) ∙ y.1));
    ascend = listing.ascend;
  }
