-- What a put and a del do to ascending pairs, pair by pair, and the value at a place as a record has it.
use Rattle.std.specs.Prelude.{◌≡◌, ℕ, suc, ◌<◌, ◌≤◌, true, false, nat_lt, nat_le, List, [], ◌∷◌, All, refl}
use Rattle.std.proofs.Common.{arith, ap, inl, inr}
use Rattle.std.proofs.lemmas.Bool.{lt-ltb, le-ltb, le-leb, lt-leb}
use Rattle.std.proofs.lemmas.Bool.Decides.{eqb_tells}
use Rattle.ks_keysets.specs.declared.Pair.{Pair}
use Rattle.ks_keysets.specs.Record.{first_value}
use Rattle.ks_node.specs.Keyed.{Ascends}
use Rattle.ks_node.specs.Laws.Ascend.{asc_head}
use Rattle.ks_node.specs.Body.{pairs_below, pairs_from, value_at}
use Rattle.ks_node.specs.Effect.{pairs_put, pairs_del}

-- the first value at a place in a record is the value that the calls return
pub value_first : (ps : List Pair) (p : ℕ) → first_value ps p ≡ value_at ps p
value_first [] p = refl
value_first (x ∷ xs) p = elim (eqb_tells x.place p) [
  | inl e ↦ rw e.0 refl
  | inr n ↦ rw n.0 (value_first xs p)
]

high : (p : ℕ) (ps : List Pair) → All (λ x. p ≤ x.place) ps → (pairs_below p ps ≡ []) × (pairs_from p ps ≡ ps)
high p [] a = (refl, refl)
high p (x ∷ xs) a =
    let here : p ≤ x.place = a 0 x (omega arith) in
    let rest = high p xs (λ k d l. a (suc k) d (omega arith)) in
    let b : nat_lt x.place p ≡ false = le-ltb _ _ here in
    let c : nat_le p x.place ≡ true = le-leb _ _ here in
    (rw b rest.0, rw c (ap (λ l. x ∷ l) rest.1))

later_high : (p : ℕ) (x : Pair) (xs : List Pair) → Ascends (λ x. x.place) (x ∷ xs) → p ≤ x.place → All (λ y. suc p ≤ y.place) xs
later_high p x xs asc h k d l = let up = asc_head (λ x. x.place) x xs asc k d l in omega arith

module _ (p v : ℕ) (x : Pair) (xs : List Pair) where
  -- the pair at the place is replaced
  pub put_here : x.place ≡ p → Ascends (λ x. x.place) (x ∷ xs) → pairs_put p v (x ∷ xs) ≡ record { place = p; value = v } ∷ xs
  put_here e asc =
      let b : nat_lt x.place p ≡ false = le-ltb _ _ (omega arith) in
      let c : nat_le (suc p) x.place ≡ false = lt-leb _ _ (omega arith) in
      let all : All (λ y. suc p ≤ y.place) xs = later_high p x xs asc (omega arith) in
      let low = high p xs (λ k d l. let up = all k d l in omega arith) in
      let rest = high (suc p) xs all in
      rw (b, c, low.0, rest.1) refl

  -- a pair at a smaller place goes before the first
  pub put_before : p < x.place → Ascends (λ x. x.place) (x ∷ xs) → pairs_put p v (x ∷ xs) ≡ record { place = p; value = v } ∷ x ∷ xs
  put_before h asc =
      let b : nat_lt x.place p ≡ false = le-ltb _ _ (omega arith) in
      let c : nat_le (suc p) x.place ≡ true = le-leb _ _ (omega arith) in
      let all : All (λ y. suc p ≤ y.place) xs = later_high p x xs asc (omega arith) in
      let low = high p xs (λ k d l. let up = all k d l in omega arith) in
      let rest = high (suc p) xs all in
      rw (b, c, low.0, rest.1) refl

  -- a pair at a larger place goes to the rest
  pub put_after : x.place < p → pairs_put p v (x ∷ xs) ≡ x ∷ pairs_put p v xs
  put_after h =
      let b : nat_lt x.place p ≡ true = lt-ltb _ _ h in
      let c : nat_le (suc p) x.place ≡ false = lt-leb _ _ (omega arith) in
      rw (b, c) refl

  -- the pair at the place is removed, and others stay
  pub del_here : x.place ≡ p → pairs_del p (x ∷ xs) ≡ pairs_del p xs
  del_here e =
      let b : nat_lt x.place p ≡ false = le-ltb _ _ (omega arith) in
      let c : nat_le (suc p) x.place ≡ false = lt-leb _ _ (omega arith) in
      rw (b, c) refl

  pub del_before : p < x.place → Ascends (λ x. x.place) (x ∷ xs) → pairs_del p (x ∷ xs) ≡ x ∷ xs
  del_before h asc =
      let b : nat_lt x.place p ≡ false = le-ltb _ _ (omega arith) in
      let c : nat_le (suc p) x.place ≡ true = le-leb _ _ (omega arith) in
      let all : All (λ y. suc p ≤ y.place) xs = later_high p x xs asc (omega arith) in
      let low = high p xs (λ k d l. let up = all k d l in omega arith) in
      let rest = high (suc p) xs all in
      rw (b, c, low.0, rest.1) refl

  pub del_after : x.place < p → pairs_del p (x ∷ xs) ≡ x ∷ pairs_del p xs
  del_after h =
      let b : nat_lt x.place p ≡ true = lt-ltb _ _ h in
      let c : nat_le (suc p) x.place ≡ false = lt-leb _ _ (omega arith) in
      rw (b, c) refl
