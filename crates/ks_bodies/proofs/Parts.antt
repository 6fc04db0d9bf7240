-- What the parts of a body at a cut hold.
use Rattle.std.proofs.Common.{ℕ, suc, ◌≡◌, ◌<◌, ◌≤◌, ◌==◌, inl, inr, cond, Bool, true, false, List, [], ◌∷◌, ◌++◌, Option, Some, None, refl, sym, ◌∙◌, ap, arith}
use Rattle.std.specs.Prelude.{All, nat_lt, nat_le, IsTrue}
use Rattle.std.proofs.lemmas.Bool.{lt-ltb, le-ltb, le-leb, lt-leb, ne_eqb}
use Rattle.ks_keysets.specs.declared.Span.{Span}
use Rattle.ks_keysets.specs.declared.Pair.{Pair}
use Rattle.ks_keysets.specs.declared.Kind.{Kind}
use Rattle.ks_keysets.specs.declared.Kind.TheVariants.{NoBranch, Inner, Directory}
use Rattle.ks_keysets.specs.Record.{first_value}
use Rattle.ks_node.specs.declared.start.Start.{Start}
use Rattle.ks_node.specs.Body.{first_of, last_of, is_branch_kind, pairs_below, pairs_from, starts_below, starts_from, begins}
use Rattle.ks_node.specs.Effect.{first_from, ends_at, begins_at}
use Rattle.ks_flow.specs.Shapes.{range_to, range_from}
use Rattle.ks_bodies.proofs.Led.{low_or_high, or_else, led, Ascend, led_parts, begins_from, led_first, count, count_first}

-- values in parts of pairs

pub value_below : (cut : ℕ) (ps : List Pair) (p : ℕ) → p < cut → first_value (pairs_below cut ps) p ≡ first_value ps p
value_below cut [] p lt = refl
value_below cut (x ∷ ps) p lt = elim (low_or_high x.place cut) [
  | inl h ↦ (let a : nat_lt x.place cut ≡ true = lt-ltb _ _ h in rw a (ap (λ (o : Option ℕ). cond (x.place == p) (Some x.value) o) (value_below cut ps p lt)))
  | inr h ↦ (
      let a : nat_lt x.place cut ≡ false = le-ltb _ _ h in
      let b : (x.place == p) ≡ false = ne_eqb _ _ (λ e. omega arith) in
      rw (a, b) (value_below cut ps p lt))
]

pub value_from : (cut : ℕ) (ps : List Pair) (p : ℕ) → cut ≤ p → first_value (pairs_from cut ps) p ≡ first_value ps p
value_from cut [] p le = refl
value_from cut (x ∷ ps) p le = elim (low_or_high x.place cut) [
  | inl h ↦ (
      let a : nat_le cut x.place ≡ false = lt-leb _ _ h in
      let b : (x.place == p) ≡ false = ne_eqb _ _ (λ e. omega arith) in
      rw (a, b) (value_from cut ps p le))
  | inr h ↦ (let a : nat_le cut x.place ≡ true = le-leb _ _ h in rw a (ap (λ (o : Option ℕ). cond (x.place == p) (Some x.value) o) (value_from cut ps p le)))
]

pub joined_left : (ps qs : List Pair) (p : ℕ) → All (λ y. y.place ≡ p → ⊥) qs → first_value (ps ++ qs) p ≡ first_value ps p
joined_left [] [] p none = refl
joined_left [] (q ∷ qs) p none =
    let t : (q.place == p) ≡ false = ne_eqb q.place p (none 0 q (omega arith)) in
    rw t (joined_left [] qs p (λ k d lt. none (suc k) d (omega arith)))
joined_left (x ∷ ps) qs p none = ap (λ (o : Option ℕ). cond (x.place == p) (Some x.value) o) (joined_left ps qs p none)

pub joined_right : (ps qs : List Pair) (p : ℕ) → All (λ y. y.place ≡ p → ⊥) ps → first_value (ps ++ qs) p ≡ first_value qs p
joined_right [] qs p none = refl
joined_right (x ∷ ps) qs p none =
    let t : (x.place == p) ≡ false = ne_eqb x.place p (none 0 x (omega arith)) in
    rw t (joined_right ps qs p (λ k d lt. none (suc k) d (omega arith)))

-- starts in the right part: in a branch the first is at the cut, and reaches down; in another node all are from the cut on

pub none_below : (cut : ℕ) (ss : List Start) → All (λ s. cut ≤ s.low) ss → starts_below cut ss ≡ []
none_below cut [] all = refl
none_below cut (s ∷ ss) all =
    let t : nat_lt s.low cut ≡ false = le-ltb _ _ (all 0 s (omega arith)) in
    rw t (none_below cut ss (λ k d lt. all (suc k) d (omega arith)))

some_absorbs : (o q : Option ℕ) (x : ℕ) → or_else (or_else o (Some x)) q ≡ or_else o (Some x)
some_absorbs None q x = refl
some_absorbs (Some m) q x = refl

pub led_right : (kind : Kind) (cut : ℕ) (ss : List Start) (p : ℕ) → Ascend ss → (kind ≡ Inner → IsTrue (begins cut ss)) → (kind ≡ NoBranch → All (λ s. cut ≤ s.low) ss) → (kind ≡ Directory → ⊥) → cut ≤ p →
    led (cond (is_branch_kind kind) (first_from 0 (starts_from cut ss)) (starts_from cut ss)) p ≡ led ss p
led_right NoBranch cut ss p up inner own dir le =
    let e : starts_below cut ss ≡ [] = none_below cut ss (own refl) in
    let f : or_else (led (starts_from cut ss) p) None ≡ led (starts_from cut ss) p = or_none (led (starts_from cut ss) p) in
    sym (led_parts cut ss p up ∙ ap (λ (xs : List Start). or_else (led (starts_from cut ss) p) (led xs p)) e ∙ f)
  where
    or_none : (o : Option ℕ) → or_else o None ≡ o
    or_none None = refl
    or_none (Some m) = refl
led_right Inner cut ss p up inner own dir le =
    let y = begins_from cut ss up (inner refl) in
    let a : nat_le cut p ≡ true = le-leb _ _ le in
    let at : led (record { low = cut; node = y.0 } ∷ y.1) p ≡ or_else (led y.1 p) (Some y.0) = rw a refl in
    let from : led (starts_from cut ss) p ≡ or_else (led y.1 p) (Some y.0) = ap (λ (xs : List Start). led xs p) y.2 ∙ at in
    ap (λ (xs : List Start). led (first_from 0 xs) p) y.2 ∙ led_first cut 0 y.0 y.1 p le (omega arith) ∙ at
    ∙ sym (led_parts cut ss p up ∙ ap (λ (o : Option ℕ). or_else o (led (starts_below cut ss) p)) from ∙ some_absorbs (led y.1 p) (led (starts_below cut ss) p) y.0)
led_right Directory cut ss p up inner own dir le = absurd (dir refl)

pub count_right : (b : Bool) (cut : ℕ) (ss : List Start) (m : ℕ) → count (cond b (first_from 0 (starts_from cut ss)) (starts_from cut ss)) m ≡ count (starts_from cut ss) m
count_right true cut ss m = count_first 0 (starts_from cut ss) m
count_right false cut ss m = refl

-- ranges of the parts

pub left_first : (o : Option Span) (last p : ℕ) → first_of o ≤ p → first_of (ends_at last o) ≤ p
left_first None last p le = le
left_first (Some r) last p le = le

pub left_last : (o : Option Span) (last p : ℕ) → p ≤ last_of o → p ≤ last → p ≤ last_of (ends_at last o)
left_last None last p le le' = le
left_last (Some r) last p le le' = le'

pub right_first : (o : Option Span) (low p : ℕ) → first_of o ≤ p → low ≤ p → first_of (begins_at low o) ≤ p
right_first None low p le le' = le
right_first (Some r) low p le le' = le'

pub right_last : (o : Option Span) (low p : ℕ) → p ≤ last_of o → p ≤ last_of (begins_at low o)
right_last None low p le = le
right_last (Some r) low p le = le

pub ends_range : (last : ℕ) (o : Option Span) → ends_at last o ≡ range_to last o
ends_range last None = refl
ends_range last (Some r) = refl

pub begins_range : (low : ℕ) (o : Option Span) → begins_at low o ≡ range_from low o
begins_range low None = refl
begins_range low (Some r) = refl

-- cut down to the part below the cut, and then extended to the old end again
pub over_parts : (last low : ℕ) (o : Option Span) → ends_at (last_of (begins_at low o)) (ends_at last o) ≡ o
over_parts last low None = refl
over_parts last low (Some r) = refl
