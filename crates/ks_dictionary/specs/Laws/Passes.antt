-- Laws of the passes of all callers: those of a start are in order, and if idle passes of the same callers replace some,
-- they are still those of all callers.
use Rattle.std.proofs.Common.{◌≡◌, ℕ, zero, suc, ◌<◌, List, [], ◌∷◌, length, get_or, ◌∙◌, sym, refl, ap, subst, arith}
use mathlib.Core.Option.{some, some-injective, some-ne-none}
use lib.ListN.{get_elem?}
use Rattle.ks_history.specs.Own.{hand}
use Rattle.ks_arena.specs.declared.held.Pass.{Pass}
use Rattle.ks_shape.specs.Idle.{Site, IsIdle}
use Rattle.ks_dictionary.specs.Crew.{AreAll, AreInOrder, AreNew, AreReplaced}

-- the element at a place
elem_here : {X : Type 0} (xs : List X) (i : ℕ) (x : X) → i < length xs → get_elem? xs i ≡ some (get_or xs i x)
elem_here [] i x lt = absurd (omega (arith, lt))
elem_here (y ∷ xs) zero x lt = refl
elem_here (y ∷ xs) (suc i) x lt = elem_here xs i x (omega (arith, lt))

within : {X : Type 0} (xs : List X) (i : ℕ) (x : X) → get_elem? xs i ≡ some x → i < length xs
within [] i x is = absurd (some-ne-none x (sym is))
within (y ∷ xs) zero x is = omega arith
within (y ∷ xs) (suc i) x is = let p = within xs i x is in omega arith

here : {X : Type 0} (xs : List X) (i : ℕ) (x d : X) → get_elem? xs i ≡ some x → get_or xs i d ≡ x
here [] i x d is = absurd (some-ne-none x (sym is))
here (y ∷ xs) zero x d is = some-injective y x is
here (y ∷ xs) (suc i) x d is = here xs i x d is

pick : {X : Type 0} (xs : List X) (i : ℕ) → i < length xs → X
pick [] i lt = absurd (omega (arith, lt))
pick (x ∷ xs) i lt = x

module _ {N D : Type 0} (a : Site) where
  -- the passes of a start are in order
  pub new_in_order : (ps : List (Pass N D)) → AreNew a ps → AreInOrder a ps
  new_in_order ps new = record {
    long = new.long;
    each = λ i p lt. let q = new.each i (get_or ps i p) (elem_here ps i p lt) in ((q.pass, ap (hand (get_or ps i p).caller) q.seen), q.caller);
  }

  -- passes in order are those of all callers
  pub ordered_all : (ps : List (Pass N D)) → AreInOrder a ps → AreAll a ps
  ordered_all ps so = record {
    each = λ i p is. subst (IsIdle a) (here ps i p p is) (so.each i p (within ps i p is)).0;
    all = λ c lt.
        let low : c < length ps = omega (arith, lt, so.long) in
        let p : Pass N D = pick ps c low in
        (c, get_or ps c p, elem_here ps c p low, (so.each c p low).1);
  }

  -- passes that idle ones of the same callers replace
  pub replaced_all : (ps qs : List (Pass N D)) → AreAll a ps → AreReplaced a ps qs → AreAll a qs
  replaced_all ps qs all so = record {
    each = λ i p is. let lt = within qs i p is in subst (IsIdle a) (here qs i p p is) (so.each i p (omega (arith, lt, so.long))).0;
    all = λ c lt.
        let old = all.all c lt in
        let i = old.0 in
        let p = old.1 in
        let is = old.2 in
        let low = within ps i p is in
        (i, get_or qs i p, elem_here qs i p (omega (arith, low, so.long)), (so.each i p low).1 ∙ ap (λ (q : Pass N D). q.caller) (here ps i p p is) ∙ old.3);
  }
