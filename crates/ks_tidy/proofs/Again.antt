-- Whether another search has to follow, over two stretches.
use Rattle.std.proofs.Common.{◌≡◌, ℕ, ◌+◌, Bool, true, false, List, refl, sym, ◌∙◌, subst, arith}
use Rattle.std.specs.Prelude.{◌||◌}
use Rattle.ks_history.specs.declared.Event.{Event}
use Rattle.ks_shape.specs.Frees.{Frees}
use Rattle.ks_shape.specs.Laws.Frees.{frees_both, frees_here, frees_same}
use Rattle.ks_tidy.specs.Pair.{ComesAgain}

-- if neither is true, both are false
pub neither : (again more : Bool) → (again || more) ≡ false → (again ≡ false) × (more ≡ false)
neither true more off = absurd (let q : true ≡ false = off in let z : ⊥ = cc in z)
neither false more off = (refl, off)

-- if two stretches made none free, each made none
none_first : (c a b : ℕ) (s h k : List Event) → Frees c s h a → Frees c h k b → Frees c s k 0 → Frees c s h 0
none_first c a b s h k x y none = let same : a + b ≡ 0 = frees_same c (a + b) 0 s k (frees_both c a b s h k x y) none in let zero : a ≡ 0 = omega (arith, same) in subst (Frees c s h) zero x

none_then : (c a b : ℕ) (s h k : List Event) → Frees c s h a → Frees c h k b → Frees c s k 0 → Frees c h k 0
none_then c a b s h k x y none = let same : a + b ≡ 0 = frees_same c (a + b) 0 s k (frees_both c a b s h k x y) none in let zero : b ≡ 0 = omega (arith, same) in subst (Frees c h k) zero y

module _ (t : Bool) (c : ℕ) where
  pub again_none : (h k : List Event) → Frees c h k 0 → ComesAgain t c h k false
  again_none h k none = record { none = λ off on. none; some = λ on. absurd (let q : false ≡ true = on in let z : ⊥ = cc in z) }

  pub again_here : (h : List Event) → ComesAgain t c h h false
  again_here h = again_none h h (frees_here c h)

  -- one more made free
  pub again_more : (a : ℕ) (s h k : List Event) → Frees c s h a → Frees c h k 1 → ComesAgain t c s k t
  again_more a s h k x y = record {
    none = λ off on. absurd (let q : true ≡ false = sym on ∙ off in let z : ⊥ = cc in z);
    some = λ on. (on, λ none. let same : a + 1 ≡ 0 = frees_same c (a + 1) 0 s k (frees_both c a 1 s h k x y) none in absurd (omega (arith, same)));
  }

  -- a stretch that makes none free
  pub again_on : (a : ℕ) (s h k : List Event) (again : Bool) → Frees c s h a → ComesAgain t c s h again → Frees c h k 0 → ComesAgain t c s k again
  again_on a s h k again made x y = record {
    none = λ off on. frees_both c 0 0 s h k (x.none off on) y;
    some = λ on. ((x.some on).0, λ none. (x.some on).1 (none_first c a 0 s h k made y none));
  }

  pub again_both : (a b : ℕ) (s h k : List Event) (again more : Bool) → Frees c s h a → Frees c h k b → ComesAgain t c s h again → ComesAgain t c h k more → ComesAgain t c s k (again || more)
  again_both a b s h k true more made made' x y = record {
    none = λ off on. absurd (let q : true ≡ false = off in let z : ⊥ = cc in z);
    some = λ on. ((x.some refl).0, λ none. (x.some refl).1 (none_first c a b s h k made made' none));
  }
  again_both a b s h k false more made made' x y = record {
    none = λ off on. frees_both c 0 0 s h k (x.none refl on) (y.none off on);
    some = λ on. ((y.some on).0, λ none. (y.some on).1 (none_then c a b s h k made made' none));
  }

pub again_as : (t : Bool) (c d : ℕ) (h k : List Event) (again : Bool) → d ≡ c → ComesAgain t d h k again → ComesAgain t c h k again
again_as t c d h k again same so = subst (λ (z : ℕ). ComesAgain t z h k again) same so
