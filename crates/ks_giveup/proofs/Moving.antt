-- How a move goes on from one step to the next: it remains under way, and a refusal remains one.
use Rattle.std.proofs.Common.{◌≡◌, ℕ, Bool, true, false, not, List, refl, sym, subst, arith}
use Rattle.std.specs.Prelude.{IsTrue}
use Rattle.ks_keysets.specs.Layout.{Layout}
use Rattle.ks_history.specs.declared.Event.{Event}
use Rattle.ks_history.specs.declared.Op.TheVariants.{Move}
use Rattle.ks_history.specs.Done.{give_up}
use Rattle.ks_history.specs.Due.{NoneFree}
use Rattle.ks_history.specs.Laws.Dues.{none_free_earlier, none_free_later}
use Rattle.ks_history.specs.Laws.Underway.{underway_both}
use Rattle.ks_history.specs.Passes.{NoCallBy}
use Rattle.ks_history.specs.Trace.{◌⊑◌}
use Rattle.ks_history.specs.Underway.{Underway}
use Rattle.ks_shape.specs.Stretches.{Stretches}

pub not_true : (b : Bool) → IsTrue (not b) → b ≡ false
not_true true t = absurd (let e : false ≡ true = t in let q : ⊥ = cc in q)
not_true false t = refl

-- of caller a, written b after a step
pub as_new : (a b from to : ℕ) (s k : List Event) → b ≡ a → Underway give_up a (Move from to) s k → Underway give_up b (Move from to) s k
as_new a b from to s k same under = subst (λ (z : ℕ). Underway give_up z (Move from to) s k) (sym same) under

-- after a stretch
pub goes_on : (a b from to : ℕ) (s h k : List Event) → b ≡ a → Stretches a h k → Underway give_up a (Move from to) s h → Underway give_up b (Move from to) s k
goes_on a b from to s h k same stretch under = as_new a b from to s k same (underway_both give_up a (Move from to) s h k under (stretch give_up (Move from to) (omega arith)))

-- a refusal since s, before a step and in it
pub was_refused : (layout : Layout) (n p a b : ℕ) (s h k : List Event) → b ≡ a → h ⊑ k → NoneFree layout n a p s h → NoneFree layout n b p s k
was_refused layout n p a b s h k same begins none = subst (λ (z : ℕ). NoneFree layout n z p s k) (sym same) (none_free_later layout n a p s h k begins none)

pub is_refused : (layout : Layout) (n p a b : ℕ) (s h k : List Event) → b ≡ a → s ⊑ h → NoneFree layout n a p h k → NoneFree layout n b p s k
is_refused layout n p a b s h k same begins none = subst (λ (z : ℕ). NoneFree layout n z p s k) (sym same) (none_free_earlier layout n a p s h k begins none)

-- that no node was free since s lets the arena decide as full: the call made no call since
pub refusal : (layout : Layout) (n c from to : ℕ) (s h : List Event) → Underway give_up c (Move from to) s h → NoneFree layout n c to s h → (start : List Event) × (since : start ⊑ h) × NoCallBy c since.rest × NoneFree layout n c to start h
refusal layout n c from to s h under none = (s, record { rest = under.rest; is = under.is }, under.none, none)
