-- Stretches without takes and Shapes of a caller: how they add up, and which events are one.
use Rattle.std.proofs.Common.{◌≡◌, ℕ, List, [], ◌∷◌, ◌++◌, length, sym, refl, ap, ◌∙◌, subst, arith}
use mathlib.Core.Logic.{dite}
use native.Mathlib.Decide.{ℕ_discrete}
use Rattle.ks_history.specs.declared.Event.{Event}
use Rattle.ks_history.specs.declared.Event.TheVariants.{Take, Give, Claim, Shape, Call, Twin}
use Rattle.ks_history.specs.Refusals.{takes_by}
use Rattle.ks_history.specs.Callers.{NoneBy}
use Rattle.ks_history.specs.Passes.{GrowsByOthers, GrowsWith}
use Rattle.ks_history.specs.Laws.Begins.{begins_both}
use Rattle.ks_history.specs.Laws.Stays.{cond_here, cond_else}
use Rattle.ks_history.specs.Laws.Descent.{OwnQuiet}
use Rattle.ks_shape.specs.Quiet.{NoShapeBy, IsQuiet}

no_takes : (c : ℕ) (es : List Event) → NoneBy c es → takes_by c es ≡ []
no_takes c [] none = refl
no_takes c (Take d i ∷ es) none = cond_else d c (i ∷ takes_by c es) (takes_by c es) none.0 ∙ no_takes c es none.1
no_takes c (Give d i ∷ es) none = no_takes c es none.1
no_takes c (Claim d i ∷ es) none = no_takes c es none.1
no_takes c (Shape d changes ∷ es) none = no_takes c es none.1
no_takes c (Call d i op reply ∷ es) none = no_takes c es none.1
no_takes c (Twin d i j op reply ∷ es) none = no_takes c es none.1

takes_both : (c : ℕ) (es fs : List Event) → takes_by c es ≡ [] → takes_by c (es ++ fs) ≡ takes_by c fs
takes_both c [] fs none = refl
takes_both c (Take d i ∷ es) fs none = dite (ℕ_discrete d c)
    (λ own. let x : i ∷ takes_by c es ≡ [] = sym (cond_here d c (i ∷ takes_by c es) (takes_by c es) own) ∙ none in absurd (omega (arith, ap length x)))
    (λ other. cond_else d c (i ∷ takes_by c (es ++ fs)) (takes_by c (es ++ fs)) other ∙ takes_both c es fs (sym (cond_else d c (i ∷ takes_by c es) (takes_by c es) other) ∙ none))
takes_both c (Give d i ∷ es) fs none = takes_both c es fs none
takes_both c (Claim d i ∷ es) fs none = takes_both c es fs none
takes_both c (Shape d changes ∷ es) fs none = takes_both c es fs none
takes_both c (Call d i op reply ∷ es) fs none = takes_both c es fs none
takes_both c (Twin d i j op reply ∷ es) fs none = takes_both c es fs none

no_shapes : (c : ℕ) (es : List Event) → NoneBy c es → NoShapeBy c es
no_shapes c [] none = tt
no_shapes c (e ∷ es) none = ((λ own. absurd (none.0 own)), no_shapes c es none.1)

both_shapes : (c : ℕ) (es fs : List Event) → NoShapeBy c es → NoShapeBy c fs → NoShapeBy c (es ++ fs)
both_shapes c [] fs a b = b
both_shapes c (e ∷ es) fs a b = (a.0, both_shapes c es fs a.1 b)

-- such events are quiet in the sense of the laws of descents
pub own_quiet : (c : ℕ) (es : List Event) → NoShapeBy c es → OwnQuiet c es
own_quiet c [] so = tt
own_quiet c (e ∷ es) so = (so.0, own_quiet c es so.1)

pub quiet_others : (c : ℕ) (h k : List Event) → GrowsByOthers c h k → IsQuiet c h k
quiet_others c h k grows = record { grows = record { rest = grows.rest; is = grows.is }; takes = no_takes c grows.rest grows.others; shapes = no_shapes c grows.rest grows.others }

pub quiet_give : (c i : ℕ) (h k : List Event) → GrowsWith c (Give c i) h k → IsQuiet c h k
quiet_give c i h k so = record { grows = record { rest = Give c i ∷ so.rest; is = so.is }; takes = no_takes c so.rest so.others; shapes = ((λ own. tt), no_shapes c so.rest so.others) }

pub quiet_claim : (c i : ℕ) (h k : List Event) → GrowsWith c (Claim c i) h k → IsQuiet c h k
quiet_claim c i h k so = record { grows = record { rest = Claim c i ∷ so.rest; is = so.is }; takes = no_takes c so.rest so.others; shapes = ((λ own. tt), no_shapes c so.rest so.others) }

pub quiet_both : (c : ℕ) (g h k : List Event) → IsQuiet c g h → IsQuiet c h k → IsQuiet c g k
quiet_both c g h k a b = record { grows = begins_both g h k a.grows b.grows; takes = takes_both c b.grows.rest a.grows.rest b.takes ∙ a.takes; shapes = both_shapes c b.grows.rest a.grows.rest b.shapes a.shapes }

-- for a caller whose number is written in another way
pub quiet_on : (c d : ℕ) (g h k : List Event) → d ≡ c → IsQuiet c g h → IsQuiet d h k → IsQuiet c g k
quiet_on c d g h k same a b = quiet_both c g h k a (subst (λ (z : ℕ). IsQuiet z h k) same b)
