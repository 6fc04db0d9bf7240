-- When an edge can be added, if that is when none starts at the cut and another condition holds.
use Rattle.std.specs.Prelude.{◌≡◌, Bool, true, false, not, ◌&&◌, IsTrue, refl}

pub not_this : (a x : Bool) → IsTrue (not a && x) → a ≡ false
not_this true x t = absurd (let no : ⊥ = cc in no)
not_this false x t = refl

pub not_that : (k a x : Bool) → IsTrue (k && (not a && x)) → a ≡ false
not_that true a x t = not_this a x t
not_that false a x t = absurd (let no : ⊥ = cc in no)
