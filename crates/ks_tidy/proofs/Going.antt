-- What releasing and taking nodes of a path ensure.
use Rattle.std.proofs.Common.{ℕ, List, sym, subst}
use Rattle.std.specs.Prelude.{Option, Some, None}
use Rattle.ks_history.specs.declared.Event.{Event}
use Rattle.ks_arena.specs.declared.held.Held.{Held as Hand}
use Rattle.ks_shape.specs.OnPath.{GaveIf}
use Rattle.ks_shape.specs.Frees.{Frees}
use Rattle.ks_shape.specs.Laws.Frees.{frees_give, frees_here}

-- a release, if there is one, makes nothing free
pub frees_if : {N : Type 0} (c : ℕ) (o : Option (Hand N)) (h k : List Event) → GaveIf c o h k → Frees c h k 0
frees_if c None h k so = subst (λ (z : List Event). Frees c h z 0) (sym so) (frees_here c h)
frees_if c (Some y) h k so = frees_give c y.node h k so
