-- What a call leaves that is no call of the history and may hold three nodes.
use Rattle.std.proofs.Common.{◌≡◌, ℕ, List, []}
use Rattle.ks_history.specs.declared.Event.{Event}
use Rattle.ks_history.specs.Done.{Template}
use Rattle.ks_history.specs.Own.{hand}
use Rattle.ks_history.specs.Laws.Underway.{left_of}
use Rattle.ks_shape.specs.Stretches.{Stretches}
use Rattle.ks_shape.specs.Leaves.{HasLeft}

pub has_left : (template : Template) (c : ℕ) (s0 s1 : List Event) → Stretches c s0 s1 → hand c s1 ≡ [] → HasLeft template c s0 s1
has_left template c s0 s1 so empty = λ op three. left_of template c op s0 s1 (so template op three) empty
