-- Puts and adds as one operation.
use Rattle.std.proofs.Common.{◌≤◌, ℕ, List, refl, arith}
use Rattle.std.specs.Prelude.{Result, Ok, Err}
use Rattle.ks_keysets.specs.Layout.{Layout}
use Rattle.ks_history.specs.declared.Event.{Event}
use Rattle.ks_history.specs.declared.Op.{Op}
use Rattle.ks_history.specs.Done.{Template, Done, most_held}
use Rattle.ks_history.specs.Map.{Touches}
use Rattle.ks_history.specs.Trace.{◌⊑◌}
use Rattle.ks_history.specs.Laws.Dues.{none_free_earlier}
use Rattle.ks_node.specs.Body.{Body}
use Rattle.ks_arena.specs.declared.held.Held.{Held as Hand}
use Rattle.ks_arena.specs.Sound.{Sort}
use Rattle.ks_shape.specs.declared.answers.Full.{Full}
use Rattle.ks_shape.specs.declared.answers.Numbered.{Numbered}
use Rattle.ks_shape.specs.declared.fills.Fill.{Fill}
use Rattle.ks_shape.specs.declared.fills.Fill.TheVariants.{Put, Add}
use Rattle.ks_shape.specs.Answers.{number_in, reply_in}
use Rattle.ks_shape.specs.Fills.{filling, not_later, FoundRoom, FullIsDue}
use Rattle.ks_shape.specs.Tries.{TriedPut}

-- it may hold three nodes
pub three_to_fill : (template : Template) (place : ℕ) (fill : Fill) → 3 ≤ most_held template (filling place fill)
three_to_fill template place (Put value) = omega arith
three_to_fill template place (Add value) = omega arith

-- it is at the place
pub fill_touches : (place : ℕ) (fill : Fill) → Touches (filling place fill) place
fill_touches place (Put value) = refl
fill_touches place (Add value) = refl

-- if no room was found since a moment, none was since an earlier one
pub full_is_due : {N : Type 0} (sort : Sort) (shows : N → Body) (n c place : ℕ) (start h k : List Event) (found : Result (Hand N) (Hand N)) → start ⊑ h → FoundRoom sort shows n c place h k found → FullIsDue sort.layout n c place start k found
full_is_due sort shows n c place start h k (Ok x) before so = tt
full_is_due sort shows n c place start h k (Err x) before so = none_free_earlier sort.layout n c place start h k before so.1

-- a call that is done was not put off
pub done_is_tried : (layout : Layout) (template : Template) (n c : ℕ) (op : Op) (s t : List Event) (answer : Result Numbered Full) → Done layout template n c op s t (reply_in answer) (number_in answer) → TriedPut layout template n c op s t (not_later answer)
done_is_tried layout template n c op s t (Ok answer) done = done
done_is_tried layout template n c op s t (Err full) done = done
