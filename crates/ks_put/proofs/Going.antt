-- A refusal still holds as a search goes on, with the caller's number restated after each step.
use Rattle.std.proofs.Common.{◌≡◌, ◌∙◌, ℕ, List, sym, subst, arith}
use Rattle.std.specs.Prelude.{IsTrue, None, Result, Ok, Err}
use Rattle.ks_keysets.specs.Layout.{Layout}
use Rattle.ks_history.specs.declared.Event.{Event}
use Rattle.ks_history.specs.declared.Op.TheVariants.{Put}
use Rattle.ks_history.specs.Done.{Template, Done, coupling}
use Rattle.ks_history.specs.Due.{NoneFree}
use Rattle.ks_history.specs.Laws.Dues.{none_free_earlier, none_free_later}
use Rattle.ks_history.specs.Passes.{NoCallBy}
use Rattle.ks_history.specs.Underway.{Underway}
use Rattle.ks_node.specs.Body.{Body, value_at}
use Rattle.ks_node.specs.Room.{is_full}
use Rattle.ks_arena.specs.declared.held.Held.{Held as Hand}
use Rattle.ks_arena.specs.Sound.{Sort}
use Rattle.ks_shape.specs.declared.answers.Full.{Full}
use Rattle.ks_shape.specs.declared.answers.Numbered.{Numbered}
use Rattle.ks_shape.specs.declared.fills.Fill.{Fill}
use Rattle.ks_shape.specs.Answers.{number_in, reply_in}
use Rattle.ks_shape.specs.Fills.{filling, EndsForRoom, FoundRoom, FullIsDue}
use Rattle.ks_shape.specs.SearchEnd.{IsEnd, LacksPlace, TakesPlace}
use Rattle.ks_shape.specs.Stretches.{Stretches}
use Rattle.ks_shape.specs.Laws.Fills.{full_is_due}
use Rattle.ks_shape.specs.Laws.Stretches.{fill_goes_on, stretches_begins}
use Rattle.ks_shape.specs.declared.path.Path.{Path}
use Rattle.ks_shape.specs.OnPath.{IsOnPath}
use Rattle.ks_put.specs.declared.halves.Part.{Part}
use Rattle.ks_put.specs.declared.halves.Part.TheVariants.{Split, Refused, Shut}
use Rattle.ks_put.specs.Parts.{DidPart}

pub on_was : (layout : Layout) (n p a b : ℕ) (s h k : List Event) → b ≡ a → Stretches a h k → NoneFree layout n a p s h → NoneFree layout n b p s k
on_was layout n p a b s h k same so was = subst (λ (z : ℕ). NoneFree layout n z p s k) (sym same) (none_free_later layout n a p s h k (stretches_begins a h k so) was)

pub new_was : (layout : Layout) (n p a b : ℕ) (s h k : List Event) → b ≡ a → Stretches a s h → NoneFree layout n a p h k → NoneFree layout n b p s k
new_was layout n p a b s h k same so was = subst (λ (z : ℕ). NoneFree layout n z p s k) (sym same) (none_free_earlier layout n a p s h k (stretches_begins a s h so) was)

-- where a search for room has ended at the node x
module _ {N : Type 0} (sort : Sort) (shows : N → Body) (n p a b : ℕ) (s k : List Event) (x y : Hand N) (same : b ≡ a) (node : y ≡ x) (ends : IsEnd sort shows b p k y) where
  pub found_room : TakesPlace sort.layout (shows x.body) p → FoundRoom sort shows n a p s k (Ok y)
  found_room takes = record {
    ends = subst (λ (z : ℕ). IsEnd sort shows z p k y) same ends;
    room = subst (λ (z : Hand N). TakesPlace sort.layout (shows z.body) p) (sym node) takes;
  }

  pub found_none : LacksPlace sort.layout (shows x.body) p → NoneFree sort.layout n a p s k → FoundRoom sort shows n a p s k (Err y)
  found_none lacks none = (
    record {
      ends = subst (λ (z : ℕ). IsEnd sort shows z p k y) same ends;
      absent = subst (λ (z : Hand N). value_at (shows z.body).pairs p ≡ None) (sym node) lacks.0;
      full = subst (λ (z : Hand N). IsTrue (is_full sort.layout (shows z.body))) (sym node) lacks.1;
    },
    none,
  )

-- so its search has ended, and what is decided there is done
pub ended_since : {N : Type 0} (sort : Sort) (shows : N → Body) (n p a b : ℕ) (h k : List Event) (found : Result (Hand N) (Hand N)) → b ≡ a → Stretches a h k → FoundRoom sort shows n a p h k found → EndsForRoom sort shows n b p k found
ended_since sort shows n p a b h k found same so room =
    let under : Underway coupling a (Put 0 0) h k = so coupling (Put 0 0) (omega arith) in
    (h, record { rest = under.rest; is = under.is }, subst (λ (z : ℕ). NoCallBy z under.rest) (sym same) under.none, subst (λ (z : ℕ). FoundRoom sort shows n z p h k found) (sym same) room)

pub filled_since : {N : Type 0} (sort : Sort) (shows : N → Body) (template : Template) (n p a b : ℕ) (fill : Fill) (s h k l : List Event) (found : Result (Hand N) (Hand N)) (answer : Result Numbered Full) → b ≡ a → Stretches a h k → FoundRoom sort shows n a p h k found → Underway template a (filling p fill) s h → (Underway template b (filling p fill) s k → FullIsDue sort.layout n b p s k found → Done sort.layout template n b (filling p fill) s l (reply_in answer) (number_in answer)) → Done sort.layout template n a (filling p fill) s l (reply_in answer) (number_in answer)
filled_since sort shows template n p a b fill s h k l found answer same so room under done =
    subst (λ (z : ℕ). Underway template z (filling p fill) s k → FullIsDue sort.layout n z p s k found → Done sort.layout template n z (filling p fill) s l (reply_in answer) (number_in answer)) same done
    (fill_goes_on template a p fill s h k under so)
    (full_is_due sort shows n a p s h k found (record { rest = under.rest; is = under.is }) room)

-- a try to split the node of a path, after its caller released the parent
pub part_since : {N : Type 0} (sort : Sort) (shows : N → Body) (n p a b : ℕ) (s h k : List Event) (path x : Path N) (part : Part N) → b ≡ a → Stretches a s h → x.node ≡ path.node → DidPart sort shows n b p h k x part → DidPart sort shows n a p s k path part
part_since sort shows n p a b s h k path x (Split y) same so node did = subst (λ (z : ℕ). IsOnPath sort shows z p k y) same did
part_since sort shows n p a b s h k path x (Refused y) same so node did = (
  did.0 ∙ node,
  subst (λ (z : ℕ). IsOnPath sort shows z p k y) same did.1,
  none_free_earlier sort.layout n a p s h k (stretches_begins a s h so) (subst (λ (z : ℕ). NoneFree sort.layout n z p h k) same did.2),
)
part_since sort shows n p a b s h k path x (Shut y) same so node did = (did.0 ∙ node, subst (λ (z : ℕ). IsOnPath sort shows z p k y) same did.1)
