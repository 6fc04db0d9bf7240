-- Stretches of a call: what its caller does from one moment to a later one, if it makes no call.
use Rattle.std.proofs.Common.{◌≡◌, ℕ, ◌≤◌, List, [], ◌∷◌, ◌++◌, length, cond, Bool, true, false, ◌==◌, ap, ◌∙◌, arith}
use Rattle.ks_keysets.specs.declared.Change.{Change}
use Rattle.ks_history.specs.declared.Op.{Op}
use Rattle.ks_history.specs.declared.Op.TheVariants.{Put}
use Rattle.ks_history.specs.declared.Event.{Event}
use Rattle.ks_history.specs.declared.Event.TheVariants.{Take, Give, Claim, Shape}
use Rattle.ks_history.specs.Trace.{◌⊑◌}
use Rattle.ks_history.specs.Own.{hand, drop_one}
use Rattle.ks_history.specs.Passes.{GrowsByOthers, GrowsWith}
use Rattle.ks_history.specs.Done.{Template, MayBegin, MayTake, first_taken, most_held}
use Rattle.ks_history.specs.Laws.Underway.{underway_others, underway_with, underway_both, underway_here}
use Rattle.ks_history.specs.Laws.Begins.{by_others_hand, with_others, give_hand}
use Rattle.ks_history.specs.Stretch.{Stretch}

-- the list without one of its entries is no longer than it
pub dropped_few : (i : ℕ) (xs : List ℕ) → length (drop_one i xs) ≤ length xs
dropped_few i [] = omega arith
dropped_few i (x ∷ xs) = either (x == i) (dropped_few i xs)
  where
    either : (b : Bool) → length (drop_one i xs) ≤ length xs → length (cond b xs (x ∷ drop_one i xs)) ≤ length (x ∷ xs)
    either true rest = omega arith
    either false rest = omega (arith, rest)

-- two stretches that meet are one
pub stretch_both : (template : Template) (c : ℕ) (g h k : List Event) → Stretch template c g h → Stretch template c h k → Stretch template c g k
stretch_both template c g h k a b = λ op three. underway_both template c op g h k (a op three) (b op three)

-- by each template a put may hold three nodes
three_held : (template : Template) → 3 ≤ most_held template (Put 0 0)
three_held template = omega arith

pub stretch_begins : (template : Template) (c : ℕ) (h k : List Event) → Stretch template c h k → h ⊑ k
stretch_begins template c h k so = let under = so (Put 0 0) (three_held template) in record { rest = under.rest; is = under.is }

-- no step, steps of others, and one step of its own
module _ (template : Template) (c : ℕ) (h k : List Event) where
  pub stretch_here : length (hand c h) ≤ 3 → Stretch template c h h
  stretch_here few = λ op three. underway_here template c op h (omega (arith, few, three))

  pub stretch_others : length (hand c h) ≤ 3 → GrowsByOthers c h k → Stretch template c h k
  stretch_others few so = λ op three. underway_others template c op h h k so (underway_here template c op h (omega (arith, few, three)))

  pub stretch_give : (i : ℕ) → length (hand c h) ≤ 3 → GrowsWith c (Give c i) h k → Stretch template c h k
  stretch_give i few so = λ op three. underway_with template c op (Give c i) h h k tt so tt (omega (arith, few, three, ap length (give_hand c i h k so), dropped_few i (hand c h))) (underway_here template c op h (omega (arith, few, three)))

  pub stretch_claim : (i : ℕ) → length (hand c h) ≤ 3 → length (hand c k) ≤ 3 → GrowsWith c (Claim c i) h k → Stretch template c h k
  stretch_claim i few after so = λ op three. underway_with template c op (Claim c i) h h k tt so tt (omega (arith, after, three)) (underway_here template c op h (omega (arith, few, three)))

  pub stretch_shape : (changes : List Change) → length (hand c h) ≤ 3 → length (hand c k) ≤ 3 → GrowsWith c (Shape c changes) h k → Stretch template c h k
  stretch_shape changes few after so = λ op three. underway_with template c op (Shape c changes) h h k tt so tt (omega (arith, after, three)) (underway_here template c op h (omega (arith, few, three)))

  -- a node that it may take
  pub stretch_take : (i : ℕ) → length (hand c h) ≤ 3 → length (hand c k) ≤ 3 → (so : GrowsWith c (Take c i) h k) → ((op : Op) → MayTake template op (so.rest ++ h) c i) → Stretch template c h k
  stretch_take i few after so may = λ op three. underway_with template c op (Take c i) h h k tt so (λ same. may op) (omega (arith, after, three)) (underway_here template c op h (omega (arith, few, three)))

  -- the first node that it takes
  pub stretch_first : (i : ℕ) → MayBegin template i → hand c h ≡ [] → length (hand c k) ≤ 3 → GrowsWith c (Take c i) h k → Stretch template c h k
  stretch_first i begin empty after so = stretch_take i (omega (arith, ap length empty)) after so (λ op. first_taken (by_others_hand c h (so.rest ++ h) (with_others c (Take c i) h k so) ∙ empty) begin)
