-- Stretches of a call that are such by every technique: what a search under trees does, which begins at the root.
use Rattle.std.proofs.Common.{◌≡◌, ℕ, ◌≤◌, List, [], ◌++◌, length, sym, refl, ◌∙◌, subst, ap, arith}
use Rattle.ks_keysets.specs.declared.Change.{Change}
use Rattle.ks_history.specs.declared.Event.{Event}
use Rattle.ks_history.specs.declared.Event.TheVariants.{Take, Give, Shape}
use Rattle.ks_history.specs.declared.Op.{Op}
use Rattle.ks_history.specs.Trace.{◌⊑◌}
use Rattle.ks_history.specs.Own.{hand}
use Rattle.ks_history.specs.Passes.{GrowsByOthers, GrowsWith}
use Rattle.ks_history.specs.Done.{Template, coupling, give_up, link_move, MayBegin, MayTake}
use Rattle.ks_history.specs.Laws.Stretch.{stretch_both, stretch_here, stretch_others, stretch_give, stretch_shape, stretch_take, stretch_first, stretch_begins}
use Rattle.ks_history.specs.Underway.{Underway}
use Rattle.ks_history.specs.Laws.Underway.{underway_both}
use Rattle.ks_shape.specs.declared.fills.Fill.{Fill}
use Rattle.ks_shape.specs.Fills.{filling}
use Rattle.ks_shape.specs.Laws.Fills.{three_to_fill}
use Rattle.ks_shape.specs.Stretches.{Stretches}

pub stretches_both : (c : ℕ) (g h k : List Event) → Stretches c g h → Stretches c h k → Stretches c g k
stretches_both c g h k a b = λ template. stretch_both template c g h k (a template) (b template)

pub stretches_here : (c : ℕ) (h : List Event) → length (hand c h) ≤ 3 → Stretches c h h
stretches_here c h few = λ template. stretch_here template c h h few

pub stretches_others : (c : ℕ) (h k : List Event) → length (hand c h) ≤ 3 → GrowsByOthers c h k → Stretches c h k
stretches_others c h k few grows = λ template. stretch_others template c h k few grows

pub stretches_begins : (c : ℕ) (h k : List Event) → Stretches c h k → h ⊑ k
stretches_begins c h k so = stretch_begins coupling c h k (so coupling)

-- one event of its own
pub stretches_give : (c i : ℕ) (h k : List Event) → length (hand c h) ≤ 3 → GrowsWith c (Give c i) h k → Stretches c h k
stretches_give c i h k few gave = λ template. stretch_give template c h k i few gave

pub stretches_take : (c i : ℕ) (h k : List Event) → length (hand c h) ≤ 3 → length (hand c k) ≤ 3 → (so : GrowsWith c (Take c i) h k) → ((template : Template) (op : Op) → MayTake template op (so.rest ++ h) c i) → Stretches c h k
stretches_take c i h k few after so may = λ template. stretch_take template c h k i few after so (may template)

-- every technique may begin at the root
pub root_begins : (template : Template) → MayBegin template 0
root_begins coupling = refl
root_begins give_up = tt
root_begins link_move = tt

pub stretches_root : (c : ℕ) (h k : List Event) → hand c h ≡ [] → length (hand c k) ≤ 3 → GrowsWith c (Take c 0) h k → Stretches c h k
stretches_root c h k empty after so = λ template. stretch_first template c h k 0 (root_begins template) empty after so

-- for a caller whose number is written in another way
pub stretches_as : (c d : ℕ) (h k : List Event) → d ≡ c → Stretches d h k → Stretches c h k
stretches_as c d h k same so = subst (λ (z : ℕ). Stretches z h k) same so

pub stretches_on : (a b : ℕ) (s h k : List Event) → b ≡ a → Stretches a s h → Stretches a h k → Stretches b s k
stretches_on a b s h k same so on = stretches_as b a s k (sym same) (stretches_both a s h k so on)

pub stretches_shape : (me c d : ℕ) {changes : List Change} (h k : List Event) → c ≡ me → d ≡ c → length (hand me h) ≤ 3 → hand d k ≡ hand c h → GrowsWith c (Shape c changes) h k → Stretches me h k
stretches_shape me c d {changes} h k same same' few hands shaped = λ template.
    let kept : hand me k ≡ hand me h = subst (λ (z : ℕ). hand z k ≡ hand me h) (same' ∙ same) (subst (λ (z : ℕ). hand d k ≡ hand z h) same hands) in
    let grows : GrowsWith me (Shape me changes) h k = subst (λ (z : ℕ). GrowsWith z (Shape z changes) h k) same shaped in
    stretch_shape template me h k changes few (omega (arith, few, ap length kept)) grows

-- a put and an add continue by them
pub fill_goes_on : (template : Template) (c p : ℕ) (fill : Fill) (s h k : List Event) → Underway template c (filling p fill) s h → Stretches c h k → Underway template c (filling p fill) s k
fill_goes_on template c p fill s h k under so = underway_both template c (filling p fill) s h k under (so template (filling p fill) (three_to_fill template p fill))
