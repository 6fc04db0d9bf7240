use Rattle.std.proofs.Common.{◌≡◌, ℕ, List, [], ◌∷◌, sym, ap, ◌∙◌, subst}
use Rattle.ks_history.specs.declared.Event.{Event}
use Rattle.ks_history.specs.declared.Event.TheVariants.{Give, Take}
use Rattle.ks_history.specs.Own.{hand}
use Rattle.ks_history.specs.Done.{link_move, first_taken}
use Rattle.ks_history.specs.Laws.Begins.{with_begins}
use Rattle.ks_history.specs.Laws.Underway.{underway_others}
use Rattle.ks_history.specs.Passes.{GrowsWith}
use Rattle.ks_history.specs.Underway.{Underway}
use Rattle.ks_arena.specs.Sound.{sort_of}
use Rattle.ks_arena.specs.Clauses.{HasTaken, seen_of}
use Rattle.ks_arena.specs.Visits.{held_at}
use Rattle.ks_shape.specs.Does.{MaySearch}
use Rattle.ks_shape.specs.Laws.Does.{does_on, does_others, searches_take}
use Rattle.ks_shape.specs.Laws.Hinted.{begins_on, begins_taking}
use Rattle.ks_shape.specs.Laws.Located.{begins_gone}
use Rattle.ks_shape.specs.Laws.Makes.{makes_both, makes_others, makes_with}
use Rattle.ks_shape.specs.Laws.Single.{takes}
use Rattle.ks_shape.specs.Makes.{MakesNone}
use Rattle.ks_link.proofs.near.begin_at.Given.{Over}
use Rattle.ks_link.proofs.near.begin_at.Goals as goal
use Rattle.ks_link.proofs.near.begin_at.Goals.{After-range-range}

-- the pass is the same once the range has been read
from : (g : Over) (c : After-range-range g) → c.range-range.new.pass.caller ≡ c.args.pass.now.caller
from g c = ap (λ p. p.caller) c.range-range.ensures.same ∙ c.in-Some.ensures.caller

took : (g : Over) (c : After-range-range g) → HasTaken (sort_of g.N.Node.layout g.N.Node.ranged) g.N.Node.body c.args.pass.now.caller c.args.node (seen_of c.args.pass.now) (seen_of c.range-range.new.pass) (held_at c.in-Some.visited)
took g c = subst (λ (z : List Event). HasTaken (sort_of g.N.Node.layout g.N.Node.ranged) g.N.Node.body c.args.pass.now.caller c.args.node (seen_of c.args.pass.now) z (held_at c.in-Some.visited)) (sym (ap seen_of c.range-range.ensures.same)) c.in-Some.ensures.took

pub leave_last-requires-clause-alone : goal.leave_last-requires-clause-alone
leave_last-requires-clause-alone g c κs within = let at = (goal.at.leave_last-requires-clause-alone g c).After-range-range in let t = took g at in let i : ℕ = c.in-Some.visited.node in
    subst (λ (z : ℕ). hand z (seen_of c.range-range.new.pass) ≡ i ∷ []) (sym (from g at)) (t.hand ∙ ap (λ (z : List ℕ). c.args.node ∷ z) c.requires.pass.1 ∙ ap (λ (z : ℕ). z ∷ []) (sym t.node))

-- free

pub returns-in_default-clause-came : goal.returns-in_default-clause-came
returns-in_default-clause-came g c = let told = rw c.in_default.is at c.visit.ensures.took in
    let stays : hand c.args.pass.now.caller (seen_of c.visit.new.pass) ≡ hand c.args.pass.now.caller (seen_of c.args.pass.now) = told.0.hand in
    stays ∙ c.requires.pass.1

pub returns-in_default-clause-first : goal.returns-in_default-clause-first
returns-in_default-clause-first g c = let told = rw c.in_default.is at c.visit.ensures.took in begins_gone c.args.arena.now.nodes c.args.pass.now.caller c.args.node (seen_of c.args.pass.now) (seen_of c.visit.new.pass) told.0.grows told.1

pub returns-in_default-clause-under : goal.returns-in_default-clause-under
returns-in_default-clause-under g c = λ op start under. let told = rw c.in_default.is at c.visit.ensures.took in underway_others link_move c.args.pass.now.caller op start (seen_of c.args.pass.now) (seen_of c.visit.new.pass) told.0.grows under

pub returns-in_default-clause-leaves : goal.returns-in_default-clause-leaves
returns-in_default-clause-leaves g c = let told = rw c.in_default.is at c.visit.ensures.took in does_others MaySearch c.args.pass.now.caller (seen_of c.args.pass.now) (seen_of c.visit.new.pass) told.0.grows

pub returns-in_default-clause-makes : goal.returns-in_default-clause-makes
returns-in_default-clause-makes g c = let told = rw c.in_default.is at c.visit.ensures.took in makes_others c.args.pass.now.caller (seen_of c.args.pass.now) (seen_of c.visit.new.pass) told.0.grows

-- kept

pub returns-then-range-place-clause-first : goal.returns-then-range-place-clause-first
returns-then-range-place-clause-first g c = let t = took g (goal.at.returns-then-range-place-clause-first g c).After-range-range in begins_taking c.args.arena.now.nodes c.args.pass.now.caller c.args.node (seen_of c.args.pass.now) (seen_of c.range-range.new.pass) t.grows

pub returns-then-range-place-clause-under : goal.returns-then-range-place-clause-under
returns-then-range-place-clause-under g c = λ op start under. let t = took g (goal.at.returns-then-range-place-clause-under g c).After-range-range in
    takes (sort_of g.N.Node.layout g.N.Node.ranged) g.N.Node.body link_move c.args.pass.now.caller c.args.node op start (seen_of c.args.pass.now) (seen_of c.range-range.new.pass) (held_at c.in-Some.visited) (λ k e. first_taken e tt) c.requires.pass.1 t under

pub returns-then-range-place-clause-leaves : goal.returns-then-range-place-clause-leaves
returns-then-range-place-clause-leaves g c = let t = took g (goal.at.returns-then-range-place-clause-leaves g c).After-range-range in searches_take c.args.pass.now.caller c.args.node (seen_of c.args.pass.now) (seen_of c.range-range.new.pass) t.grows

pub returns-then-range-place-clause-makes : goal.returns-then-range-place-clause-makes
returns-then-range-place-clause-makes g c = let t = took g (goal.at.returns-then-range-place-clause-makes g c).After-range-range in makes_with c.args.pass.now.caller (Take c.args.pass.now.caller c.args.node) (seen_of c.args.pass.now) (seen_of c.range-range.new.pass) tt t.grows

-- released again

pub returns-clause-came : goal.returns-clause-came
returns-clause-came g c = let at = (goal.at.returns-clause-came g c).After-range-range in subst (λ (z : ℕ). hand z (seen_of c.leave_last.new.pass) ≡ []) (c.leave_last.ensures.caller ∙ from g at) c.leave_last.ensures.pass.1

pub returns-clause-first : goal.returns-clause-first
returns-clause-first g c = let at = (goal.at.returns-clause-first g c).After-range-range in let t = took g at in let me : ℕ = c.args.pass.now.caller in let h = seen_of c.args.pass.now in let h₁ = seen_of c.range-range.new.pass in let h₂ = seen_of c.leave_last.new.pass in let i : ℕ = c.in-Some.visited.node in
    begins_on c.args.arena.now.nodes me c.args.node h h₁ h₂ (with_begins me (Take me c.args.node) h h₁ t.grows) (with_begins me (Give me i) h₁ h₂ (subst (λ (z : ℕ). GrowsWith z (Give z i) h₁ h₂) (from g at) c.leave_last.ensures.gave))
    (begins_taking c.args.arena.now.nodes me c.args.node h h₁ t.grows)

pub returns-clause-under : goal.returns-clause-under
returns-clause-under g c = λ op start under. let at = (goal.at.returns-clause-under g c).After-range-range in let t = took g at in let me : ℕ = c.args.pass.now.caller in let h₁ = seen_of c.range-range.new.pass in
    subst (λ (z : ℕ). Underway link_move z op start (seen_of c.leave_last.new.pass)) (from g at) (c.leave_last.ensures.under link_move op start (subst (λ (z : ℕ). Underway link_move z op start h₁) (sym (from g at))
    (takes (sort_of g.N.Node.layout g.N.Node.ranged) g.N.Node.body link_move me c.args.node op start (seen_of c.args.pass.now) h₁ (held_at c.in-Some.visited) (λ k q. first_taken q tt) c.requires.pass.1 t under)))

pub returns-clause-leaves : goal.returns-clause-leaves
returns-clause-leaves g c = let at = (goal.at.returns-clause-leaves g c).After-range-range in let t = took g at in let me : ℕ = c.args.pass.now.caller in let h = seen_of c.args.pass.now in let h₁ = seen_of c.range-range.new.pass in
    does_on MaySearch me c.range-range.new.pass.caller h h₁ (seen_of c.leave_last.new.pass) (from g at) (searches_take me c.args.node h h₁ t.grows) c.leave_last.ensures.leaves

pub returns-clause-makes : goal.returns-clause-makes
returns-clause-makes g c = let at = (goal.at.returns-clause-makes g c).After-range-range in let t = took g at in let me : ℕ = c.args.pass.now.caller in let h = seen_of c.args.pass.now in let h₁ = seen_of c.range-range.new.pass in let h₂ = seen_of c.leave_last.new.pass in let i : ℕ = c.in-Some.visited.node in
    makes_both me h h₁ h₂ (with_begins me (Take me c.args.node) h h₁ t.grows) (with_begins me (Give me i) h₁ h₂ (subst (λ (z : ℕ). GrowsWith z (Give z i) h₁ h₂) (from g at) c.leave_last.ensures.gave))
    (makes_with me (Take me c.args.node) h h₁ tt t.grows) (subst (λ (z : ℕ). MakesNone z h₁ h₂) (from g at) c.leave_last.ensures.makes)
