use Rattle.std.proofs.Common.{◌≡◌, ◌∙◌, ℕ, List, [], length, sym, refl, ap, subst, inl, inr, arith}
use Rattle.ks_keysets.specs.Record.{LeadsTo}
use Rattle.ks_history.specs.declared.Event.TheVariants.{Give}
use Rattle.ks_history.specs.Done.{coupling}
use Rattle.ks_history.specs.Own.{hand}
use Rattle.ks_history.specs.Passes.{Has, GrowsWith}
use Rattle.ks_history.specs.Underway.{Underway}
use Rattle.ks_history.specs.Laws.Begins.{by_others_begins, by_others_with, with_begins}
use Rattle.ks_history.specs.Laws.Descent.{busy_later}
use Rattle.ks_history.specs.Laws.Underway.{underway_others}
use Rattle.ks_node.specs.Edges.{record_of}
use Rattle.ks_node.specs.Laws.Ways.{next_leads}
use Rattle.ks_arena.specs.Sound.{sort_of}
use Rattle.ks_arena.specs.Clauses.{seen_of}
use Rattle.ks_shape.specs.Laws.Stretches.{stretches_as, stretches_both, stretches_others}
use Rattle.ks_shape.specs.Laws.Down.{busy_since}
use Rattle.ks_shape.specs.Laws.Search.{Laws}
use Rattle.ks_shape.proofs.Ways.{goes_down, down_stretch, down_under}
use Rattle.ks_shape.proofs.try_path.try_step_down.Given.{Over}
use Rattle.ks_shape.proofs.try_path.try_step_down.Goals as goal
use Rattle.ks_shape.proofs.try_path.try_step_down.Goals.{After-try_take, After-give_last}
use Rattle.ks_shape.specs.Does.{MaySearch}
use Rattle.ks_shape.specs.Laws.Does.{does_on, does_others, searches_take}

laws : (g : Over) (c : After-try_take g) → Laws (sort_of g.N.Node.layout g.N.Node.ranged) c.args.arena.now.table.shared.table_id.slots
laws g c = c.search_law.ensures (sort_of g.N.Node.layout g.N.Node.ranged) c.args.arena.now.table.shared.table_id.slots

leads : (g : Over) (c : After-try_take g) → LeadsTo (record_of (g.N.Node.body c.args.held.body)) c.args.place c.args.child
leads g c = next_leads (g.N.Node.body c.args.held.body) c.args.place c.args.child c.node_law.ensures.sound (omega (arith, c.ranges.place)) c.requires.goes

pub returns-in-Held-clause-path : goal.returns-in-Held-clause-path
returns-in-Held-clause-path g c = let at = (goal.at.returns-in-Held-clause-path g c).After-try_take in let e = c.in-Held.ensures in let way = c.requires.way in
    goes_down (sort_of g.N.Node.layout g.N.Node.ranged) g.N.Node.body c.args.arena.now.table.shared.table_id.slots c.args.pass.now.caller c.args.place c.args.child (laws g at) (seen_of c.args.pass.now) (seen_of c.try_take.new.pass) c.args.held c.in-Held.below c.requires.pass.sound e.pass.sound way (leads g at) e.took
    (e.rest.still c.args.held (subst (λ (z : List ℕ). Has z c.args.held.node) (sym way.alone) (inl refl)) way.matches)

pub returns-in-Held-clause-took : goal.returns-in-Held-clause-took
returns-in-Held-clause-took g c = (c.in-Held.ensures.took.node, c.in-Held.ensures.took.grows)

pub returns-in-Held-clause-stretch : goal.returns-in-Held-clause-stretch
returns-in-Held-clause-stretch g c = let at = (goal.at.returns-in-Held-clause-stretch g c).After-try_take in let e = c.in-Held.ensures in
    down_stretch (sort_of g.N.Node.layout g.N.Node.ranged) g.N.Node.body c.args.arena.now.table.shared.table_id.slots c.args.pass.now.caller c.args.place c.args.child (laws g at) (seen_of c.args.pass.now) (seen_of c.try_take.new.pass) c.args.held c.in-Held.below c.requires.pass.sound e.pass.sound c.requires.way (leads g at) e.took

pub returns-in-Held-clause-under : goal.returns-in-Held-clause-under
returns-in-Held-clause-under g c = λ op start under. let at = (goal.at.returns-in-Held-clause-under g c).After-try_take in let e = c.in-Held.ensures in
    down_under (sort_of g.N.Node.layout g.N.Node.ranged) g.N.Node.body c.args.arena.now.table.shared.table_id.slots c.args.pass.now.caller c.args.place c.args.child (laws g at) (seen_of c.args.pass.now) (seen_of c.try_take.new.pass) c.args.held c.in-Held.below c.requires.pass.sound e.pass.sound c.requires.way (leads g at) e.took op start under

-- if another caller holds the child

gave : (g : Over) (c : After-give_last g) → GrowsWith c.args.pass.now.caller (Give c.args.pass.now.caller c.args.held.node) (seen_of c.try_take.new.pass) (seen_of c.give_last.new.pass)
gave g c = subst (λ (z : ℕ). GrowsWith z (Give z c.args.held.node) (seen_of c.try_take.new.pass) (seen_of c.give_last.new.pass)) c.in-Busy.ensures.caller c.give_last.ensures.gave

pub returns-in-Busy-clause-path : goal.returns-in-Busy-clause-path
returns-in-Busy-clause-path g c = let k = seen_of c.give_last.new.pass in subst (λ (z : ℕ). hand z k ≡ []) (c.give_last.ensures.caller ∙ c.in-Busy.ensures.caller) c.give_last.ensures.pass.1

pub returns-in-Busy-clause-took : goal.returns-in-Busy-clause-took
returns-in-Busy-clause-took g c = let me : ℕ = c.args.pass.now.caller in
    by_others_with me (Give me c.args.held.node) (seen_of c.args.pass.now) (seen_of c.try_take.new.pass) (seen_of c.give_last.new.pass) c.in-Busy.ensures.took.0.grows (gave g (goal.at.returns-in-Busy-clause-took g c).After-give_last)

pub returns-in-Busy-clause-busy : goal.returns-in-Busy-clause-busy
returns-in-Busy-clause-busy g c = λ start since op touched. let after = (goal.at.returns-in-Busy-clause-busy g c).After-give_last in let me : ℕ = c.args.pass.now.caller in let h = seen_of c.args.pass.now in let h₁ = seen_of c.try_take.new.pass in let h₂ = seen_of c.give_last.new.pass in let next = c.child_law.ensures in let took = c.in-Busy.ensures.took in let i : ℕ = c.args.held.node in let j : ℕ = c.args.child in let d : ℕ = c.in-Busy.holder in
    busy_later me j d op start h₁ h₂ (with_begins me (Give me i) h₁ h₂ (gave g after))
    (busy_since me j d c.args.place op start h h₁ since (by_others_begins me h h₁ took.0.grows) touched (inr (i, next.node, next.is, next.leads)) took.1 took.2)

pub returns-in-Busy-clause-under : goal.returns-in-Busy-clause-under
returns-in-Busy-clause-under g c = λ op start under. let h₁ = seen_of c.try_take.new.pass in let h₂ = seen_of c.give_last.new.pass in
    subst (λ (z : ℕ). Underway coupling z op start h₁ → Underway coupling z op start h₂) c.in-Busy.ensures.caller (c.give_last.ensures.under coupling op start) (underway_others coupling c.args.pass.now.caller op start (seen_of c.args.pass.now) h₁ c.in-Busy.ensures.took.0.grows under)

pub returns-in-Busy-clause-stretch : goal.returns-in-Busy-clause-stretch
returns-in-Busy-clause-stretch g c = let me : ℕ = c.args.pass.now.caller in let h = seen_of c.args.pass.now in let h₁ = seen_of c.try_take.new.pass in let h₂ = seen_of c.give_last.new.pass in
    stretches_both me h h₁ h₂ (stretches_others me h h₁ (omega (arith, ap length c.requires.way.alone)) c.in-Busy.ensures.took.0.grows) (stretches_as me c.try_take.new.pass.caller h₁ h₂ c.in-Busy.ensures.caller c.give_last.ensures.stretch)

pub returns-in-Held-clause-leaves : goal.returns-in-Held-clause-leaves
returns-in-Held-clause-leaves g c = searches_take c.args.pass.now.caller c.args.child (seen_of c.args.pass.now) (seen_of c.try_take.new.pass) c.in-Held.ensures.took.grows

pub returns-in-Busy-clause-leaves : goal.returns-in-Busy-clause-leaves
returns-in-Busy-clause-leaves g c = let me : ℕ = c.args.pass.now.caller in let h = seen_of c.args.pass.now in let h₁ = seen_of c.try_take.new.pass in
    does_on MaySearch me c.try_take.new.pass.caller h h₁ (seen_of c.give_last.new.pass) c.in-Busy.ensures.caller (does_others MaySearch me h h₁ c.in-Busy.ensures.took.0.grows) c.give_last.ensures.leaves
