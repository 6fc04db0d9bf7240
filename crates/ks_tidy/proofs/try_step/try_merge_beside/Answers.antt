use Rattle.std.proofs.Common.{◌∙◌, ℕ, true, List, length, arith, refl, sym, ap, subst, inl, inr}
use Rattle.std.specs.Prelude.{Some}
use Rattle.ks_history.specs.Passes.{Has}
use Rattle.ks_arena.specs.Sound.{sort_of}
use Rattle.ks_arena.specs.Clauses.{seen_of}
use Rattle.ks_shape.specs.Laws.Stretches.{stretches_as, stretches_both}
use Rattle.ks_shape.specs.Laws.Search.{Laws}
use Rattle.ks_shape.specs.Laws.Frees.{frees_others, frees_take}
use Rattle.ks_tidy.specs.Pair.{DidStep, IsPair, IsTrio, path_in}
use Rattle.ks_tidy.proofs.Trio.{frees_after, pair_stays, trio_took}
use Rattle.ks_shape.specs.Laws.Does.{search_dels_on, searched_dels}
use Rattle.ks_tidy.proofs.try_step.try_merge_beside.Given.{Over}
use Rattle.ks_tidy.proofs.try_step.try_merge_beside.Goals as goal
use Rattle.ks_tidy.proofs.try_step.try_merge_beside.Goals.{After-try_take_led}

laws : (g : Over) (c : After-try_take_led g) → Laws (sort_of g.N.Node.layout g.N.Node.ranged) c.args.arena.now.table.shared.table_id.slots
laws g c = c.search_law.ensures (sort_of g.N.Node.layout g.N.Node.ranged) c.args.arena.now.table.shared.table_id.slots

pub try_take_led-requires-clause-above : goal.try_take_led-requires-clause-above
try_take_led-requires-clause-above g c = let path = c.requires.pair.path in record { has = subst (λ (z : List ℕ). Has z c.args.parent.node) (sym path.hands) (inr (inl refl)); live = path.under.live; matches = path.under.matches }

pub try_take_led-requires-clause-few : goal.try_take_led-requires-clause-few
try_take_led-requires-clause-few g c = omega (arith, ap length c.requires.pair.path.hands)

pub join_beside-requires-clause-trio : goal.join_beside-requires-clause-trio
join_beside-requires-clause-trio g c = let at = (goal.at.join_beside-requires-clause-trio g c).After-try_take_led in let sort = sort_of g.N.Node.layout g.N.Node.ranged in let me : ℕ = c.args.pass.now.caller in let h = seen_of c.args.pass.now in let k = seen_of c.try_take_led.new.pass in let e = c.try_take_led.ensures in let took = c.in-Some.ensures.took in
    subst (λ (z : ℕ). IsTrio sort g.N.Node.body z c.args.place k (record { parent = Some c.args.parent; node = c.args.node }) c.in-Some.right) (sym e.caller)
    (trio_took sort g.N.Node.body c.args.arena.now.table.shared.table_id.slots me c.args.place c.args.target (laws g at) h k (record { parent = Some c.args.parent; node = c.args.node }) c.in-Some.right c.requires.pass.sound e.pass.sound c.requires.pair took e.rest.still)

pub join_beside-requires-clause-beside : goal.join_beside-requires-clause-beside
join_beside-requires-clause-beside g c = c.requires.beside ∙ ap (λ (z : ℕ). Some z) (sym c.in-Some.ensures.took.node)

pub returns-in-Some-clause-pair : goal.returns-in-Some-clause-pair
returns-in-Some-clause-pair g c = subst (λ (z : ℕ). IsPair (sort_of g.N.Node.layout g.N.Node.ranged) g.N.Node.body z c.args.place (seen_of c.join_beside.new.pass) (path_in c.join_beside.result)) c.try_take_led.ensures.caller c.join_beside.ensures.pair

pub returns-in-Some-clause-stretch : goal.returns-in-Some-clause-stretch
returns-in-Some-clause-stretch g c = let me : ℕ = c.args.pass.now.caller in let h = seen_of c.args.pass.now in let h₁ = seen_of c.try_take_led.new.pass in let k = seen_of c.join_beside.new.pass in
    stretches_both me h h₁ k c.try_take_led.ensures.stretch (stretches_as me c.try_take_led.new.pass.caller h₁ k c.try_take_led.ensures.caller c.join_beside.ensures.stretch)

pub returns-in-Some-clause-frees : goal.returns-in-Some-clause-frees
returns-in-Some-clause-frees g c = let sort = sort_of g.N.Node.layout g.N.Node.ranged in let me : ℕ = c.args.pass.now.caller in let h = seen_of c.args.pass.now in let h₁ = seen_of c.try_take_led.new.pass in let k = seen_of c.join_beside.new.pass in let r = c.join_beside.result in
    frees_after sort g.N.Node.body me h h₁ k (record { parent = Some c.args.parent; node = c.args.node }) r (frees_take me c.args.target h h₁ c.in-Some.ensures.took.grows)
    (subst (λ (z : ℕ). DidStep sort g.N.Node.body z h₁ k true (record { parent = Some c.args.parent; node = c.args.node }) r) c.try_take_led.ensures.caller c.join_beside.ensures.step)

pub returns-in-None-clause-pair : goal.returns-in-None-clause-pair
returns-in-None-clause-pair g c = let at = (goal.at.returns-in-None-clause-pair g c).After-try_take_led in let e = c.try_take_led.ensures in
    pair_stays (sort_of g.N.Node.layout g.N.Node.ranged) g.N.Node.body c.args.arena.now.table.shared.table_id.slots c.args.pass.now.caller c.args.place (laws g at) (seen_of c.args.pass.now) (seen_of c.try_take_led.new.pass) (record { parent = Some c.args.parent; node = c.args.node }) c.requires.pass.sound e.pass.sound c.requires.pair c.in-None.ensures.took e.rest.still

pub returns-in-None-clause-frees : goal.returns-in-None-clause-frees
returns-in-None-clause-frees g c = frees_others c.args.pass.now.caller (seen_of c.args.pass.now) (seen_of c.try_take_led.new.pass) c.in-None.ensures.took.grows

pub returns-in-Some-clause-dels : goal.returns-in-Some-clause-dels
returns-in-Some-clause-dels g c = λ low. search_dels_on (sort_of g.N.Node.layout g.N.Node.ranged) c.args.pass.now.caller c.try_take_led.new.pass.caller (seen_of c.args.pass.now) (seen_of c.try_take_led.new.pass) (seen_of c.join_beside.new.pass) c.try_take_led.ensures.caller c.try_take_led.ensures.leaves (c.join_beside.ensures.dels low)

pub returns-in-None-clause-dels : goal.returns-in-None-clause-dels
returns-in-None-clause-dels g c = λ low. searched_dels (sort_of g.N.Node.layout g.N.Node.ranged) c.args.pass.now.caller (seen_of c.args.pass.now) (seen_of c.try_take_led.new.pass) c.try_take_led.ensures.leaves
