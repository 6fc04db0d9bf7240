use Rattle.std.proofs.Common.{◌≡◌, ◌≢◌, ◌<◌, ℕ, List, arith, refl, sym, subst, inl, ⊎_elim}
use Rattle.ks_keysets.specs.declared.Record.{Record}
use Rattle.ks_keysets.specs.Record.{LeadsTo}
use Rattle.ks_history.specs.Trace.{held, turn_after, graph_after}
use Rattle.ks_history.specs.Frames.{frame_after}
use Rattle.ks_history.specs.Passes.{Has}
use Rattle.ks_history.specs.Laws.Hand.{is_hand}
use Rattle.ks_flow.specs.Discipline.{BeginsTree, TreeStep}
use Rattle.ks_node.specs.Edges.{record_of}
use Rattle.ks_node.specs.Laws.Ways.{next_leads}
use Rattle.ks_arena.specs.Sound.{blank_of, sort_of}
use Rattle.ks_shape.specs.Laws.Single.{is_near, led_live, record_is}
use Rattle.ks_arena.specs.Clauses.{seen_of}
use Rattle.ks_arena.specs.Visits.{held_at}
use Rattle.ks_shape.specs.Laws.Search.{Laws}
use Rattle.ks_shape.specs.Laws.Counted.{counted}
use Rattle.ks_shape.proofs.Ways.{goes_down, down_stretch, down_under}
use Rattle.ks_shape.proofs.visits.visit_below.Given.{Over}
use Rattle.ks_shape.proofs.visits.visit_below.Goals as goal
use Rattle.ks_shape.proofs.visits.visit_below.Goals.{After-bodies_law}
use Rattle.ks_shape.specs.Laws.Does.{searches_take}

laws : (g : Over) (c : After-bodies_law g) → Laws (sort_of g.N.Node.layout g.N.Node.ranged) c.args.arena.now.table.shared.table_id.slots
laws g c = c.search_law.ensures (sort_of g.N.Node.layout g.N.Node.ranged) c.args.arena.now.table.shared.table_id.slots

-- the edge to the child
leads : (g : Over) (c : After-bodies_law g) → LeadsTo (record_of (g.N.Node.body c.args.visited.now.body.value)) c.args.place c.args.child
leads g c = next_leads (g.N.Node.body c.args.visited.now.body.value) c.args.place c.args.child (c.bodies_law.ensures.sound c.args.visited.now.body.value) (omega (arith, c.ranges.place)) c.requires.goes

mine : (g : Over) (c : After-bodies_law g) → turn_after (seen_of c.args.pass.now) c.args.visited.now.node ≡ held c.args.pass.now.caller
mine g c = let way = c.requires.way in let p = c.args.pass.now in
    (is_hand (seen_of p) p.caller ((laws g c).turns (seen_of p) c.requires.pass.sound)).held c.args.visited.now.node (subst (λ (z : List ℕ). Has z c.args.visited.now.node) (sym way.alone) (inl refl))

apart : (g : Over) (c : After-bodies_law g) → c.args.visited.now.node ≢ c.args.child
apart g c = λ same. let way = c.requires.way in let h = seen_of c.args.pass.now in let sort = sort_of g.N.Node.layout g.N.Node.ranged in let n : ℕ = c.args.arena.now.table.shared.table_id.slots in let sound = c.requires.pass.sound in let r : Record = record_of (g.N.Node.body c.args.visited.now.body.value) in
    c.tree_facts_law.ensures.apart (graph_after h) (frame_after (blank_of sort) h) c.args.visited.now.node c.args.child r ((laws g c).good h sound) ((c.search_law.ensures sort n).facts h sound) (record_is sort g.N.Node.body h (held_at c.args.visited.now) way.live way.matches) (counted r c.args.place c.args.child (leads g c)) same

pub visit-requires-clause-node : goal.visit-requires-clause-node
visit-requires-clause-node g c κs within = let at = (goal.at.visit-requires-clause-node g c).After-bodies_law in let way = c.requires.way in let h = seen_of c.args.pass.now in let sort = sort_of g.N.Node.layout g.N.Node.ranged in let n : ℕ = c.args.arena.now.table.shared.table_id.slots in let sound = c.requires.pass.sound in let r : Record = record_of (g.N.Node.body c.args.visited.now.body.value) in
    let near : c.args.child < n = is_near sort BeginsTree TreeStep n h c.args.child (omega arith) sound (led_live (graph_after h) c.args.visited.now.node c.args.place c.args.child r ((laws g at).good h sound) (record_is sort g.N.Node.body h (held_at c.args.visited.now) way.live way.matches) (leads g at)) in omega arith

pub visit-requires-clause-fresh : goal.visit-requires-clause-fresh
visit-requires-clause-fresh g c κs within = λ has. ⊎_elim (λ (e : c.args.visited.now.node ≡ c.args.child). apart g (goal.at.visit-requires-clause-fresh g c).After-bodies_law e) (λ (z : ⊥). z) (subst (λ (z : List ℕ). Has z c.args.child) c.requires.way.alone has)

pub unreachable-requires : goal.unreachable-requires
unreachable-requires g c = let at = (goal.at.unreachable-requires g c).After-bodies_law in let way = c.requires.way in let sort = sort_of g.N.Node.layout g.N.Node.ranged in let n : ℕ = c.args.arena.now.table.shared.table_id.slots in let told = rw c.in_default.is at c.visit.ensures.took in let to = leads g at in
    c.target_law.ensures sort n c.args.pass.now.caller c.args.visited.now.node c.args.child (seen_of c.args.pass.now) (seen_of c.visit.new.pass) (record_of (g.N.Node.body c.args.visited.now.body.value)) told.0.grows c.visit.ensures.pass.sound (mine g at) (record_is sort g.N.Node.body (seen_of c.args.pass.now) (held_at c.args.visited.now) way.live way.matches) (to.0, to.1, to.2, to.3, to.4.1) told.1

pub returns-clause-path : goal.returns-clause-path
returns-clause-path g c = let at = (goal.at.returns-clause-path g c).After-bodies_law in let e = c.in-Some.ensures in let way = c.requires.way in
    goes_down (sort_of g.N.Node.layout g.N.Node.ranged) g.N.Node.body c.args.arena.now.table.shared.table_id.slots c.args.pass.now.caller c.args.place c.args.child (laws g at) (seen_of c.args.pass.now) (seen_of c.visit.new.pass) (held_at c.args.visited.now) (held_at c.in-Some.below) c.requires.pass.sound e.pass.sound way (leads g at) e.took
    (e.rest.still (held_at c.args.visited.now) (subst (λ (z : List ℕ). Has z c.args.visited.now.node) (sym way.alone) (inl refl)) way.matches)

pub returns-clause-stretch : goal.returns-clause-stretch
returns-clause-stretch g c = let at = (goal.at.returns-clause-stretch g c).After-bodies_law in let e = c.in-Some.ensures in let way = c.requires.way in
    down_stretch (sort_of g.N.Node.layout g.N.Node.ranged) g.N.Node.body c.args.arena.now.table.shared.table_id.slots c.args.pass.now.caller c.args.place c.args.child (laws g at) (seen_of c.args.pass.now) (seen_of c.visit.new.pass) (held_at c.args.visited.now) (held_at c.in-Some.below) c.requires.pass.sound e.pass.sound way (leads g at) e.took

pub returns-clause-under : goal.returns-clause-under
returns-clause-under g c = λ op start under. let at = (goal.at.returns-clause-under g c).After-bodies_law in let e = c.in-Some.ensures in let way = c.requires.way in
    down_under (sort_of g.N.Node.layout g.N.Node.ranged) g.N.Node.body c.args.arena.now.table.shared.table_id.slots c.args.pass.now.caller c.args.place c.args.child (laws g at) (seen_of c.args.pass.now) (seen_of c.visit.new.pass) (held_at c.args.visited.now) (held_at c.in-Some.below) c.requires.pass.sound e.pass.sound way (leads g at) e.took op start under

pub returns-clause-leaves : goal.returns-clause-leaves
returns-clause-leaves g c = searches_take c.args.pass.now.caller c.args.child (seen_of c.args.pass.now) (seen_of c.visit.new.pass) c.in-Some.ensures.took.grows
