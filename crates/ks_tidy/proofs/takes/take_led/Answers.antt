use Rattle.std.proofs.Common.{◌≡◌, ◌<◌, ◌++◌, ℕ, length, Some, arith, ap, subst}
use Rattle.ks_keysets.specs.Keyset.{record_at}
use Rattle.ks_history.specs.Trace.{held, turn_after, graph_after}
use Rattle.ks_history.specs.Laws.Hand.{is_hand}
use Rattle.ks_history.specs.Laws.Begins.{with_others}
use Rattle.ks_history.specs.Done.{from_above}
use Rattle.ks_history.specs.Laws.Underway.{may_take_later}
use Rattle.ks_history.specs.declared.Event.TheVariants.{Take}
use Rattle.ks_flow.specs.Discipline.{BeginsTree, TreeStep}
use Rattle.ks_node.specs.Edges.{record_of}
use Rattle.ks_arena.specs.Sound.{sort_of, Sound}
use Rattle.ks_arena.specs.Clauses.{seen_of}
use Rattle.ks_shape.specs.Laws.Single.{is_near, record_is}
use Rattle.ks_shape.specs.Laws.Stretches.{stretches_take}
use Rattle.ks_shape.specs.Laws.Search.{Laws}
use Rattle.ks_tidy.proofs.Standing.{edge_live}
use Rattle.ks_shape.specs.Laws.Does.{searches_take}
use Rattle.ks_tidy.proofs.takes.take_led.Given.{Over}
use Rattle.ks_tidy.proofs.takes.take_led.Goals as goal
use Rattle.ks_tidy.proofs.takes.take_led.Goals.{After-search_law}

laws : (g : Over) (c : After-search_law g) → Laws (sort_of g.N.Node.layout g.N.Node.ranged) c.args.arena.now.table.shared.table_id.slots
laws g c = c.search_law.ensures (sort_of g.N.Node.layout g.N.Node.ranged) c.args.arena.now.table.shared.table_id.slots

mine : (g : Over) (c : After-search_law g) → turn_after (seen_of c.args.pass.now) c.args.above.now.node ≡ held c.args.pass.now.caller
mine g c = let p = c.args.pass.now in (is_hand (seen_of p) p.caller ((laws g c).turns (seen_of p) c.requires.pass.sound)).held c.args.above.now.node c.requires.above.has

here : (g : Over) (c : After-search_law g) → record_at (graph_after (seen_of c.args.pass.now)) c.args.above.now.node ≡ Some (record_of (g.N.Node.body c.args.above.now.body))
here g c = record_is (sort_of g.N.Node.layout g.N.Node.ranged) g.N.Node.body (seen_of c.args.pass.now) c.args.above.now c.requires.above.live c.requires.above.matches

pub take-requires-clause-node : goal.take-requires-clause-node
take-requires-clause-node g c κs within = let at = (goal.at.take-requires-clause-node g c).After-search_law in let h = seen_of c.args.pass.now in let sort = sort_of g.N.Node.layout g.N.Node.ranged in let n : ℕ = c.args.arena.now.table.shared.table_id.slots in let sound = c.requires.pass.sound in
    let near : c.args.target < n = is_near sort BeginsTree TreeStep n h c.args.target (omega arith) sound (edge_live (graph_after h) c.args.above.now.node c.args.target (record_of (g.N.Node.body c.args.above.now.body)) ((laws g at).good h sound) (here g at) c.requires.edge) in omega arith

pub unreachable-requires : goal.unreachable-requires
unreachable-requires g c = let at = (goal.at.unreachable-requires g c).After-search_law in let sort = sort_of g.N.Node.layout g.N.Node.ranged in let n : ℕ = c.args.arena.now.table.shared.table_id.slots in let told = rw c.in_default.is at c.take.ensures.took in
    c.target_law.ensures sort n c.args.pass.now.caller c.args.above.now.node c.args.target (seen_of c.args.pass.now) (seen_of c.take.new.pass) (record_of (g.N.Node.body c.args.above.now.body)) told.0.grows c.take.ensures.pass.sound (mine g at) (here g at) c.requires.edge told.1

pub returns-clause-stretch : goal.returns-clause-stretch
returns-clause-stretch g c = let at = (goal.at.returns-clause-stretch g c).After-search_law in let sort = sort_of g.N.Node.layout g.N.Node.ranged in let n : ℕ = c.args.arena.now.table.shared.table_id.slots in let me : ℕ = c.args.pass.now.caller in let h = seen_of c.args.pass.now in let k = seen_of c.take.new.pass in let took = c.in-Some.ensures.took in let i : ℕ = c.args.target in
    let before = took.grows.rest ++ h in let all = subst (Sound sort BeginsTree TreeStep n) took.grows.is c.take.ensures.pass.sound in
    stretches_take me i h k (omega (arith, c.requires.few)) (omega (arith, c.requires.few, ap length took.hand)) took.grows
    (λ template op. may_take_later template me i op h before (with_others me (Take me i) h k took.grows) ((laws g at).turns before all.0) (from_above record { above = c.args.above.now.node; node = record_of (g.N.Node.body c.args.above.now.body); holds = mine g at; is = here g at; leads = c.requires.edge }))

pub returns-clause-leaves : goal.returns-clause-leaves
returns-clause-leaves g c = searches_take c.args.pass.now.caller c.args.target (seen_of c.args.pass.now) (seen_of c.take.new.pass) c.in-Some.ensures.took.grows
