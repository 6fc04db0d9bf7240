use Rattle.std.proofs.Common.{◌≡◌, ◌<◌, ◌++◌, ℕ, length, Some, arith, ap, subst}
use Rattle.ks_keysets.specs.Keyset.{record_at}
use Rattle.ks_history.specs.Trace.{held, turn_after, graph_after}
use Rattle.ks_history.specs.Laws.Hand.{is_hand}
use Rattle.ks_history.specs.Laws.Begins.{with_others}
use Rattle.ks_history.specs.Done.{from_above}
use Rattle.ks_history.specs.Laws.Underway.{may_take_later}
use Rattle.ks_history.specs.declared.Event.TheVariants.{Take}
use Rattle.ks_flow.specs.Discipline.{BeginsTree, TreeStep}
use Rattle.ks_node.specs.Edges.{record_of}
use Rattle.ks_arena.specs.Sound.{sort_of, Sound}
use Rattle.ks_arena.specs.Clauses.{seen_of}
use Rattle.ks_shape.specs.Laws.Single.{is_near, record_is}
use Rattle.ks_shape.specs.Laws.Stretches.{stretches_others, stretches_take}
use Rattle.ks_shape.specs.Laws.Search.{Laws}
use Rattle.ks_tidy.proofs.Standing.{edge_live}
use Rattle.ks_shape.specs.Does.{MaySearch}
use Rattle.ks_shape.specs.Laws.Does.{does_others, searches_take}
use Rattle.ks_tidy.proofs.takes.try_take_led.Given.{Over}
use Rattle.ks_tidy.proofs.takes.try_take_led.Goals as goal
use Rattle.ks_tidy.proofs.takes.try_take_led.Goals.{After-search_law}

laws : (g : Over) (c : After-search_law g) → Laws (sort_of g.N.Node.layout g.N.Node.ranged) c.args.arena.now.table.shared.table_id.slots
laws g c = c.search_law.ensures (sort_of g.N.Node.layout g.N.Node.ranged) c.args.arena.now.table.shared.table_id.slots

mine : (g : Over) (c : After-search_law g) → turn_after (seen_of c.args.pass.now) c.args.above.now.node ≡ held c.args.pass.now.caller
mine g c = let p = c.args.pass.now in (is_hand (seen_of p) p.caller ((laws g c).turns (seen_of p) c.requires.pass.sound)).held c.args.above.now.node c.requires.above.has

here : (g : Over) (c : After-search_law g) → record_at (graph_after (seen_of c.args.pass.now)) c.args.above.now.node ≡ Some (record_of (g.N.Node.body c.args.above.now.body))
here g c = record_is (sort_of g.N.Node.layout g.N.Node.ranged) g.N.Node.body (seen_of c.args.pass.now) c.args.above.now c.requires.above.live c.requires.above.matches

pub try_take-requires-clause-node : goal.try_take-requires-clause-node
try_take-requires-clause-node g c κs within = let at = (goal.at.try_take-requires-clause-node g c).After-search_law in let h = seen_of c.args.pass.now in let sort = sort_of g.N.Node.layout g.N.Node.ranged in let n : ℕ = c.args.arena.now.table.shared.table_id.slots in let sound = c.requires.pass.sound in
    let near : c.args.target < n = is_near sort BeginsTree TreeStep n h c.args.target (omega arith) sound (edge_live (graph_after h) c.args.above.now.node c.args.target (record_of (g.N.Node.body c.args.above.now.body)) ((laws g at).good h sound) (here g at) c.requires.edge) in omega arith

pub unreachable-requires : goal.unreachable-requires
unreachable-requires g c = let at = (goal.at.unreachable-requires g c).After-search_law in let sort = sort_of g.N.Node.layout g.N.Node.ranged in let n : ℕ = c.args.arena.now.table.shared.table_id.slots in let looked = c.in-Gone.ensures.took in
    c.target_law.ensures sort n c.args.pass.now.caller c.args.above.now.node c.args.target (seen_of c.args.pass.now) (seen_of c.try_take.new.pass) (record_of (g.N.Node.body c.args.above.now.body)) looked.0.grows c.try_take.ensures.pass.sound (mine g at) (here g at) c.requires.edge looked.1

pub returns-in-Held-clause-stretch : goal.returns-in-Held-clause-stretch
returns-in-Held-clause-stretch g c = let at = (goal.at.returns-in-Held-clause-stretch g c).After-search_law in let sort = sort_of g.N.Node.layout g.N.Node.ranged in let n : ℕ = c.args.arena.now.table.shared.table_id.slots in let me : ℕ = c.args.pass.now.caller in let h = seen_of c.args.pass.now in let k = seen_of c.try_take.new.pass in let took = c.in-Held.ensures.took in let i : ℕ = c.args.target in
    let before = took.grows.rest ++ h in let all = subst (Sound sort BeginsTree TreeStep n) took.grows.is c.try_take.ensures.pass.sound in
    stretches_take me i h k (omega (arith, c.requires.few)) (omega (arith, c.requires.few, ap length took.hand)) took.grows
    (λ template op. may_take_later template me i op h before (with_others me (Take me i) h k took.grows) ((laws g at).turns before all.0) (from_above record { above = c.args.above.now.node; node = record_of (g.N.Node.body c.args.above.now.body); holds = mine g at; is = here g at; leads = c.requires.edge }))

pub returns-in-Busy-clause-took : goal.returns-in-Busy-clause-took
returns-in-Busy-clause-took g c = c.in-Busy.ensures.took.0

pub returns-in-Busy-clause-stretch : goal.returns-in-Busy-clause-stretch
returns-in-Busy-clause-stretch g c = stretches_others c.args.pass.now.caller (seen_of c.args.pass.now) (seen_of c.try_take.new.pass) (omega (arith, c.requires.few)) c.in-Busy.ensures.took.0.grows

pub returns-in-Held-clause-leaves : goal.returns-in-Held-clause-leaves
returns-in-Held-clause-leaves g c = searches_take c.args.pass.now.caller c.args.target (seen_of c.args.pass.now) (seen_of c.try_take.new.pass) c.in-Held.ensures.took.grows

pub returns-in-Busy-clause-leaves : goal.returns-in-Busy-clause-leaves
returns-in-Busy-clause-leaves g c = does_others MaySearch c.args.pass.now.caller (seen_of c.args.pass.now) (seen_of c.try_take.new.pass) c.in-Busy.ensures.took.0.grows
