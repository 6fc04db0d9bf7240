use Rattle.std.proofs.Common.{◌≡◌, ◌≢◌, ℕ, List, subst}
use Rattle.std.specs.Prelude.{Any}
use Rattle.ks_keysets.specs.declared.Edge.{Edge}
use Rattle.ks_history.specs.Trace.{graph_after}
use Rattle.ks_history.specs.Frames.{frame_after}
use Rattle.ks_history.specs.Passes.{Has}
use Rattle.ks_bodies.specs.Stands.{Stands}
use Rattle.ks_node.specs.Body.{Body}
use Rattle.ks_node.specs.Edges.{record_of, edges_of}
use Rattle.ks_arena.specs.Sound.{blank_of, sort_of}
use Rattle.ks_arena.specs.Clauses.{seen_of}
use Rattle.ks_shape.specs.Laws.Search.{Laws}
use Rattle.ks_tidy.proofs.Standing.{plain, stands_now}
use Rattle.ks_tidy.proofs.Beside.{any_counted}
use Rattle.ks_tidy.proofs.Fresh.{fresh_own}
use Rattle.ks_tidy.proofs.neighbours.chained_law.Given.{Over}
use Rattle.ks_tidy.proofs.neighbours.chained_law.Goals as goal
use Rattle.ks_tidy.proofs.neighbours.chained_law.Goals.{After-node_law}

laws : (g : Over) (c : After-node_law g) → Laws (sort_of g.N.Node.layout g.N.Node.ranged) c.args.arena.now.table.shared.table_id.slots
laws g c = c.search_law.ensures (sort_of g.N.Node.layout g.N.Node.ranged) c.args.arena.now.table.shared.table_id.slots

stands : (g : Over) (c : After-node_law g) → Stands (graph_after (seen_of c.args.pass.now)) (frame_after (blank_of (sort_of g.N.Node.layout g.N.Node.ranged)) (seen_of c.args.pass.now)) c.args.path.now.node.node (g.N.Node.body c.args.path.now.node.body)
stands g c = let x = c.args.path.now.node in stands_now (sort_of g.N.Node.layout g.N.Node.ranged) g.N.Node.body (seen_of c.args.pass.now) x c.requires.pair.path.live c.requires.pair.path.matches (plain (g.N.Node.body x.body) c.node_law.ensures.sound c.node_law.ensures.framed (c.unlinked_law.ensures.no_link x.body))

edge : (g : Over) (c : After-node_law g) → Any (λ (e : Edge). e.node ≡ c.args.target) (edges_of (g.N.Node.body c.args.path.now.node.body))
edge g c = let h = seen_of c.args.pass.now in ((c.tests_law.ensures.chained (graph_after h) (frame_after (blank_of (sort_of g.N.Node.layout g.N.Node.ranged)) h) c.args.path.now.node.node c.args.target (g.N.Node.body c.args.path.now.node.body) (stands g c)).0 c.requires.chained).1

apart : (g : Over) (c : After-node_law g) → c.args.path.now.node.node ≢ c.args.target
apart g c = λ same. let h = seen_of c.args.pass.now in let sort = sort_of g.N.Node.layout g.N.Node.ranged in let b : Body = g.N.Node.body c.args.path.now.node.body in
    c.tree_facts_law.ensures.apart (graph_after h) (frame_after (blank_of sort) h) c.args.path.now.node.node c.args.target (record_of b) ((laws g c).good h c.requires.pass.sound) ((laws g c).facts h c.requires.pass.sound) (stands g c).has (any_counted (edges_of b) c.args.target (edge g c)) same

pub returns-clause-edge : goal.returns-clause-edge
returns-clause-edge g c = edge g (goal.at.returns-clause-edge g c).After-node_law

pub returns-clause-fresh : goal.returns-clause-fresh
returns-clause-fresh g c = λ has. let at = (goal.at.returns-clause-fresh g c).After-node_law in let h = seen_of c.args.pass.now in let x = c.args.path.now.node in let path = c.requires.pair.path in
    fresh_own (sort_of g.N.Node.layout g.N.Node.ranged) g.N.Node.body h ((laws g at).facts h c.requires.pass.sound).edges c.args.place c.args.target x c.args.path.now.parent path.live path.matches path.inside path.under (edge g at) (apart g at) (subst (λ (z : List ℕ). Has z c.args.target) path.hands has)
