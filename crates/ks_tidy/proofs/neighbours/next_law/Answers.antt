use Rattle.std.proofs.Common.{◌≡◌, ◌≢◌, ℕ, suc, List, subst}
use Rattle.std.specs.Prelude.{Any}
use Rattle.ks_keysets.specs.declared.Edge.{Edge}
use Rattle.ks_keysets.specs.declared.Frame.{Frame}
use Rattle.ks_keysets.specs.declared.NodeState.{NodeState}
use Rattle.ks_keysets.specs.Tight.{IsNext}
use Rattle.ks_history.specs.Trace.{graph_after}
use Rattle.ks_history.specs.Frames.{frame_after}
use Rattle.ks_history.specs.Passes.{Has}
use Rattle.ks_bodies.specs.Stands.{Stands}
use Rattle.ks_node.specs.Body.{Body, first_node, is_branch, starts_from}
use Rattle.ks_node.specs.Edges.{record_of, edges_of}
use Rattle.ks_arena.specs.Sound.{blank_of, sort_of}
use Rattle.ks_arena.specs.Clauses.{seen_of}
use Rattle.ks_shape.specs.Laws.Search.{Laws}
use Rattle.ks_tidy.proofs.Standing.{plain, stands_now}
use Rattle.ks_tidy.proofs.Beside.{any_counted, next_apart, next_edge, next_in}
use Rattle.ks_tidy.proofs.Fresh.{fresh_two, passed}
use Rattle.ks_tidy.proofs.neighbours.next_law.Given.{Over}
use Rattle.ks_tidy.proofs.neighbours.next_law.Goals as goal
use Rattle.ks_tidy.proofs.neighbours.next_law.Goals.{After-node_law-2}

laws : (g : Over) (c : After-node_law-2 g) → Laws (sort_of g.N.Node.layout g.N.Node.ranged) c.args.arena.now.table.shared.table_id.slots
laws g c = c.search_law.ensures (sort_of g.N.Node.layout g.N.Node.ranged) c.args.arena.now.table.shared.table_id.slots

standing : (g : Over) (c : After-node_law-2 g) → Stands (graph_after (seen_of c.args.pass.now)) (frame_after (blank_of (sort_of g.N.Node.layout g.N.Node.ranged)) (seen_of c.args.pass.now)) c.args.node.now.node (g.N.Node.body c.args.node.now.body)
standing g c = let x = c.args.node.now in stands_now (sort_of g.N.Node.layout g.N.Node.ranged) g.N.Node.body (seen_of c.args.pass.now) x c.requires.pair.path.live c.requires.pair.path.matches (plain (g.N.Node.body x.body) c.node_law-2.ensures.sound c.node_law-2.ensures.framed (c.unlinked_law.ensures.no_link x.body))

above : (g : Over) (c : After-node_law-2 g) → Stands (graph_after (seen_of c.args.pass.now)) (frame_after (blank_of (sort_of g.N.Node.layout g.N.Node.ranged)) (seen_of c.args.pass.now)) c.args.parent.now.node (g.N.Node.body c.args.parent.now.body)
above g c = let y = c.args.parent.now in let under = c.requires.pair.path.under in stands_now (sort_of g.N.Node.layout g.N.Node.ranged) g.N.Node.body (seen_of c.args.pass.now) y under.live under.matches (plain (g.N.Node.body y.body) c.node_law.ensures.sound c.node_law.ensures.framed (c.unlinked_law.ensures.no_link y.body))

-- in the parent the edge to the neighbour comes after the edge to the node
next : (g : Over) (c : After-node_law-2 g) → IsNext (edges_of (g.N.Node.body c.args.parent.now.body)) c.args.node.now.node c.args.target
next g c = let h = seen_of c.args.pass.now in let sort = sort_of g.N.Node.layout g.N.Node.ranged in let g₁ : ℕ → NodeState = graph_after h in let f₁ : ℕ → Frame = frame_after (blank_of sort) h in let u : Body = g.N.Node.body c.args.parent.now.body in let b : Body = g.N.Node.body c.args.node.now.body in let facts = (laws g c).facts h c.requires.pass.sound in
    next_in g₁ facts.edges f₁ c.args.parent.now.node c.args.node.now.node c.args.target c.args.place (record_of b) (record_of u) (standing g c).has (above g c).has ((c.tests_law.ensures.unchained g₁ f₁ c.args.node.now.node b (standing g c)).0 c.requires.unchained) c.requires.pair.path.under.leads
    ((c.rights_law.ensures.beside g₁ f₁ c.args.parent.now.node c.args.node.now.node c.args.place u b facts (above g c) (standing g c) (passed (is_branch u) (first_node (starts_from (suc c.args.place) u.starts)) c.args.target c.requires.beside) c.requires.pair.path.under.leads c.requires.unchained c.args.target).1 c.requires.beside)

edge : (g : Over) (c : After-node_law-2 g) → Any (λ (e : Edge). e.node ≡ c.args.target) (edges_of (g.N.Node.body c.args.parent.now.body))
edge g c = next_edge (edges_of (g.N.Node.body c.args.parent.now.body)) c.args.node.now.node c.args.target (next g c)

apart : (g : Over) (c : After-node_law-2 g) → c.args.parent.now.node ≢ c.args.target
apart g c = λ same. let h = seen_of c.args.pass.now in let sort = sort_of g.N.Node.layout g.N.Node.ranged in let u : Body = g.N.Node.body c.args.parent.now.body in
    c.tree_facts_law.ensures.apart (graph_after h) (frame_after (blank_of sort) h) c.args.parent.now.node c.args.target (record_of u) ((laws g c).good h c.requires.pass.sound) ((laws g c).facts h c.requires.pass.sound) (above g c).has (any_counted (edges_of u) c.args.target (edge g c)) same

other : (g : Over) (c : After-node_law-2 g) → c.args.node.now.node ≢ c.args.target
other g c = let h = seen_of c.args.pass.now in next_apart (graph_after h) ((laws g c).facts h c.requires.pass.sound).edges c.args.parent.now.node c.args.node.now.node c.args.target (record_of (g.N.Node.body c.args.parent.now.body)) (above g c).has (next g c)

pub returns-clause-edge : goal.returns-clause-edge
returns-clause-edge g c = edge g (goal.at.returns-clause-edge g c).After-node_law-2

pub returns-clause-fresh : goal.returns-clause-fresh
returns-clause-fresh g c = λ has. let at = (goal.at.returns-clause-fresh g c).After-node_law-2 in
    fresh_two c.args.node.now.node c.args.parent.now.node c.args.target (other g at) (apart g at) (subst (λ (z : List ℕ). Has z c.args.target) c.requires.pair.path.hands has)
