use Rattle.std.proofs.Common.{◌≡◌, ℕ, ◌<◌, List, refl, sym, inl, inr, subst, arith}
use Rattle.ks_keysets.specs.Record.{LeadsTo}
use Rattle.ks_history.specs.declared.Event.TheVariants.{Give}
use Rattle.ks_history.specs.Laws.Begins.{good_now}
use Rattle.ks_history.specs.Laws.Hand.{is_hand}
use Rattle.ks_history.specs.Passes.{Has}
use Rattle.ks_history.specs.Laws.Stays.{lawful_in_turn}
use Rattle.ks_history.specs.Trace.{held, graph_after, turn_after}
use Rattle.ks_history.specs.Done.{give_up}
use Rattle.ks_flow.specs.Discipline.{BeginsTree, TreeStep}
use Rattle.ks_node.specs.Edges.{record_of}
use Rattle.ks_node.specs.Laws.Ways.{next_leads}
use Rattle.ks_arena.specs.Sound.{sort_of}
use Rattle.ks_arena.specs.Clauses.{seen_of}
use Rattle.ks_arena.specs.Visits.{held_at}
use Rattle.ks_shape.specs.Laws.Single.{is_near, led_live, record_is}
use Rattle.ks_giveup.specs.Goes.{MayVisit, at_first}
use Rattle.ks_giveup.proofs.Way.{goes_with, hints}
use Rattle.ks_giveup.proofs.descent.leave.Given.{Over}
use Rattle.ks_giveup.proofs.descent.leave.Goals as goal
use Rattle.ks_giveup.proofs.descent.leave.Goals.{After-bodies_law}

-- the edge to the child
leads : (g : Over) (c : After-bodies_law g) → LeadsTo (record_of (g.N.Node.body c.args.visited.body.value)) c.args.place c.args.child
leads g c = next_leads (g.N.Node.body c.args.visited.body.value) c.args.place c.args.child (c.bodies_law.ensures.sound c.args.visited.body.value) (omega (arith, c.ranges.place)) c.requires.way.1

pub returns-clause-near : goal.returns-clause-near
returns-clause-near g c = let at = (goal.at.returns-clause-near g c).After-bodies_law in let sort = sort_of g.N.Node.layout g.N.Node.ranged in let n : ℕ = c.args.arena.now.table.shared.table_id.slots in let h = seen_of c.args.pass.now in let way = c.requires.way.0 in let sound = c.requires.pass.sound in let body = g.N.Node.body c.args.visited.body.value in
    let near : c.args.child < n = is_near sort BeginsTree TreeStep n h c.args.child (omega arith) sound (led_live (graph_after h) c.args.visited.node c.args.place c.args.child (record_of body) (good_now (c.sound_law.ensures.good sort n h sound)) (record_is sort g.N.Node.body h (held_at c.args.visited) way.live way.matches) (leads g at)) in omega arith

pub returns-clause-next : goal.returns-clause-next
returns-clause-next g c = let at = (goal.at.returns-clause-next g c).After-bodies_law in let sort = sort_of g.N.Node.layout g.N.Node.ranged in let n : ℕ = c.args.arena.now.table.shared.table_id.slots in let me : ℕ = c.args.pass.now.caller in let h = seen_of c.args.pass.now in let h₁ = seen_of c.leave_last.new.pass in let way = c.requires.way.0 in let law = c.sound_law.ensures in let i : ℕ = c.args.visited.node in
    let mine : turn_after h i ≡ held me = (is_hand h me (lawful_in_turn h (law.lawful sort n h c.requires.pass.sound))).held i (subst (λ (z : List ℕ). Has z i) (sym way.alone) (inl refl)) in
    subst (λ (z : ℕ). MayVisit z c.args.place c.args.child h₁) (sym c.leave_last.ensures.caller)
    (inr (hints me c.args.place c.args.child i h h₁ (record_of (g.N.Node.body c.args.visited.body.value)) (lawful_in_turn h₁ (law.lawful sort n h₁ c.leave_last.ensures.pass.0.sound)) mine (record_is sort g.N.Node.body h (held_at c.args.visited) way.live way.matches) (leads g at) c.leave_last.ensures.gave))

pub returns-clause-goes : goal.returns-clause-goes
returns-clause-goes g c = let me : ℕ = c.args.pass.now.caller in let h = seen_of c.args.pass.now in goes_with me c.args.place (Give me c.args.visited.node) h h (seen_of c.leave_last.new.pass) c.leave_last.ensures.gave tt at_first

pub returns-clause-under : goal.returns-clause-under
returns-clause-under g c = c.leave_last.ensures.under give_up

pub returns-clause-gave : goal.returns-clause-gave
returns-clause-gave g c = c.leave_last.ensures.gave

pub returns-clause-leaves : goal.returns-clause-leaves
returns-clause-leaves g c = c.leave_last.ensures.leaves
