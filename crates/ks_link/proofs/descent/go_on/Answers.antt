use Rattle.std.proofs.Common.{◌≡◌, ℕ, ◌<◌, ◌≤◌, List, [], arith, subst}
use Rattle.ks_keysets.specs.declared.Record.{Record}
use Rattle.ks_keysets.specs.Record.{LeadsTo}
use Rattle.ks_keysets.specs.Keyset.{IsLive}
use Rattle.ks_history.specs.declared.Event.{Event}
use Rattle.ks_history.specs.declared.Event.TheVariants.{Give}
use Rattle.ks_history.specs.Trace.{◌⊑◌, graph_after}
use Rattle.ks_history.specs.Own.{hand}
use Rattle.ks_history.specs.Frames.{frame_after}
use Rattle.ks_history.specs.Passes.{GrowsWith}
use Rattle.ks_history.specs.Laws.Begins.{begins_both, by_others_begins, good_now, with_begins}
use Rattle.ks_flow.specs.Discipline.{BeginsLink, LinkStep}
use Rattle.ks_node.specs.Edges.{record_of}
use Rattle.ks_node.specs.Laws.Ways.{next_leads}
use Rattle.ks_arena.specs.Sound.{Sort, sort_of, blank_of}
use Rattle.ks_arena.specs.Clauses.{HasTaken, seen_of}
use Rattle.ks_arena.specs.Visits.{held_at}
use Rattle.ks_link.proofs.Places.{step_low}
use Rattle.ks_history.specs.Done.{link_move, first_taken}
use Rattle.ks_shape.specs.Laws.Single.{is_near, led_live, record_is, takes}
use Rattle.ks_shape.specs.Laws.Makes.{makes_both, makes_with}
use Rattle.ks_link.proofs.Ways.{arrives}
use Rattle.ks_shape.specs.Does.{MaySearch}
use Rattle.ks_shape.specs.Laws.Does.{does_both, searches_take}
use Rattle.ks_link.proofs.descent.go_on.Given.{Over}
use Rattle.ks_link.proofs.descent.go_on.Goals as goal
use Rattle.ks_link.proofs.descent.go_on.Goals.{After-leave_last}

module _ (g : Over) (c : After-leave_last g) where
  abbrev sort : Sort
  sort = sort_of g.N.Node.layout g.N.Node.ranged

  abbrev n : ℕ
  n = c.args.arena.now.table.shared.table_id.slots

  abbrev me : ℕ
  me = c.args.pass.now.caller

  abbrev seen : List Event
  seen = seen_of c.args.pass.now

  abbrev given : List Event
  given = seen_of c.leave_last.new.pass

  abbrev node : Record
  node = record_of (g.N.Node.body c.args.visited.body.value)

  leads : LeadsTo node c.args.place c.args.next
  leads = next_leads (g.N.Node.body c.args.visited.body.value) c.args.place c.args.next (c.bodies_law.ensures.sound c.args.visited.body.value) (omega (arith, c.ranges.place)) c.requires.goes

  -- the next node was live while the node was held, and began at the place or below
  live : IsLive (graph_after seen) c.args.next
  live = led_live (graph_after seen) c.args.visited.node c.args.place c.args.next node (good_now (c.sound_law.ensures.good sort n seen c.requires.pass.sound)) (record_is sort g.N.Node.body seen (held_at c.args.visited) c.requires.way.live c.requires.way.matches) leads

  low : (frame_after (blank_of sort) seen c.args.next).low ≤ c.args.place
  low = step_low (graph_after seen) (frame_after (blank_of sort) seen) (c.sound_law.ensures.facts sort n seen c.requires.pass.sound) c.args.visited.node c.args.next c.args.place node (record_is sort g.N.Node.body seen (held_at c.args.visited) c.requires.way.live c.requires.way.matches) leads

  gave : GrowsWith me (Give me c.args.visited.node) seen given
  gave = c.leave_last.ensures.gave

  begins : seen ⊑ given
  begins = with_begins me (Give me c.args.visited.node) seen given gave

  empty : hand me given ≡ []
  empty = subst (λ (z : ℕ). hand z given ≡ []) c.leave_last.ensures.caller c.leave_last.ensures.pass.1

pub visit-requires-clause-node : goal.visit-requires-clause-node
visit-requires-clause-node g c κs within = let at = (goal.at.visit-requires-clause-node g c).After-leave_last in let before = given g at in
    let near : c.args.next < n g at = is_near (sort g at) BeginsLink LinkStep (n g at) before c.args.next (omega arith) c.leave_last.ensures.pass.0.sound ((c.sound_law.ensures.lasts (sort g at) (n g at) (seen g at) before (begins g at) c.leave_last.ensures.pass.0.sound).live c.args.next (live g at)) in omega arith

pub unreachable-requires : goal.unreachable-requires
unreachable-requires g c = let at = (goal.at.unreachable-requires g c).After-leave_last in let told = rw c.in_default.is at c.visit.ensures.took in let after = seen_of c.visit.new.pass in
    c.link_live_law.ensures (sort g at) (n g at) c.args.next (seen g at) after (begins_both (seen g at) (given g at) after (begins g at) (by_others_begins c.leave_last.new.pass.caller (given g at) after told.0.grows)) c.visit.ensures.pass.sound (live g at) told.1

pub returns-clause-way : goal.returns-clause-way
returns-clause-way g c = let at = (goal.at.returns-clause-way g c).After-leave_last in let after = seen_of c.visit.new.pass in let e = c.in-Some.ensures in
    let took = subst (λ (z : ℕ). HasTaken (sort g at) g.N.Node.body z c.args.next (given g at) after (held_at c.in-Some.taken)) c.leave_last.ensures.caller e.took in
    let all = begins_both (seen g at) (given g at) after (begins g at) (with_begins (me g at) _ (given g at) after took.grows) in
    let lasts = c.sound_law.ensures.lasts (sort g at) (n g at) (seen g at) after all e.pass.sound in
    arrives (sort g at) g.N.Node.body (me g at) c.args.place c.args.next (given g at) after (held_at c.in-Some.taken) (empty g at) took (omega (arith, low g at, lasts.low c.args.next (live g at)))

pub returns-clause-under : goal.returns-clause-under
returns-clause-under g c = λ op start under. let at = (goal.at.returns-clause-under g c).After-leave_last in let after = seen_of c.visit.new.pass in
    let took = subst (λ (z : ℕ). HasTaken (sort g at) g.N.Node.body z c.args.next (given g at) after (held_at c.in-Some.taken)) c.leave_last.ensures.caller c.in-Some.ensures.took in
    takes (sort g at) g.N.Node.body link_move (me g at) c.args.next op start (given g at) after (held_at c.in-Some.taken) (λ k e. first_taken e tt) (empty g at) took (c.leave_last.ensures.under link_move op start under)

pub returns-clause-makes : goal.returns-clause-makes
returns-clause-makes g c = let at = (goal.at.returns-clause-makes g c).After-leave_last in let after = seen_of c.visit.new.pass in
    let took = subst (λ (z : ℕ). HasTaken (sort g at) g.N.Node.body z c.args.next (given g at) after (held_at c.in-Some.taken)) c.leave_last.ensures.caller c.in-Some.ensures.took in
    makes_both (me g at) (seen g at) (given g at) after (begins g at) (with_begins (me g at) _ (given g at) after took.grows) c.leave_last.ensures.makes (makes_with (me g at) _ (given g at) after tt took.grows)

pub returns-clause-leaves : goal.returns-clause-leaves
returns-clause-leaves g c = let at = (goal.at.returns-clause-leaves g c).After-leave_last in let after = seen_of c.visit.new.pass in
    let took = subst (λ (z : ℕ). HasTaken (sort g at) g.N.Node.body z c.args.next (given g at) after (held_at c.in-Some.taken)) c.leave_last.ensures.caller c.in-Some.ensures.took in
    does_both MaySearch (me g at) (seen g at) (given g at) after c.leave_last.ensures.leaves (searches_take (me g at) c.args.next (given g at) after took.grows)
