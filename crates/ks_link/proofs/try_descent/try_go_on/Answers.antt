use Rattle.std.proofs.Common.{◌≡◌, ◌≢◌, ℕ, ◌<◌, ◌≤◌, List, [], arith, ◌∙◌, subst}
use Rattle.std.specs.Prelude.{Some}
use Rattle.ks_keysets.specs.declared.Record.{Record}
use Rattle.ks_keysets.specs.Record.{LeadsTo}
use Rattle.ks_keysets.specs.Keyset.{record_at, IsLive}
use Rattle.ks_history.specs.declared.Event.{Event}
use Rattle.ks_history.specs.declared.Event.TheVariants.{Give}
use Rattle.ks_history.specs.Trace.{◌⊑◌, graph_after}
use Rattle.ks_history.specs.Own.{hand, drop_one}
use Rattle.ks_history.specs.Frames.{frame_after}
use Rattle.ks_history.specs.Passes.{GrowsByOthers, GrowsWith}
use Rattle.ks_history.specs.Laws.Begins.{begins_both, by_others_begins, good_now, with_begins}
use Rattle.ks_history.specs.Done.{link_move, first_taken}
use Rattle.ks_history.specs.Laws.Underway.{underway_others}
use Rattle.ks_flow.specs.Discipline.{BeginsLink, LinkStep}
use Rattle.ks_node.specs.Edges.{record_of}
use Rattle.ks_node.specs.Laws.Ways.{next_leads}
use Rattle.ks_arena.specs.Sound.{Sort, sort_of, blank_of}
use Rattle.ks_arena.specs.Clauses.{HasLooked, HasTaken, seen_of}
use Rattle.ks_shape.specs.Laws.Single.{gave_last, gives, is_near, led_live, record_is, shown, takes}
use Rattle.ks_shape.specs.Laws.Makes.{makes_both, makes_others, makes_with}
use Rattle.ks_link.proofs.Nearer.{no_root, step_on}
use Rattle.ks_link.proofs.Places.{step_low}
use Rattle.ks_link.proofs.Trying.{met_busy, on_from}
use Rattle.ks_link.proofs.Ways.{arrives}
use Rattle.ks_shape.specs.Does.{MaySearch}
use Rattle.ks_shape.specs.Laws.Does.{does_both, does_others, searches_give, searches_take}
use Rattle.ks_link.proofs.try_descent.try_go_on.Given.{Over}
use Rattle.ks_link.proofs.try_descent.try_go_on.Goals as goal
use Rattle.ks_link.proofs.try_descent.try_go_on.Goals.{After-give}

module _ (g : Over) (c : After-give g) where
  abbrev sort : Sort
  sort = sort_of g.N.Node.layout g.N.Node.ranged

  abbrev n : ℕ
  n = c.args.arena.now.table.shared.table_id.slots

  abbrev me : ℕ
  me = c.args.pass.now.caller

  abbrev seen : List Event
  seen = seen_of c.args.pass.now

  abbrev given : List Event
  given = seen_of c.give.new.pass

  abbrev node : Record
  node = record_of (g.N.Node.body c.args.held.body)

  leads : LeadsTo node c.args.place c.args.next
  leads = next_leads (g.N.Node.body c.args.held.body) c.args.place c.args.next c.node_law.ensures.sound (omega (arith, c.ranges.place)) c.requires.goes

  is : record_at (graph_after seen) c.args.held.node ≡ Some node
  is = record_is sort g.N.Node.body seen c.args.held c.requires.way.live c.requires.way.matches

  -- the next node was live while the node was held, began at the place or below, and was no root
  live : IsLive (graph_after seen) c.args.next
  live = led_live (graph_after seen) c.args.held.node c.args.place c.args.next node (good_now (c.sound_law.ensures.good sort n seen c.requires.pass.sound)) is leads

  low : (frame_after (blank_of sort) seen c.args.next).low ≤ c.args.place
  low = step_low (graph_after seen) (frame_after (blank_of sort) seen) (c.sound_law.ensures.facts sort n seen c.requires.pass.sound) c.args.held.node c.args.next c.args.place node is leads

  apart : c.args.next ≢ 0
  apart = no_root (graph_after seen) (frame_after (blank_of sort) seen) (c.sound_law.ensures.facts sort n seen c.requires.pass.sound) c.args.held.node c.args.next c.args.place node is leads (omega (arith, c.ranges.place))

  gave : GrowsWith me (Give me c.args.held.node) seen given
  gave = c.give.ensures.gave

  begins : seen ⊑ given
  begins = with_begins me (Give me c.args.held.node) seen given gave

  empty : hand me given ≡ []
  empty = gave_last me c.args.held.node seen given c.requires.way.alone (subst (λ (z : ℕ). hand z given ≡ drop_one c.args.held.node (hand me seen)) c.give.ensures.caller c.give.ensures.hand)

pub try_take-requires-clause-node : goal.try_take-requires-clause-node
try_take-requires-clause-node g c κs within = let at = (goal.at.try_take-requires-clause-node g c).After-give in let before = given g at in
    let near : c.args.next < n g at = is_near (sort g at) BeginsLink LinkStep (n g at) before c.args.next (omega arith) c.give.ensures.pass.sound ((c.sound_law.ensures.lasts (sort g at) (n g at) (seen g at) before (begins g at) c.give.ensures.pass.sound).live c.args.next (live g at)) in omega arith

pub unreachable-requires : goal.unreachable-requires
unreachable-requires g c = let at = (goal.at.unreachable-requires g c).After-give in let told = c.in-Gone.ensures.took in let after = seen_of c.try_take.new.pass in
    c.link_live_law.ensures (sort g at) (n g at) c.args.next (seen g at) after (begins_both (seen g at) (given g at) after (begins g at) (by_others_begins c.give.new.pass.caller (given g at) after told.0.grows)) c.try_take.ensures.pass.sound (live g at) told.1

-- if it takes the node

pub returns-in-Held-clause-went : goal.returns-in-Held-clause-went
returns-in-Held-clause-went g c = let at = (goal.at.returns-in-Held-clause-went g c).After-give in let after = seen_of c.try_take.new.pass in let e = c.in-Held.ensures in let x = c.args.held in let y = c.in-Held.taken in let shows = g.N.Node.body in
    let took = subst (λ (z : ℕ). HasTaken (sort g at) shows z c.args.next (given g at) after y) c.give.ensures.caller e.took in
    let all = begins_both (seen g at) (given g at) after (begins g at) (with_begins (me g at) _ (given g at) after took.grows) in
    let lasts = c.sound_law.ensures.lasts (sort g at) (n g at) (seen g at) after all e.pass.sound in
    let step = step_on (graph_after (seen g at)) (frame_after (blank_of (sort g at)) (seen g at)) (c.sound_law.ensures.facts (sort g at) (n g at) (seen g at) c.requires.pass.sound) x.node c.args.next c.args.place (node g at) (is g at) (leads g at) (omega (arith, c.ranges.place)) in (
      arrives (sort g at) shows (me g at) c.args.place c.args.next (given g at) after y (empty g at) took (omega (arith, low g at, lasts.low c.args.next (live g at))),
      on_from (frame_after (blank_of (sort g at)) (seen g at)) (frame_after (blank_of (sort g at)) after) x.node c.args.next y.node (shows x.body) (shows y.body) (shown (sort g at) shows (seen g at) x c.requires.way.live c.requires.way.matches).1 (shown (sort g at) shows after y took.live took.matches).1 took.node
          (lasts.level c.args.next (live g at) (apart g at)) (lasts.low c.args.next (live g at)) step,
      took.node,
    )

pub returns-in-Held-clause-under : goal.returns-in-Held-clause-under
returns-in-Held-clause-under g c = λ op start under. let at = (goal.at.returns-in-Held-clause-under g c).After-give in let after = seen_of c.try_take.new.pass in
    let took = subst (λ (z : ℕ). HasTaken (sort g at) g.N.Node.body z c.args.next (given g at) after c.in-Held.taken) c.give.ensures.caller c.in-Held.ensures.took in
    takes (sort g at) g.N.Node.body link_move (me g at) c.args.next op start (given g at) after c.in-Held.taken (λ k e. first_taken e tt) (empty g at) took (gives link_move (me g at) c.args.held.node op start (seen g at) (given g at) (empty g at) (gave g at) under)

pub returns-in-Held-clause-makes : goal.returns-in-Held-clause-makes
returns-in-Held-clause-makes g c = let at = (goal.at.returns-in-Held-clause-makes g c).After-give in let after = seen_of c.try_take.new.pass in
    let took = subst (λ (z : ℕ). HasTaken (sort g at) g.N.Node.body z c.args.next (given g at) after c.in-Held.taken) c.give.ensures.caller c.in-Held.ensures.took in
    makes_both (me g at) (seen g at) (given g at) after (begins g at) (with_begins (me g at) _ (given g at) after took.grows) (makes_with (me g at) _ (seen g at) (given g at) tt (gave g at)) (makes_with (me g at) _ (given g at) after tt took.grows)

-- if another caller has it

pub returns-in-Busy-clause-went : goal.returns-in-Busy-clause-went
returns-in-Busy-clause-went g c = let at = (goal.at.returns-in-Busy-clause-went g c).After-give in let after = seen_of c.try_take.new.pass in let told = c.in-Busy.ensures.took in
    let looked = subst (λ (z : ℕ). HasLooked z (given g at) after) c.give.ensures.caller told.0 in
    let other = subst (λ (z : ℕ). c.in-Busy.holder ≢ z) c.give.ensures.caller told.2 in (
      looked.hand ∙ empty g at,
      met_busy (me g at) c.in-Busy.holder c.args.place c.args.next c.args.held.node (node g at) (seen g at) after (begins_both (seen g at) (given g at) after (begins g at) (by_others_begins (me g at) (given g at) after looked.grows)) (is g at) (leads g at) told.1 other,
    )

pub returns-in-Busy-clause-under : goal.returns-in-Busy-clause-under
returns-in-Busy-clause-under g c = λ op start under. let at = (goal.at.returns-in-Busy-clause-under g c).After-give in let after = seen_of c.try_take.new.pass in
    let grows = subst (λ (z : ℕ). GrowsByOthers z (given g at) after) c.give.ensures.caller c.in-Busy.ensures.took.0.grows in
    underway_others link_move (me g at) op start (given g at) after grows (gives link_move (me g at) c.args.held.node op start (seen g at) (given g at) (empty g at) (gave g at) under)

pub returns-in-Busy-clause-makes : goal.returns-in-Busy-clause-makes
returns-in-Busy-clause-makes g c = let at = (goal.at.returns-in-Busy-clause-makes g c).After-give in let after = seen_of c.try_take.new.pass in
    let grows = subst (λ (z : ℕ). GrowsByOthers z (given g at) after) c.give.ensures.caller c.in-Busy.ensures.took.0.grows in
    makes_both (me g at) (seen g at) (given g at) after (begins g at) (by_others_begins (me g at) (given g at) after grows) (makes_with (me g at) _ (seen g at) (given g at) tt (gave g at)) (makes_others (me g at) (given g at) after grows)

-- the kinds of its events

pub returns-in-Held-clause-leaves : goal.returns-in-Held-clause-leaves
returns-in-Held-clause-leaves g c = let at = (goal.at.returns-in-Held-clause-leaves g c).After-give in let after = seen_of c.try_take.new.pass in
    let took = subst (λ (z : ℕ). HasTaken (sort g at) g.N.Node.body z c.args.next (given g at) after c.in-Held.taken) c.give.ensures.caller c.in-Held.ensures.took in
    does_both MaySearch (me g at) (seen g at) (given g at) after (searches_give (me g at) c.args.held.node (seen g at) (given g at) (gave g at)) (searches_take (me g at) c.args.next (given g at) after took.grows)

pub returns-in-Busy-clause-leaves : goal.returns-in-Busy-clause-leaves
returns-in-Busy-clause-leaves g c = let at = (goal.at.returns-in-Busy-clause-leaves g c).After-give in let after = seen_of c.try_take.new.pass in
    let grows = subst (λ (z : ℕ). GrowsByOthers z (given g at) after) c.give.ensures.caller c.in-Busy.ensures.took.0.grows in
    does_both MaySearch (me g at) (seen g at) (given g at) after (searches_give (me g at) c.args.held.node (seen g at) (given g at) (gave g at)) (does_others MaySearch (me g at) (given g at) after grows)
