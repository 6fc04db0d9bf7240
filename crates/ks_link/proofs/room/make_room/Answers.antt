use Rattle.std.proofs.Common.{◌≡◌, ◌≤◌, ℕ, List, false, sym, ap, subst, length, arith}
use Rattle.ks_keysets.specs.declared.Frame.{Frame}
use Rattle.ks_history.specs.Done.{link_move}
use Rattle.ks_history.specs.Laws.Stretch.{stretch_begins}
use Rattle.ks_node.specs.Body.{is_branch}
use Rattle.ks_arena.specs.Sound.{sort_of}
use Rattle.ks_arena.specs.Clauses.{seen_of}
use Rattle.ks_shape.specs.Laws.Single.{shown}
use Rattle.ks_link.specs.declared.parts.Waiting.{Waiting}
use Rattle.ks_link.specs.Leads.{LedBut}
use Rattle.ks_link.proofs.Rooms.{bare_grows, all_later, all_wait, waits_are}
use Rattle.ks_link.proofs.Ways.{at_level, ends_unbranched, ends_bare, ends_within, leaf_ends}
use Rattle.ks_link.proofs.room.make_room.Given.{Over}
use Rattle.ks_link.proofs.room.make_room.Goals as goal
use Rattle.ks_link.proofs.room.make_room.Goals.{After-node_law}

unbranched : (g : Over) (c : After-node_law g) → is_branch (g.N.Node.body c.args.held.body) ≡ false
unbranched g c = let sort = sort_of g.N.Node.layout g.N.Node.ranged in let n : ℕ = c.args.arena.now.table.shared.table_id.slots in let h = seen_of c.args.pass.now in
    ends_unbranched sort g.N.Node.body c.args.pass.now.caller c.args.place h c.args.held c.requires.way (c.sound_law.ensures.facts sort n h c.requires.pass.sound) (omega (arith, c.ranges.place)) c.node_law.ensures.sound c.requires.ends

bare : (g : Over) (c : After-node_law g) → length (g.N.Node.body c.args.held.body).starts ≡ 0
bare g c = let sort = sort_of g.N.Node.layout g.N.Node.ranged in let n : ℕ = c.args.arena.now.table.shared.table_id.slots in let h = seen_of c.args.pass.now in
    ends_bare sort g.N.Node.body c.args.pass.now.caller c.args.place h c.args.held c.requires.way (c.sound_law.ensures.facts sort n h c.requires.pass.sound) (omega (arith, c.ranges.place)) c.node_law.ensures.sound c.requires.ends c.node_law.ensures.framed

pub part-requires-clause-grows : goal.part-requires-clause-grows
part-requires-clause-grows g c = let at = (goal.at.part-requires-clause-grows g c).After-node_law in λ root.
    c.linked_law.ensures.grows_where c.args.held.body (bare_grows (is_branch (g.N.Node.body c.args.held.body)) (length (g.N.Node.body c.args.held.body).starts) (unbranched g at) (bare g at))

pub returns-in-Ok-clause-made : goal.returns-in-Ok-clause-made
returns-in-Ok-clause-made g c = let at = (goal.at.returns-in-Ok-clause-made g c).After-node_law in let sort = sort_of g.N.Node.layout g.N.Node.ranged in let n : ℕ = c.args.arena.now.table.shared.table_id.slots in let shows = g.N.Node.body in let h = seen_of c.args.pass.now in let k = seen_of c.part.new.pass in let x = c.args.held in let parted = c.in-Ok.ensures.parted in let half = c.in-Ok.field-0.half in
    let facts = c.sound_law.ensures.facts sort n h c.requires.pass.sound in let place : c.args.place ≤ 18446744073709551615 = omega (arith, c.ranges.place) in
    let level = at_level sort shows c.args.pass.now.caller c.args.place h x c.requires.way facts place c.node_law.ensures.sound c.requires.ends in
    let within = ends_within sort shows c.args.pass.now.caller c.args.place h x c.requires.way facts place c.node_law.ensures.sound c.requires.ends in (
      parted.0,
      leaf_ends sort shows c.args.place k half parted.0.live parted.0.matches (c.sound_law.ensures.facts sort n k c.part.ensures.pass.sound) place c.node_law-in-Ok.ensures.sound
          (omega (arith, parted.1, level, ap (λ (f : Frame). f.level) (shown sort shows h x c.requires.way.live c.requires.way.matches).1)) (parted.3 within),
    )

pub returns-in-Ok-clause-waiting : goal.returns-in-Ok-clause-waiting
returns-in-Ok-clause-waiting g c = let sort = sort_of g.N.Node.layout g.N.Node.ranged in let n : ℕ = c.args.arena.now.table.shared.table_id.slots in let me : ℕ = c.args.pass.now.caller in
    let h = seen_of c.args.pass.now in let k = seen_of c.part.new.pass in
    let first = c.sound_law.ensures.lasts sort n h k (stretch_begins link_move me h k c.part.ensures.stretch) c.part.ensures.pass.sound in
    all_wait sort k c.args.waiting.now.items c.wait_for.new.waiting.items c.in-Ok.field-0.new (all_later sort h k c.args.waiting.now.items first c.requires.waiting) (λ w is. (c.in-Ok.ensures.parted.2 w is).0) c.wait_for.ensures

pub returns-in-Ok-clause-led : goal.returns-in-Ok-clause-led
returns-in-Ok-clause-led g c = λ empty alone. let sort = sort_of g.N.Node.layout g.N.Node.ranged in
    subst (λ (ws : List Waiting). LedBut sort ws (seen_of c.args.pass.now) (seen_of c.part.new.pass)) (sym (waits_are c.args.waiting.now.items c.wait_for.new.waiting.items c.in-Ok.field-0.new empty c.wait_for.ensures)) (c.in-Ok.ensures.led alone)

pub returns-in-Err-clause-led : goal.returns-in-Err-clause-led
returns-in-Err-clause-led g c = λ empty alone. let sort = sort_of g.N.Node.layout g.N.Node.ranged in
    subst (λ (ws : List Waiting). LedBut sort ws (seen_of c.args.pass.now) (seen_of c.part.new.pass)) (sym empty) (c.in-Err.ensures.led alone)

pub returns-in-Err-clause-made : goal.returns-in-Err-clause-made
returns-in-Err-clause-made g c = let told = c.in-Err.ensures.parted in (
  told.0,
  record { alone = told.1.alone; live = told.1.live; matches = told.1.matches; low = c.requires.way.low },
  told.2,
)

pub returns-in-Err-clause-waiting : goal.returns-in-Err-clause-waiting
returns-in-Err-clause-waiting g c = let sort = sort_of g.N.Node.layout g.N.Node.ranged in let n : ℕ = c.args.arena.now.table.shared.table_id.slots in let me : ℕ = c.args.pass.now.caller in
    let h = seen_of c.args.pass.now in let k = seen_of c.part.new.pass in
    all_later sort h k c.args.waiting.now.items (c.sound_law.ensures.lasts sort n h k (stretch_begins link_move me h k c.part.ensures.stretch) c.part.ensures.pass.sound) c.requires.waiting

pub returns-in-Ok-clause-narrower : goal.returns-in-Ok-clause-narrower
returns-in-Ok-clause-narrower g c = c.in-Ok.ensures.narrower

-- the kinds of its events

pub returns-in-Ok-clause-fills : goal.returns-in-Ok-clause-fills
returns-in-Ok-clause-fills g c = λ must. c.part.ensures.fills c.args.place must

pub returns-in-Err-clause-fills : goal.returns-in-Err-clause-fills
returns-in-Err-clause-fills g c = λ must. c.part.ensures.fills c.args.place must
