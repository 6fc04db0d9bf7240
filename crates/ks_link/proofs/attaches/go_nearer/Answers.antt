use Rattle.std.proofs.Common.{◌≡◌, ℕ, ◌+◌, ◌<◌, ◌≤◌, sym, ap, ◌∙◌, length, arith}
use Rattle.ks_history.specs.Laws.Underway.{underway_here}
use Rattle.std.specs.Prelude.{Some}
use Rattle.ks_keysets.specs.declared.Frame.{Frame}
use Rattle.ks_keysets.specs.declared.Record.{Record}
use Rattle.ks_keysets.specs.declared.Span.{Span}
use Rattle.ks_keysets.specs.Record.{LeadsTo}
use Rattle.ks_keysets.specs.Keyset.{IsLive}
use Rattle.ks_history.specs.Trace.{graph_after}
use Rattle.ks_history.specs.Frames.{frame_after}
use Rattle.ks_history.specs.Laws.Begins.{good_now}
use Rattle.ks_history.specs.Done.{link_move}
use Rattle.ks_flow.specs.Link.{IsRange}
use Rattle.ks_node.specs.Body.{Body, last_of}
use Rattle.ks_node.specs.Edges.{record_of}
use Rattle.ks_node.specs.Laws.Ways.{here_stays, next_leads}
use Rattle.ks_arena.specs.Sound.{sort_of, blank_of}
use Rattle.ks_arena.specs.Clauses.{seen_of}
use Rattle.ks_shape.specs.Laws.Single.{led_live, record_is, shown}
use Rattle.ks_history.specs.Stretch.{Stretch}
use Rattle.ks_history.specs.Laws.Stretch.{stretch_begins}
use Rattle.ks_link.proofs.Nearer.{no_root, nearer}
use Rattle.ks_link.proofs.attaches.go_nearer.Goals as goal

pub unreachable-requires : goal.unreachable-requires
unreachable-requires g c = let sort = sort_of g.N.Node.layout g.N.Node.ranged in let n : ℕ = c.args.arena.now.table.shared.table_id.slots in let shows = g.N.Node.body in let h = seen_of c.args.pass.now in let x = c.args.held in
    let facts = c.sound_law.ensures.facts sort n h c.requires.pass.sound in let is = record_is sort shows h x c.requires.way.live c.requires.way.matches in let frame = (shown sort shows h x c.requires.way.live c.requires.way.matches).1 in
    here_stays (shows x.body) c.args.cut c.node_law.ensures.sound (sym c.next.ensures ∙ c.in_default.is)
    (facts.inside x.node (record_of (shows x.body)) c.args.cut is (omega (arith, ap (λ (f : Frame). f.level) frame, c.requires.above)) (omega (arith, ap (λ (f : Frame). f.low) frame, c.requires.way.low)) (omega (arith, c.ranges.cut)))

pub returns-clause-stretch : goal.returns-clause-stretch
returns-clause-stretch g c = λ op three. let h = seen_of c.args.pass.now in c.take_next.ensures.under op h (underway_here link_move c.args.pass.now.caller op h (omega (arith, three, ap length c.requires.way.alone)))

pub returns-clause-above : goal.returns-clause-above
returns-clause-above g c = let sort = sort_of g.N.Node.layout g.N.Node.ranged in let n : ℕ = c.args.arena.now.table.shared.table_id.slots in let shows = g.N.Node.body in let h = seen_of c.args.pass.now in let k = seen_of c.take_next.new.pass in let x = c.args.held in let y = c.take_next.result in
    let me : ℕ = c.args.pass.now.caller in let next : ℕ = c.in-Go.next in let cut : ℕ = c.args.cut in let b : Body = shows x.body in let r : Record = record_of b in
    let place : cut ≤ 18446744073709551615 = omega (arith, c.ranges.cut) in
    let facts = c.sound_law.ensures.facts sort n h c.requires.pass.sound in let is = record_is sort shows h x c.requires.way.live c.requires.way.matches in let frame = (shown sort shows h x c.requires.way.live c.requires.way.matches).1 in
    let leads : LeadsTo r cut next = next_leads b cut next c.node_law.ensures.sound place (sym c.next.ensures ∙ c.in-Go.is) in
    let live : IsLive (graph_after h) next = led_live (graph_after h) x.node cut next r (good_now (c.sound_law.ensures.good sort n h c.requires.pass.sound)) is leads in
    let away : (s : Span) → IsRange (frame_after (blank_of sort) h x.node) s → (frame_after (blank_of sort) h x.node).level ≡ c.args.level + 1 → s.last < cut = λ s range at.
    let has : b.range ≡ Some s = sym (ap (λ (f : Frame). f.range) frame) ∙ range.is in
    let last : last_of b.range ≡ s.last = ap last_of has in
    omega (arith, last, c.requires.away (omega (arith, at, ap (λ (f : Frame). f.level) frame))) in
    let up : c.args.level < (frame_after (blank_of sort) h next).level = nearer (graph_after h) (frame_after (blank_of sort) h) facts x.node next cut r is leads place c.args.level (omega (arith, ap (λ (f : Frame). f.level) frame, c.requires.above)) away in
    let stretch : Stretch link_move me h k = λ op three. c.take_next.ensures.under op h (underway_here link_move me op h (omega (arith, three, ap length c.requires.way.alone))) in
    let lasts = c.sound_law.ensures.lasts sort n h k (stretch_begins link_move me h k stretch) c.take_next.ensures.pass.sound in
    let same = lasts.level next live (no_root (graph_after h) (frame_after (blank_of sort) h) facts x.node next cut r is leads place) in
    let after = (shown sort shows k y c.take_next.ensures.way.live c.take_next.ensures.way.matches).1 in
    omega (arith, up, same, ap (λ (f : Frame). f.level) after, ap (λ (i : ℕ). (frame_after (blank_of sort) k i).level) c.take_next.ensures.node)

pub returns-clause-leaves : goal.returns-clause-leaves
returns-clause-leaves g c = c.take_next.ensures.leaves
