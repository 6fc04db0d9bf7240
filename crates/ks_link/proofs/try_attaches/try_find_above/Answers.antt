use Rattle.std.proofs.Common.{◌≡◌, ℕ, ◌+◌, ◌<◌, ◌≤◌, [], sym, ap, ◌∙◌, length, subst, arith}
use Rattle.std.specs.Prelude.{Some}
use Rattle.ks_keysets.specs.declared.Frame.{Frame}
use Rattle.ks_keysets.specs.declared.Record.{Record}
use Rattle.ks_keysets.specs.declared.Span.{Span}
use Rattle.ks_keysets.specs.Record.{LeadsTo}
use Rattle.ks_keysets.specs.Keyset.{IsLive}
use Rattle.ks_history.specs.Own.{hand}
use Rattle.ks_history.specs.Trace.{graph_after}
use Rattle.ks_history.specs.Frames.{frame_after}
use Rattle.ks_history.specs.Laws.Begins.{good_now}
use Rattle.ks_history.specs.Done.{link_move}
use Rattle.ks_history.specs.Stretch.{Stretch}
use Rattle.ks_history.specs.Laws.Stretch.{stretch_both, stretch_begins}
use Rattle.ks_history.specs.Laws.Underway.{underway_here}
use Rattle.ks_flow.specs.Link.{IsRange}
use Rattle.ks_node.specs.Body.{Body, last_of}
use Rattle.ks_node.specs.Edges.{record_of}
use Rattle.ks_node.specs.Laws.Ways.{here_stays, next_leads}
use Rattle.ks_arena.specs.Sound.{sort_of, blank_of}
use Rattle.ks_arena.specs.Clauses.{seen_of}
use Rattle.ks_shape.specs.Laws.Single.{led_live, record_is, shown}
use Rattle.ks_link.specs.Descent.{IsOnWay}
use Rattle.ks_link.proofs.Nearer.{no_root, nearer}
use Rattle.ks_link.proofs.Parting.{split_off_later}
use Rattle.ks_link.proofs.Trying.{less_left}
use Rattle.ks_shape.specs.Does.{DoesOnly, MaySearch}
use Rattle.ks_shape.specs.Laws.Does.{does_both, does_to}
use Rattle.ks_link.proofs.try_attaches.try_find_above.Goals as goal
use Rattle.ks_link.proofs.try_attaches.try_find_above.Given.{Over}
use Rattle.ks_link.proofs.try_attaches.try_find_above.Goals.{After-sound_law, After-try_go_on}

-- what was split off begins at a place
cut_is_place : (g : Over) (c : After-sound_law g) → c.args.to.cut ≤ 18446744073709551615
cut_is_place g c = let sort = sort_of g.N.Node.layout g.N.Node.ranged in let n : ℕ = c.args.arena.now.table.shared.table_id.slots in let h = seen_of c.args.pass.now in let off = c.requires.off in
    let range = (c.sound_law.ensures.facts sort n h c.requires.pass.0.sound).range c.args.to.node off.live in omega (arith, off.low, range.1.low, range.1.filled, range.1.last)

pub returns-in-Err-clause-stretch : goal.returns-in-Err-clause-stretch
returns-in-Err-clause-stretch g c = λ op three. c.try_enter.ensures.under op

pub returns-in-Err-clause-above : goal.returns-in-Err-clause-above
returns-in-Err-clause-above g c = subst (λ (z : ℕ). hand z (seen_of c.try_enter.new.pass) ≡ []) (sym c.try_enter.ensures.caller) c.in-Err.ensures.entered.0

pub loop-to-init : goal.loop-to-init
loop-to-init g c = let sort = sort_of g.N.Node.layout g.N.Node.ranged in let n : ℕ = c.args.arena.now.table.shared.table_id.slots in let shows = g.N.Node.body in let h = seen_of c.args.pass.now in let k = seen_of c.try_enter.new.pass in let e = c.in-Ok.ensures in
    let me : ℕ = c.args.pass.now.caller in let x = c.in-Ok.root in
    let stretch : Stretch link_move me h k = λ op three. e.under op in
    let off = split_off_later sort h k c.args.to (c.sound_law.ensures.lasts sort n h k (stretch_begins link_move me h k stretch) e.pass.sound) c.requires.off in
    let high : (frame_after (blank_of sort) k c.args.to.node).level < (frame_after (blank_of sort) k 0).level = (c.sound_law.ensures.facts sort n k e.pass.sound).highest c.args.to.node off.live off.no_root in
    let frame = (shown sort shows k x e.entered.0.live e.entered.0.matches).1 in (
      e.pass,
      e.caller,
      subst (λ (z : ℕ). IsOnWay sort shows z c.args.to.cut k x) (sym e.caller) e.entered.0,
      omega (arith, high, off.level, ap (λ (f : Frame). f.level) frame, ap (λ (i : ℕ). (frame_after (blank_of sort) k i).level) e.entered.1),
      subst (λ (z : ℕ). Stretch link_move z h k) (sym e.caller) stretch,
      subst (λ (z : ℕ). DoesOnly MaySearch z h k) (sym e.caller) e.leaves,
    )

-- above the level each node leads on
pub unreachable-requires : goal.unreachable-requires
unreachable-requires g c = let sort = sort_of g.N.Node.layout g.N.Node.ranged in let n : ℕ = c.args.arena.now.table.shared.table_id.slots in let shows = g.N.Node.body in let h = seen_of c.loop-to.pass in let x = c.loop-to.held in let inv = c.loop-to.invariant in
    let facts = c.sound_law.ensures.facts sort n h inv.0.sound in let is = record_is sort shows h x inv.2.live inv.2.matches in let frame = (shown sort shows h x inv.2.live inv.2.matches).1 in
    here_stays (shows x.body) c.args.to.cut c.node_law.ensures.sound (sym c.next.ensures ∙ c.in_default.is)
    (facts.inside x.node (record_of (shows x.body)) c.args.to.cut is (omega (arith, ap (λ (f : Frame). f.level) frame, inv.3)) (omega (arith, ap (λ (f : Frame). f.low) frame, inv.2.low)) (cut_is_place g (goal.at.unreachable-requires g c).After-sound_law))

pub loop-to-smaller : goal.loop-to-smaller
loop-to-smaller g c = less_left (g.N.Node.body c.loop-to.held.body) (g.N.Node.body c.in-Ok-try_go_on.taken.body) (omega (arith, c.loop-to.invariant.2.low, cut_is_place g (goal.at.loop-to-smaller g c).After-sound_law)) c.in-Ok-try_go_on.ensures.went.1

module _ (g : Over) (c : After-try_go_on g) where
  -- one more step
  on : Stretch link_move c.loop-to.pass.caller (seen_of c.loop-to.pass) (seen_of c.try_go_on.new.pass)
  on = λ op three. let k = seen_of c.loop-to.pass in c.try_go_on.ensures.under op k (underway_here link_move c.loop-to.pass.caller op k (omega (arith, three, ap length c.loop-to.invariant.2.alone)))

  till : Stretch link_move c.loop-to.pass.caller (seen_of c.args.pass.now) (seen_of c.try_go_on.new.pass)
  till = stretch_both link_move c.loop-to.pass.caller (seen_of c.args.pass.now) (seen_of c.loop-to.pass) (seen_of c.try_go_on.new.pass) c.loop-to.invariant.4 on

pub loop-to-preserved : goal.loop-to-preserved
loop-to-preserved g c = let at = (goal.at.loop-to-preserved g c).After-try_go_on in let sort = sort_of g.N.Node.layout g.N.Node.ranged in let n : ℕ = c.args.arena.now.table.shared.table_id.slots in let shows = g.N.Node.body in let h = seen_of c.args.pass.now in let k = seen_of c.loop-to.pass in let l = seen_of c.try_go_on.new.pass in let me : ℕ = c.loop-to.pass.caller in let inv = c.loop-to.invariant in let e = c.in-Ok-try_go_on.ensures in
    let x = c.loop-to.held in let y = c.in-Ok-try_go_on.taken in let cut : ℕ = c.args.to.cut in let low : ℕ = c.args.to.level in let b : Body = shows x.body in let r : Record = record_of b in let next : ℕ = c.in-Go.next in
    let place : cut ≤ 18446744073709551615 = cut_is_place g (goal.at.loop-to-preserved g c).After-sound_law in
    let facts = c.sound_law.ensures.facts sort n k inv.0.sound in let is = record_is sort shows k x inv.2.live inv.2.matches in let frame = (shown sort shows k x inv.2.live inv.2.matches).1 in
    let leads : LeadsTo r cut next = next_leads b cut next c.node_law.ensures.sound place (sym c.next.ensures ∙ c.in-Go.is) in
    let away : (s : Span) → IsRange (frame_after (blank_of sort) k x.node) s → (frame_after (blank_of sort) k x.node).level ≡ low + 1 → s.last < cut = λ s range is_next.
    let has : b.range ≡ Some s = sym (ap (λ (f : Frame). f.range) frame) ∙ range.is in
    let last : last_of b.range ≡ s.last = ap last_of has in
    omega (arith, last, c.is_over.ensures.no c.if-is_over.false (omega (arith, is_next, ap (λ (f : Frame). f.level) frame))) in
    let up : low < (frame_after (blank_of sort) k next).level = nearer (graph_after k) (frame_after (blank_of sort) k) facts x.node next cut r is leads place low (omega (arith, ap (λ (f : Frame). f.level) frame, inv.3)) away in
    let live : IsLive (graph_after k) next = led_live (graph_after k) x.node cut next r (good_now (c.sound_law.ensures.good sort n k inv.0.sound)) is leads in
    let lasts = c.sound_law.ensures.lasts sort n k l (stretch_begins link_move me k l (on g at)) e.pass.sound in
    let same = lasts.level next live (no_root (graph_after k) (frame_after (blank_of sort) k) facts x.node next cut r is leads place) in
    let after = (shown sort shows l y e.went.0.live e.went.0.matches).1 in (
      e.pass,
      e.caller ∙ inv.1,
      subst (λ (z : ℕ). IsOnWay sort shows z cut l y) (sym e.caller) e.went.0,
      omega (arith, up, same, ap (λ (f : Frame). f.level) after, ap (λ (i : ℕ). (frame_after (blank_of sort) l i).level) e.went.2),
      subst (λ (z : ℕ). Stretch link_move z h l) (sym e.caller) (till g at),
      does_to MaySearch me c.try_go_on.new.pass.caller h k l e.caller inv.5 e.leaves,
    )

pub returns-in-Err-try_go_on-clause-caller : goal.returns-in-Err-try_go_on-clause-caller
returns-in-Err-try_go_on-clause-caller g c = c.try_go_on.ensures.caller ∙ c.loop-to.invariant.1

pub returns-in-Err-try_go_on-clause-above : goal.returns-in-Err-try_go_on-clause-above
returns-in-Err-try_go_on-clause-above g c = subst (λ (z : ℕ). hand z (seen_of c.try_go_on.new.pass) ≡ []) (sym c.try_go_on.ensures.caller) c.in-Err-try_go_on.ensures.went.0

pub returns-in-Err-try_go_on-clause-stretch : goal.returns-in-Err-try_go_on-clause-stretch
returns-in-Err-try_go_on-clause-stretch g c = let at = (goal.at.returns-in-Err-try_go_on-clause-stretch g c).After-try_go_on in subst (λ (z : ℕ). Stretch link_move z (seen_of c.args.pass.now) (seen_of c.try_go_on.new.pass)) c.loop-to.invariant.1 (till g at)

pub returns-then-is_over-clause-above : goal.returns-then-is_over-clause-above
returns-then-is_over-clause-above g c = let told = c.is_over.ensures.yes c.if-is_over.true in (c.loop-to.invariant.2, told.0, told.1)

-- the kinds of its events

pub returns-in-Err-try_go_on-clause-leaves : goal.returns-in-Err-try_go_on-clause-leaves
returns-in-Err-try_go_on-clause-leaves g c = let inv = c.loop-to.invariant in let h = seen_of c.args.pass.now in let k = seen_of c.loop-to.pass in let l = seen_of c.try_go_on.new.pass in
    subst (λ (z : ℕ). DoesOnly MaySearch z h l) inv.1 (does_both MaySearch c.loop-to.pass.caller h k l inv.5 c.try_go_on.ensures.leaves)

pub returns-then-is_over-clause-leaves : goal.returns-then-is_over-clause-leaves
returns-then-is_over-clause-leaves g c = let inv = c.loop-to.invariant in subst (λ (z : ℕ). DoesOnly MaySearch z (seen_of c.args.pass.now) (seen_of c.loop-to.pass)) inv.1 inv.5
