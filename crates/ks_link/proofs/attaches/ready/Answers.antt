use Rattle.std.proofs.Common.{ℕ, inl, inr, ap, length, arith, ◌≡◌, ◌∙◌, true, false, sym}
use Rattle.std.specs.Prelude.{IsTrue}
use Rattle.ks_history.specs.Done.{link_move}
use Rattle.ks_history.specs.Laws.Stays.{lawful_in_turn}
use Rattle.ks_history.specs.Laws.Stretch.{stretch_here}
use Rattle.ks_history.specs.Trace.{graph_after}
use Rattle.ks_history.specs.Frames.{frame_after}
use Rattle.ks_node.specs.Body.{is_branch}
use Rattle.ks_arena.specs.Sound.{sort_of, blank_of}
use Rattle.ks_arena.specs.Clauses.{seen_of}
use Rattle.ks_shape.specs.Laws.Makes.{never_refused}
use Rattle.ks_shape.specs.Laws.Single.{record_is, shown}
use Rattle.ks_link.proofs.Nearer.{branch_above}
use Rattle.ks_shape.specs.Does.{MayFill}
use Rattle.ks_shape.specs.Laws.Does.{does_none}
use Rattle.ks_link.proofs.attaches.ready.Given.{Over}
use Rattle.ks_link.proofs.attaches.ready.Goals as goal
use Rattle.ks_link.proofs.attaches.ready.Goals.{After-node_law}

is_branched : (g : Over) (c : After-node_law g) → IsTrue g.N.Node.branches_adopt → IsTrue (is_branch (g.N.Node.body c.args.held.body))
is_branched g c adopts = let sort = sort_of g.N.Node.layout g.N.Node.ranged in let n : ℕ = c.args.arena.now.table.shared.table_id.slots in let shows = g.N.Node.body in let h = seen_of c.args.pass.now in let x = c.args.held in let r = c.requires in
    branch_above (graph_after h) (frame_after (blank_of sort) h) x.node c.args.cut (shows x.body) (c.sound_law.ensures.facts sort n h r.pass.sound) (record_is sort shows h x r.way.live r.way.matches) (shown sort shows h x r.way.live r.way.matches).1 r.above r.way.low (omega (arith, c.ranges.cut)) r.within c.node_law.ensures.sound (c.node_law.ensures.adopting adopts).bare

pub returns-then-not-must_part-clause-stretch : goal.returns-then-not-must_part-clause-stretch
returns-then-not-must_part-clause-stretch g c = let h = seen_of c.args.pass.now in stretch_here link_move c.args.pass.now.caller h h (omega (arith, ap length c.requires.way.alone))

pub returns-then-not-must_part-clause-led : goal.returns-then-not-must_part-clause-led
returns-then-not-must_part-clause-led g c = λ alone i live. inl live

pub returns-then-not-must_part-clause-ready : goal.returns-then-not-must_part-clause-ready
returns-then-not-must_part-clause-ready g c = λ adopts halves alone two. let at = (goal.at.returns-then-not-must_part-clause-ready g c).After-node_law in
    c.must_part.ensures.room c.if-not-must_part.true (is_branched g at adopts)

pub returns-in-Ok-clause-ready : goal.returns-in-Ok-clause-ready
returns-in-Ok-clause-ready g c = λ adopts halves alone two. inr (c.in-Ok.ensures.room halves)

pub returns-in-Err-clause-ready : goal.returns-in-Err-clause-ready
returns-in-Err-clause-ready g c = λ adopts halves alone two. let sort = sort_of g.N.Node.layout g.N.Node.ranged in let n : ℕ = c.args.arena.now.table.shared.table_id.slots in let h = seen_of c.args.pass.now in let k = seen_of c.part.new.pass in let law = c.sound_law.ensures in
    absurd (never_refused g.N.Node.layout c.args.arena.now.nodes c.args.pass.now.caller c.args.cut h k alone (lawful_in_turn k (law.lawful sort n k c.part.ensures.pass.sound)) (λ m before i live. (law.lasts sort n m k before c.part.ensures.pass.sound).live i live) two c.in-Err.ensures.parted.2)

-- the kinds of its events

pub returns-then-not-must_part-clause-fills : goal.returns-then-not-must_part-clause-fills
returns-then-not-must_part-clause-fills g c = λ place. does_none (MayFill (sort_of g.N.Node.layout g.N.Node.ranged) place) c.args.pass.now.caller (seen_of c.args.pass.now)

pub returns-in-Ok-clause-fills : goal.returns-in-Ok-clause-fills
returns-in-Ok-clause-fills g c = λ place. c.part.ensures.fills place (let full = c.must_part.ensures.full c.if-not-must_part.false in (full.1, λ leaf. absurd (let q : true ≡ false = sym full.0 ∙ leaf in let z : ⊥ = cc in z)))

pub returns-in-Err-clause-fills : goal.returns-in-Err-clause-fills
returns-in-Err-clause-fills g c = λ place. c.part.ensures.fills place (let full = c.must_part.ensures.full c.if-not-must_part.false in (full.1, λ leaf. absurd (let q : true ≡ false = sym full.0 ∙ leaf in let z : ⊥ = cc in z)))
