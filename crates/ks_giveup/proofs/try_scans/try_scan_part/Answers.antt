use Rattle.std.proofs.Common.{◌≡◌, ◌≤◌, ◌++◌, ℕ, suc, length, ap, sym, subst, ◌∙◌, arith}
use Rattle.std.specs.Prelude.{min}
use Rattle.ks_keysets.specs.declared.Frame.{Frame}
use Rattle.ks_keysets.specs.Keyset.{InKeyset}
use Rattle.ks_history.specs.declared.Op.{Op}
use Rattle.ks_history.specs.declared.Op.TheVariants.{Part as lists}
use Rattle.ks_history.specs.declared.Reply.TheVariants.{Listed}
use Rattle.ks_history.specs.Done.{give_up, DoneAt}
use Rattle.ks_history.specs.Frames.{frame_after}
use Rattle.ks_history.specs.Own.{hand}
use Rattle.ks_history.specs.Trace.{graph_after}
use Rattle.ks_history.specs.Underway.{Underway}
use Rattle.ks_history.specs.Laws.Underway.{left_of}
use Rattle.ks_node.specs.Body.{frame_of}
use Rattle.ks_arena.specs.Clauses.{seen_of}
use Rattle.ks_arena.specs.Sound.{sort_of, blank_of}
use Rattle.ks_shape.specs.Does.{MaySearch}
use Rattle.ks_shape.specs.Laws.Does.{does_on}
use Rattle.ks_shape.specs.Laws.Parts.{part_done}
use Rattle.ks_shape.specs.SearchEnd.{IsEnd}
use Rattle.ks_giveup.proofs.Spans.{before_it, lesser, past_range, reaches_low, span_ends}
use Rattle.ks_giveup.proofs.Way.{ends_goes}
use Rattle.ks_giveup.proofs.try_scans.try_scan_part.Given.{Over}
use Rattle.ks_giveup.proofs.try_scans.try_scan_part.Goals as goal
use Rattle.ks_giveup.proofs.try_scans.try_scan_part.Goals.{After-part_here, After-range-range}

-- the range of the node that was found reaches the first place
reached : (g : Over) (c : After-range-range g) → c.args.low ≤ c.range-range.result.last
reached g c = let sort = sort_of g.N.Node.layout g.N.Node.ranged in let h = seen_of c.try_find.new.pass in let e = c.in-Ok.ensures in
    reaches_low sort g.N.Node.body c.args.pass.now.caller c.args.low h c.in-Ok.held e.came (c.sound_law.ensures.facts sort c.args.arena.now.table.shared.table_id.slots h e.pass.sound) c.node_law.ensures.sound (c.node_law.ensures.adopting c.listed_law.ensures.adopts).bare c.range-range.result c.range-range.ensures

-- the call was decided at that node, as far as it had come
decided : (g : Over) (c : After-part_here g) → DoneAt g.N.Node.layout give_up c.args.arena.now.nodes c.args.pass.now.caller (lists c.args.low c.part_here.result.last) (seen_of c.args.pass.now) (seen_of c.part_here.new.pass) (Listed c.part_here.result.pairs) c.part_here.result.number c.in-Ok.held.node (blank_of (sort_of g.N.Node.layout g.N.Node.ranged)) (frame_of (g.N.Node.body c.in-Ok.held.body))
decided g c = let e = c.in-Ok.ensures in let s = seen_of c.args.pass.now in let k = seen_of c.try_find.new.pass in let l = seen_of c.part_here.new.pass in
    let op = lists c.args.low c.min-end.result in let x = c.in-Ok.held in let r = c.part_here.result in
    let blank = blank_of (sort_of g.N.Node.layout g.N.Node.ranged) in let frame = frame_of (g.N.Node.body c.in-Ok.held.body) in
    subst (λ (z : ℕ). DoneAt g.N.Node.layout give_up c.args.arena.now.nodes c.args.pass.now.caller (lists c.args.low z) s l (Listed r.pairs) r.number x.node blank frame) (sym c.part_here.ensures.last)
    (subst (λ (z : ℕ). DoneAt g.N.Node.layout give_up c.args.arena.now.nodes z op s l (Listed r.pairs) r.number x.node blank frame) e.caller
    (c.part_here.ensures.at give_up s (subst (λ (z : ℕ). Underway give_up z op s k) (sym e.caller) (e.under op))))

pub part_here-requires-clause-ends : goal.part_here-requires-clause-ends
part_here-requires-clause-ends g c κs within = λ p from to. let sort = sort_of g.N.Node.layout g.N.Node.ranged in let h = seen_of c.try_find.new.pass in let e = c.in-Ok.ensures in
    subst (λ (z : ℕ). IsEnd sort g.N.Node.body z p h c.in-Ok.held) (sym e.caller)
    (span_ends sort g.N.Node.body c.args.pass.now.caller c.args.low h c.in-Ok.held e.came (c.sound_law.ensures.facts sort c.args.arena.now.table.shared.table_id.slots h e.pass.sound) c.node_law.ensures.sound (c.node_law.ensures.adopting c.listed_law.ensures.adopts).bare c.range-range.result c.range-range.ensures p from (omega (arith, to, c.min-end.ensures)))

pub part_here-requires-clause-span : goal.part_here-requires-clause-span
part_here-requires-clause-span g c κs within = omega (arith, c.requires.span, c.min-end.ensures, reached g (goal.at.part_here-requires-clause-span g c).After-range-range)

pub returns-in-Ok-clause-done : goal.returns-in-Ok-clause-done
returns-in-Ok-clause-done g c = let s = seen_of c.args.pass.now in let l = seen_of c.part_here.new.pass in let at = decided g c in
    let sort = sort_of g.N.Node.layout g.N.Node.ranged in
    let reach : ℕ = c.range-range.result.last in
    let end : ℕ = c.part_here.result.last in
    let slots = c.args.arena.now.table.shared.table_id.slots in
    let k = at.done.before ++ s in
    let facts = c.sound_law.ensures.facts sort slots k (c.sound_law.ensures.begins sort slots k l (before_it at) c.part_here.ensures.over.pass.0.sound) in
    let is : end ≡ min c.args.last reach = c.part_here.ensures.last ∙ c.min-end.ensures in
    part_done g.N.Node.layout give_up c.args.arena.now.nodes c.args.pass.now.caller c.args.low c.args.last s l c.part_here.result c.in-Ok.held.node (blank_of sort) (frame_of (g.N.Node.body c.in-Ok.held.body)) at
    (omega (arith, c.requires.span, is, reached g (goal.at.returns-in-Ok-clause-done g c).After-range-range))
    (omega (arith, is))
    (lesser c.args.last reach end (¬ InKeyset (graph_after k) c.in-Ok.held.node (suc end)) is (λ past. past_range (graph_after k) (frame_after (blank_of sort) k) c.in-Ok.held.node c.range-range.result (suc end) facts (ap (λ (f : Frame). f.range) at.framed ∙ c.range-range.ensures) past))

pub returns-in-Ok-clause-goes : goal.returns-in-Ok-clause-goes
returns-in-Ok-clause-goes g c = let e = c.in-Ok.ensures in let k = seen_of c.try_find.new.pass in
    ends_goes c.args.pass.now.caller c.try_find.new.pass.caller c.args.low (lists c.args.low c.min-end.result) (seen_of c.args.pass.now) k (seen_of c.part_here.new.pass) e.caller (subst (λ (z : ℕ). length (hand z k) ≤ 1) (sym e.caller) (omega (arith, ap length e.came.alone))) e.goes c.part_here.ensures.done

pub returns-in-Ok-clause-leaves : goal.returns-in-Ok-clause-leaves
returns-in-Ok-clause-leaves g c = does_on MaySearch c.args.pass.now.caller c.try_find.new.pass.caller (seen_of c.args.pass.now) (seen_of c.try_find.new.pass) (seen_of c.part_here.new.pass) c.try_find.ensures.caller c.try_find.ensures.leaves c.part_here.ensures.leaves

pub returns-in-Err-clause-put_off : goal.returns-in-Err-clause-put_off
returns-in-Err-clause-put_off g c = let op : Op = lists c.args.low c.args.last in let e = c.in-Err.ensures in
    record { left = left_of give_up c.args.pass.now.caller op (seen_of c.args.pass.now) (seen_of c.try_find.new.pass) (e.under op) e.came.0; cause = e.came.1 op (omega (arith), c.requires.span) }

pub returns-in-Err-clause-goes : goal.returns-in-Err-clause-goes
returns-in-Err-clause-goes g c = c.in-Err.ensures.goes
