use Rattle.std.proofs.Common.{◌≡◌, ℕ, ◌≤◌, ◌⊎◌, List, ap, inl, inr, arith, sym, subst}
use Rattle.std.proofs.lemmas.Bool.{cases_lt}
use Rattle.std.proofs.lemmas.Grind.{common_steps}
use Rattle.ks_history.specs.declared.Event.{Event}
use Rattle.ks_history.specs.declared.Op.{Op}
use Rattle.ks_history.specs.declared.Op.TheVariants.{Part as lists}
use Rattle.ks_history.specs.Done.{link_move}
use Rattle.ks_history.specs.Laws.Underway.{left_of}
use Rattle.ks_node.specs.Body.{Body, last_of}
use Rattle.ks_arena.specs.Sound.{Sort, sort_of}
use Rattle.ks_arena.specs.Clauses.{seen_of}
use Rattle.ks_shape.specs.Does.{MaySearch}
use Rattle.ks_shape.specs.Laws.Does.{does_on}
use Rattle.ks_shape.specs.SearchEnd.{IsEnd}
use Rattle.ks_lines.specs.declared.parts.Part.{Part}
use Rattle.ks_link.specs.Descent.{IsOnWay}
use Rattle.ks_link.proofs.Spans.{part_done}
use Rattle.ks_link.proofs.try_scans.try_scan_part.Goals as goal

pub span_law-requires-clause-way : goal.span_law-requires-clause-way
span_law-requires-clause-way g c = subst (λ (z : ℕ). IsOnWay (sort_of g.N.Node.layout g.N.Node.ranged) g.N.Node.body z c.args.low (seen_of c.try_find.new.pass) c.in-Ok.held) (sym c.try_find.ensures.caller) c.in-Ok.ensures.found.0

pub span_law-requires-clause-ends : goal.span_law-requires-clause-ends
span_law-requires-clause-ends g c = subst (λ (z : ℕ). IsEnd (sort_of g.N.Node.layout g.N.Node.ranged) g.N.Node.body z c.args.low (seen_of c.try_find.new.pass) c.in-Ok.held) (sym c.try_find.ensures.caller) c.in-Ok.ensures.found.1

pub returns-in-Ok-clause-leaves : goal.returns-in-Ok-clause-leaves
returns-in-Ok-clause-leaves g c = does_on MaySearch c.args.pass.now.caller c.try_find.new.pass.caller (seen_of c.args.pass.now) (seen_of c.try_find.new.pass) (seen_of c.part_here.new.pass) c.try_find.ensures.caller c.try_find.ensures.leaves c.part_here.ensures.leaves

pub returns-in-Ok-clause-done : goal.returns-in-Ok-clause-done
returns-in-Ok-clause-done g c =
    let sort : Sort = sort_of g.N.Node.layout g.N.Node.ranged in
    let n : ℕ = c.args.arena.now.table.shared.table_id.slots in
    let s1 : List Event = seen_of c.part_here.new.pass in
    let part : Part = c.part_here.result in
    let b : Body = g.N.Node.body c.in-Ok.held.body in
    let e = c.in-Ok.ensures in
    let here = c.part_here.ensures in
    let last : last_of b.range ≡ c.range.result.last = ap last_of c.range.ensures in
    let stops : (part.last ≡ c.args.last) ⊎ (part.last ≡ last_of b.range) = elim (cases_lt c.range.result.last c.args.last) [
      | inl lt ↦ inr (grind (arith, common_steps, here.last, last, lt))
      | inr le ↦ inl (grind (arith, common_steps, here.last, le))
    ] in
    let from : c.args.low ≤ part.last = grind (arith, common_steps, here.last, e.found.1.within.1, last) in
    let upto : part.last ≤ c.args.last = grind (arith, common_steps, here.last) in
    part_done sort g.N.Node.layout c.args.arena.now.nodes c.args.pass.now.caller c.try_find.new.pass.caller c.args.low c.args.last c.in-Ok.held.node b (seen_of c.args.pass.now) (seen_of c.try_find.new.pass) s1 part e.caller here.last here.at e.under from upto stops
    (λ k begins. c.sound_law.ensures.facts sort n k (c.sound_law.ensures.begins sort n k s1 begins here.over.pass.0.sound))

pub returns-in-Err-clause-put_off : goal.returns-in-Err-clause-put_off
returns-in-Err-clause-put_off g c = let op : Op = lists c.args.low c.args.last in let e = c.in-Err.ensures in
    record { left = left_of link_move c.args.pass.now.caller op (seen_of c.args.pass.now) (seen_of c.try_find.new.pass) (e.under op) e.found.0; cause = e.found.1 op (omega (arith), c.requires.span) }
