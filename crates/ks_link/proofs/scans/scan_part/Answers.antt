use Rattle.std.proofs.Common.{◌≡◌, ℕ, ◌≤◌, ◌⊎◌, List, ap, inl, inr, arith}
use Rattle.std.proofs.lemmas.Bool.{cases_lt}
use Rattle.std.proofs.lemmas.Grind.{common_steps}
use Rattle.ks_history.specs.declared.Event.{Event}
use Rattle.ks_node.specs.Body.{Body, last_of}
use Rattle.ks_arena.specs.Sound.{Sort, sort_of}
use Rattle.ks_arena.specs.Clauses.{seen_of}
use Rattle.ks_shape.specs.Does.{MaySearch}
use Rattle.ks_shape.specs.Laws.Does.{does_on}
use Rattle.ks_lines.specs.declared.parts.Part.{Part}
use Rattle.ks_link.proofs.Spans.{part_done}
use Rattle.ks_link.proofs.scans.scan_part.Goals as goal

pub returns-clause-leaves : goal.returns-clause-leaves
returns-clause-leaves g c = does_on MaySearch c.args.pass.now.caller c.find-held.new.pass.caller (seen_of c.args.pass.now) (seen_of c.find-held.new.pass) (seen_of c.part_here.new.pass) c.find-held.ensures.caller c.find-held.ensures.leaves c.part_here.ensures.leaves

pub returns-clause-done : goal.returns-clause-done
returns-clause-done g c =
    let sort : Sort = sort_of g.N.Node.layout g.N.Node.ranged in
    let n : ℕ = c.args.arena.now.table.shared.table_id.slots in
    let s1 : List Event = seen_of c.part_here.new.pass in
    let part : Part = c.part_here.result in
    let b : Body = g.N.Node.body c.find-held.result.body in
    let found = c.find-held.ensures in
    let here = c.part_here.ensures in
    let last : last_of b.range ≡ c.range.result.last = ap last_of c.range.ensures in
    let stops : (part.last ≡ c.args.last) ⊎ (part.last ≡ last_of b.range) = elim (cases_lt c.range.result.last c.args.last) [
      | inl lt ↦ inr (grind (arith, common_steps, here.last, last, lt))
      | inr le ↦ inl (grind (arith, common_steps, here.last, le))
    ] in
    let from : c.args.low ≤ part.last = grind (arith, common_steps, here.last, found.ends.within.1, last) in
    let upto : part.last ≤ c.args.last = grind (arith, common_steps, here.last) in
    part_done sort g.N.Node.layout c.args.arena.now.nodes c.args.pass.now.caller c.find-held.new.pass.caller c.args.low c.args.last c.find-held.result.node b (seen_of c.args.pass.now) (seen_of c.find-held.new.pass) s1 part found.caller here.last here.at found.under from upto stops
    (λ k begins. c.sound_law.ensures.facts sort n k (c.sound_law.ensures.begins sort n k s1 begins here.over.pass.0.sound))
