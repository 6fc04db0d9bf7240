use Rattle.std.proofs.Common.{refl, sym, ◌∙◌}
use Rattle.ks_arena.specs.declared.held.Held.{Held as Hand}
use Rattle.ks_arena.specs.Sound.{sort_of}
use Rattle.ks_arena.specs.Clauses.{seen_of}
use Rattle.ks_shape.specs.Laws.SearchEnd.{unbranched, below_own}
use Rattle.ks_shape.proofs.Concludes.{framed_before}
use Rattle.ks_shape.proofs.here.add_here.Goals as goal

pub put-requires-clause-no_branch : goal.put-requires-clause-no_branch
put-requires-clause-no_branch g c = unbranched (sort_of g.N.Node.layout g.N.Node.ranged) g.N.Node.body c.args.pass.now.caller c.args.place (seen_of c.args.pass.now) c.args.held c.requires.room.ends c.node_law.ensures.sound

pub put-requires-clause-below_own : goal.put-requires-clause-below_own
put-requires-clause-below_own g c = below_own (sort_of g.N.Node.layout g.N.Node.ranged) g.N.Node.body c.args.pass.now.caller c.args.place (seen_of c.args.pass.now) c.args.held c.requires.room.ends c.node_law.ensures.sound

pub put-requires-clause-room : goal.put-requires-clause-room
put-requires-clause-room g c = c.requires.room.room

pub conclude_found-number-requires-clause-ready : goal.conclude_found-number-requires-clause-ready
conclude_found-number-requires-clause-ready g c κs within = let x : Hand g.row.N.Denot = record { node = c.args.held.node; body = c.put.new.self; live = c.args.held.live } in
    c.add_law.ensures.adds (sym c.get.ensures ∙ c.in_default.is) x refl c.requires.room.ends.live c.put.ensures.body

pub conclude_found-number-requires-2-clause-ready : goal.conclude_found-number-requires-2-clause-ready
conclude_found-number-requires-2-clause-ready g c κs within = c.add_law.ensures.stays c.in-Some.found (sym c.get.ensures ∙ c.in-Some.is)

pub returns-in_default-clause-at : goal.returns-in_default-clause-at
returns-in_default-clause-at g c = λ template start under. let b = g.N.Node.body c.args.held.body in framed_before b (g.N.Node.body c.put.new.self) _ c.put.ensures.body (c.conclude_found-number.ensures.at template start under)
