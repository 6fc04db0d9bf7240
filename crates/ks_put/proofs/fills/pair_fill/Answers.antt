use Rattle.ks_arena.specs.Sound.{sort_of}
use Rattle.ks_arena.specs.Clauses.{seen_of}
use Rattle.ks_put.proofs.Going.{ended_since, filled_since}
use Rattle.ks_shape.specs.Laws.Does.{fills_search}
use Rattle.ks_put.proofs.fills.pair_fill.Goals as goal

pub fill_at-requires-clause-found : goal.fill_at-requires-clause-found
fill_at-requires-clause-found g c κs within = let e = c.make_room-found.ensures in
    ended_since (sort_of g.N.Node.layout g.N.Node.ranged) g.N.Node.body c.args.arena.now.nodes c.args.place c.args.pass.now.caller c.make_room-found.new.pass.caller (seen_of c.args.pass.now) (seen_of c.make_room-found.new.pass) c.make_room-found.result e.caller e.stretch e.room

pub returns-clause-done : goal.returns-clause-done
returns-clause-done g c = λ template start under. let e = c.make_room-found.ensures in
    filled_since (sort_of g.N.Node.layout g.N.Node.ranged) g.N.Node.body template c.args.arena.now.nodes c.args.place c.args.pass.now.caller c.make_room-found.new.pass.caller c.args.fill start (seen_of c.args.pass.now) (seen_of c.make_room-found.new.pass) (seen_of c.fill_at.new.pass) c.make_room-found.result c.fill_at.result e.caller e.stretch e.room under (c.fill_at.ensures.done template start)

pub returns-clause-fills : goal.returns-clause-fills
returns-clause-fills g c = let e = c.make_room-found.ensures in fills_search (sort_of g.N.Node.layout g.N.Node.ranged) c.args.place c.args.pass.now.caller c.make_room-found.new.pass.caller (seen_of c.args.pass.now) (seen_of c.make_room-found.new.pass) (seen_of c.fill_at.new.pass) e.caller e.fills c.fill_at.ensures.leaves
