use Rattle.std.proofs.Common.{ℕ}
use Rattle.ks_history.specs.Done.{Done}
use Rattle.ks_history.specs.declared.Reply.{Reply}
use Rattle.ks_arena.specs.Sound.{sort_of}
use Rattle.ks_arena.specs.Clauses.{seen_of}
use Rattle.ks_put.proofs.Going.{ended_since, filled_since}
use Rattle.ks_shape.specs.Fills.{filling}
use Rattle.ks_shape.specs.Located.{plain_of}
use Rattle.ks_shape.specs.Laws.Does.{fills_search}
use Rattle.ks_shape.specs.Laws.Located.{finishes_on, of_plain, ok_map}
use Rattle.ks_shape.specs.Laws.Stretches.{fill_goes_on}
use Rattle.ks_put.proofs.fills.pair_fill_at.Goals as goal

pub fill_located-requires-clause-found : goal.fill_located-requires-clause-found
fill_located-requires-clause-found g c κs within = let e = c.make_room-found.ensures in
    ended_since (sort_of g.N.Node.layout g.N.Node.ranged) g.N.Node.body c.args.arena.now.nodes c.args.place c.args.pass.now.caller c.make_room-found.new.pass.caller (seen_of c.args.pass.now) (seen_of c.make_room-found.new.pass) c.make_room-found.result e.caller e.stretch e.room

pub returns-clause-done : goal.returns-clause-done
returns-clause-done g c = λ template start under. let e = c.make_room-found.ensures in let me : ℕ = c.args.pass.now.caller in let l = seen_of c.fill_located.new.pass in
    of_plain (λ (reply : Reply) (number : ℕ). Done g.N.Node.layout template c.args.arena.now.nodes me (filling c.args.place c.args.fill) start l reply number) c.fill_located.result
    (filled_since (sort_of g.N.Node.layout g.N.Node.ranged) g.N.Node.body template c.args.arena.now.nodes c.args.place me c.make_room-found.new.pass.caller c.args.fill start (seen_of c.args.pass.now) (seen_of c.make_room-found.new.pass) l c.make_room-found.result (plain_of c.fill_located.result) e.caller e.stretch e.room under (c.fill_located.ensures.done template start))

pub returns-clause-at : goal.returns-clause-at
returns-clause-at g c = let e = c.make_room-found.ensures in let me : ℕ = c.args.pass.now.caller in let h = seen_of c.args.pass.now in let k = seen_of c.make_room-found.new.pass in
    ok_map c.fill_located.result (λ answer at template start under. finishes_on answer template start me c.make_room-found.new.pass.caller k e.caller (fill_goes_on template me c.args.place c.args.fill start h k under e.stretch) at) c.fill_located.ensures.at

pub returns-clause-fills : goal.returns-clause-fills
returns-clause-fills g c = let e = c.make_room-found.ensures in fills_search (sort_of g.N.Node.layout g.N.Node.ranged) c.args.place c.args.pass.now.caller c.make_room-found.new.pass.caller (seen_of c.args.pass.now) (seen_of c.make_room-found.new.pass) (seen_of c.fill_located.new.pass) e.caller e.fills c.fill_located.ensures.leaves
