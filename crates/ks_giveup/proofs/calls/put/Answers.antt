use Rattle.std.proofs.Common.{ℕ, length, ap, arith}
use Rattle.ks_history.specs.declared.Op.TheVariants.{Put}
use Rattle.ks_arena.specs.Clauses.{seen_of}
use Rattle.ks_giveup.proofs.Way.{ends_goes}
use Rattle.ks_arena.specs.Sound.{sort_of}
use Rattle.ks_shape.specs.Does.{MaySearch}
use Rattle.ks_shape.specs.Laws.Does.{does_on, searched_fills, search_fills_on}
use Rattle.ks_giveup.proofs.calls.put.Goals as goal

pub returns-in-Some-clause-goes : goal.returns-in-Some-clause-goes
returns-in-Some-clause-goes g c = let e = c.find_room.ensures in
    ends_goes c.args.pass.now.caller c.find_room.new.pass.caller c.args.place (Put c.args.place c.args.value) (seen_of c.args.pass.now) (seen_of c.find_room.new.pass) (seen_of c.put_here.new.pass) e.caller (omega (arith, ap length c.in-Some.ensures.came.ends.alone)) e.goes c.put_here.ensures.done

pub returns-in-None-clause-goes : goal.returns-in-None-clause-goes
returns-in-None-clause-goes g c = let e = c.find_room.ensures in
    ends_goes c.args.pass.now.caller c.find_room.new.pass.caller c.args.place (Put c.args.place c.args.value) (seen_of c.args.pass.now) (seen_of c.find_room.new.pass) (seen_of c.pair_fill.new.pass) e.caller (omega (arith, ap length c.in-None.ensures.came)) e.goes c.pair_fill.ensures.done

pub returns-in-Some-clause-fills : goal.returns-in-Some-clause-fills
returns-in-Some-clause-fills g c = let e = c.find_room.ensures in let me : ℕ = c.args.pass.now.caller in let h = seen_of c.args.pass.now in let l = seen_of c.put_here.new.pass in
    searched_fills (sort_of g.N.Node.layout g.N.Node.ranged) c.args.place me h l (does_on MaySearch me c.find_room.new.pass.caller h (seen_of c.find_room.new.pass) l e.caller e.leaves c.put_here.ensures.leaves)

pub returns-in-None-clause-fills : goal.returns-in-None-clause-fills
returns-in-None-clause-fills g c = let e = c.find_room.ensures in search_fills_on (sort_of g.N.Node.layout g.N.Node.ranged) c.args.place c.args.pass.now.caller c.find_room.new.pass.caller (seen_of c.args.pass.now) (seen_of c.find_room.new.pass) (seen_of c.pair_fill.new.pass) e.caller e.leaves c.pair_fill.ensures.fills
