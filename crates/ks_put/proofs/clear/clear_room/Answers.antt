use Rattle.std.proofs.Common.{ℕ, subst}
use Rattle.ks_history.specs.declared.Event.TheVariants.{Give}
use Rattle.ks_history.specs.Laws.Begins.{with_begins}
use Rattle.ks_history.specs.Laws.Dues.{none_free_later}
use Rattle.ks_arena.specs.Sound.{sort_of}
use Rattle.ks_arena.specs.Clauses.{seen_of}
use Rattle.ks_shape.specs.Laws.Does.{fills_search}
use Rattle.ks_shape.specs.Laws.Stretches.{stretches_both, stretches_begins}
use Rattle.ks_shape.specs.Stretches.{Stretches}
use Rattle.ks_put.proofs.Clearing.{had_room}
use Rattle.ks_put.proofs.clear.clear_room.Goals as goal

pub returns-in-Ok-clause-fills : goal.returns-in-Ok-clause-fills
returns-in-Ok-clause-fills g c = let e = c.make_room.ensures in fills_search (sort_of g.N.Node.layout g.N.Node.ranged) c.args.place c.args.pass.now.caller c.make_room.new.pass.caller (seen_of c.args.pass.now) (seen_of c.make_room.new.pass) (seen_of c.give_last.new.pass) e.caller e.fills c.give_last.ensures.leaves

pub returns-in-Ok-clause-room : goal.returns-in-Ok-clause-room
returns-in-Ok-clause-room g c = λ told. let me : ℕ = c.args.pass.now.caller in let s = seen_of c.args.pass.now in let h = seen_of c.make_room.new.pass in let k = seen_of c.give_last.new.pass in
    had_room (sort_of g.N.Node.layout g.N.Node.ranged) g.N.Node.body me c.args.place s h k c.in-Ok.held (stretches_begins me s h c.make_room.ensures.stretch) (with_begins c.make_room.new.pass.caller (Give c.make_room.new.pass.caller c.in-Ok.held.node) h k c.give_last.ensures.gave) c.in-Ok.ensures.room c.node_law.ensures.sound c.node_law.ensures.held

pub returns-in-Ok-clause-stretch : goal.returns-in-Ok-clause-stretch
returns-in-Ok-clause-stretch g c = let e = c.make_room.ensures in let me : ℕ = c.args.pass.now.caller in let s = seen_of c.args.pass.now in let h = seen_of c.make_room.new.pass in let k = seen_of c.give_last.new.pass in
    stretches_both me s h k e.stretch (subst (λ (z : ℕ). Stretches z h k) e.caller c.give_last.ensures.stretch)

pub returns-in-Err-clause-fills : goal.returns-in-Err-clause-fills
returns-in-Err-clause-fills g c = let e = c.make_room.ensures in fills_search (sort_of g.N.Node.layout g.N.Node.ranged) c.args.place c.args.pass.now.caller c.make_room.new.pass.caller (seen_of c.args.pass.now) (seen_of c.make_room.new.pass) (seen_of c.give_last-in-Err.new.pass) e.caller e.fills c.give_last-in-Err.ensures.leaves

pub returns-in-Err-clause-refused : goal.returns-in-Err-clause-refused
returns-in-Err-clause-refused g c = λ told. let me : ℕ = c.args.pass.now.caller in let s = seen_of c.args.pass.now in let h = seen_of c.make_room.new.pass in let k = seen_of c.give_last-in-Err.new.pass in
    none_free_later g.N.Node.layout c.args.arena.now.nodes me c.args.place s h k (with_begins c.make_room.new.pass.caller (Give c.make_room.new.pass.caller c.in-Err.held.node) h k c.give_last-in-Err.ensures.gave) c.in-Err.ensures.room.1

pub returns-in-Err-clause-stretch : goal.returns-in-Err-clause-stretch
returns-in-Err-clause-stretch g c = let e = c.make_room.ensures in let me : ℕ = c.args.pass.now.caller in let s = seen_of c.args.pass.now in let h = seen_of c.make_room.new.pass in let k = seen_of c.give_last-in-Err.new.pass in
    stretches_both me s h k e.stretch (subst (λ (z : ℕ). Stretches z h k) e.caller c.give_last-in-Err.ensures.stretch)
