use Rattle.std.proofs.Common.{◌∙◌, sym, ap, refl, arith}
use Rattle.std.specs.Prelude.{true}
use Rattle.ks_arena.specs.Sound.{sort_of}
use Rattle.ks_arena.proofs.Words.{word_free}
use Rattle.ks_arena.proofs.Moves.{takes_ok}
use Rattle.ks_arena.specs.Plays.{slot_in}
use Rattle.ks_arena.proofs.Hold.{top_rest}
use Rattle.ks_arena.proofs.Rest.{rest_of}
use Rattle.ks_arena.proofs.Taking.{Caught, Waited, waited_none, caught, missed}
use Rattle.ks_arena.proofs.arena.Arena.visit.Given.{Over}
use Rattle.ks_arena.proofs.arena.Arena.visit.Goals as goal
use Rattle.ks_arena.proofs.arena.Arena.visit.Goals.{After-drop-iterator, After-drop-iterator-then-found-eq0}

pub loop-init : goal.loop-init
loop-init g c = waited_none (sort_of g.N.Node.layout g.N.Node.ranged) g.D.Discipline.begins g.D.Discipline.step c.args.self.now.table.shared.table_id c.args.self.now.callers c.args.pass.now c.requires.pass

pub compare_exchange-found-requires-clause-may : goal.compare_exchange-found-requires-clause-may
compare_exchange-found-requires-clause-may g c κs within = let is = c.loop.invariant.pass in (is.table, omega arith, takes_ok (sort_of g.N.Node.layout g.N.Node.ranged) g.D.Discipline.begins g.D.Discipline.step g.N.Node.body _ _ c.loop.pass.seat.me c.loop.pass.caller c.args.node _ c.turn_at-turn.ensures is.own is.bare is.mark is.few (omega arith))

pub body_in_slot-body-requires-clause-may : goal.body_in_slot-body-requires-clause-may
body_in_slot-body-requires-clause-may g c κs within = let is = c.loop.invariant.pass in let told = (c.compare_exchange-found.ensures.seat.2 c.loop.pass.caller c.args.node is.own c.turn_at-turn.ensures).0 c.if-found-eq1.true in (c.compare_exchange-found.ensures.seat.0 ∙ is.table, (told.1.0, top_rest _ _ _ told.1.1))

hit : (g : Over) (c : After-drop-iterator g) → Caught (sort_of g.N.Node.layout g.N.Node.ranged) g.D.Discipline.begins g.D.Discipline.step c.args.self.now.table.shared.table_id c.args.self.now.callers g.N.Node.body c.args.node c.args.pass.now (record { seat = c.body_in_slot-body.new.seat; steps = c.compare_exchange-found.new.steps; caller = c.loop.pass.caller; marker = c.loop.pass.marker }) (record { node = c.args.node; live = true; body = c.body_in_slot-body.result.value })
hit g c = caught (sort_of g.N.Node.layout g.N.Node.ranged) g.D.Discipline.begins g.D.Discipline.step c.args.self.now.table.shared.table_id c.args.self.now.callers g.N.Node.body c.args.node c.compare_exchange-found.result c.args.pass.now c.loop.pass (record { seat = c.body_in_slot-body.new.seat; steps = c.compare_exchange-found.new.steps; caller = c.loop.pass.caller; marker = c.loop.pass.marker }) c.compare_exchange-found.new.seat.me c.body_in_slot-body.result.value c.loop.invariant (omega arith) c.requires.fresh
    (c.compare_exchange-found.ensures.seat.2 c.loop.pass.caller c.args.node c.loop.invariant.pass.own c.turn_at-turn.ensures) c.if-found-eq1.true c.body_in_slot-body.ensures.body refl (c.body_in_slot-body.ensures.seat.0 ∙ c.compare_exchange-found.ensures.seat.0) c.body_in_slot-body.ensures.same

pub returns-then-found-eq1-clause-pass : goal.returns-then-found-eq1-clause-pass
returns-then-found-eq1-clause-pass g c = (hit g c).pass

pub returns-then-found-eq1-clause-took : goal.returns-then-found-eq1-clause-took
returns-then-found-eq1-clause-took g c = (hit g c).took

pub returns-then-found-eq1-clause-lies : goal.returns-then-found-eq1-clause-lies
returns-then-found-eq1-clause-lies g c = (hit g c).lies

pub returns-then-found-eq1-clause-slots : goal.returns-then-found-eq1-clause-slots
returns-then-found-eq1-clause-slots g c = (hit g c).slots

pub returns-then-found-eq1-clause-rest : goal.returns-then-found-eq1-clause-rest
returns-then-found-eq1-clause-rest g c = rest_of c.args.self.now c.args.pass.now _ c.requires.pass ((hit g c).kept)

then_missed : (g : Over) (c : After-drop-iterator-then-found-eq0 g) → Waited (sort_of g.N.Node.layout g.N.Node.ranged) g.D.Discipline.begins g.D.Discipline.step c.args.self.now.table.shared.table_id c.args.self.now.callers c.args.pass.now (record { seat = c.compare_exchange-found.new.seat; steps = c.compare_exchange-found.new.steps; caller = c.loop.pass.caller; marker = c.loop.pass.marker })
then_missed g c = missed (sort_of g.N.Node.layout g.N.Node.ranged) g.D.Discipline.begins g.D.Discipline.step c.args.self.now.table.shared.table_id c.args.self.now.callers g.N.Node.body c.args.node c.compare_exchange-found.result c.args.pass.now c.loop.pass (record { seat = c.compare_exchange-found.new.seat; steps = c.compare_exchange-found.new.steps; caller = c.loop.pass.caller; marker = c.loop.pass.marker }) c.loop.invariant
    (c.compare_exchange-found.ensures.seat.2 c.loop.pass.caller c.args.node c.loop.invariant.pass.own c.turn_at-turn.ensures) c.if-found-eq1.false refl c.compare_exchange-found.ensures.seat.0

pub returns-then-found-eq0-clause-pass : goal.returns-then-found-eq0-clause-pass
returns-then-found-eq0-clause-pass g c = (then_missed g c).pass

pub returns-then-found-eq0-clause-took : goal.returns-then-found-eq0-clause-took
returns-then-found-eq0-clause-took g c = let told = (c.compare_exchange-found.ensures.seat.2 c.loop.pass.caller c.args.node c.loop.invariant.pass.own c.turn_at-turn.ensures).1 c.if-found-eq1.false in ((then_missed g c).looked, word_free _ (sym told.2 ∙ c.if-found-eq0.true))

pub returns-then-found-eq0-clause-slots : goal.returns-then-found-eq0-clause-slots
returns-then-found-eq0-clause-slots g c = λ j _. ap (slot_in j) (then_missed g c).slots

pub returns-then-found-eq0-clause-rest : goal.returns-then-found-eq0-clause-rest
returns-then-found-eq0-clause-rest g c = rest_of c.args.self.now c.args.pass.now _ c.requires.pass ((then_missed g c).kept)

pub loop-preserved : goal.loop-preserved
loop-preserved g c = missed (sort_of g.N.Node.layout g.N.Node.ranged) g.D.Discipline.begins g.D.Discipline.step c.args.self.now.table.shared.table_id c.args.self.now.callers g.N.Node.body c.args.node c.compare_exchange-found.result c.args.pass.now c.loop.pass (record { seat = c.compare_exchange-found.new.seat; steps = c.watch.new.steps; caller = c.loop.pass.caller; marker = c.loop.pass.marker }) c.loop.invariant
    (c.compare_exchange-found.ensures.seat.2 c.loop.pass.caller c.args.node c.loop.invariant.pass.own c.turn_at-turn.ensures) c.if-found-eq1.false refl c.compare_exchange-found.ensures.seat.0
