use Rattle.std.proofs.Common.{ℕ, List, ◌∙◌, refl, sym, ap, subst, arith}
use Rattle.std.specs.Prelude.{true}
use Rattle.ks_history.specs.declared.Event.{Event}
use Rattle.ks_arena.specs.declared.held.Held.{Held as Hand}
use Rattle.ks_arena.specs.Clauses.{HasTaken, Kept, hand_of, seen_of}
use Rattle.ks_history.specs.Trace.{held, turn_after}
use Rattle.ks_history.specs.Laws.Begins.{by_others_turn}
use Rattle.ks_arena.specs.Sound.{sort_of}
use Rattle.ks_arena.proofs.Words.{word_free, word_other}
use Rattle.ks_arena.proofs.Moves.{takes_ok}
use Rattle.ks_arena.proofs.Hold.{top_rest, holds_not}
use Rattle.ks_arena.proofs.Rest.{rest_of}
use Rattle.ks_arena.proofs.Taking.{Caught, Waited, waited_none, caught, missed}
use Rattle.ks_arena.proofs.arena.Arena.try_take.Given.{Over}
use Rattle.ks_arena.proofs.arena.Arena.try_take.Goals as goal
use Rattle.ks_arena.proofs.arena.Arena.try_take.Goals.{After-lift-arg-1, Then-found-eq0, Else-found-eq0}

pub compare_exchange-found-requires-clause-may : goal.compare_exchange-found-requires-clause-may
compare_exchange-found-requires-clause-may g c κs within = let is = c.requires.pass in (is.table, omega arith, takes_ok (sort_of g.N.Node.layout g.N.Node.ranged) g.D.Discipline.begins g.D.Discipline.step g.N.Node.body _ _ c.args.pass.now.seat.me c.args.pass.now.caller c.args.node _ c.turn_at-turn.ensures is.own is.bare is.mark is.few (omega arith))

pub body_in_slot-body-requires-clause-may : goal.body_in_slot-body-requires-clause-may
body_in_slot-body-requires-clause-may g c κs within = let told = (c.compare_exchange-found.ensures.seat.2 c.args.pass.now.caller c.args.node c.requires.pass.own c.turn_at-turn.ensures).0 c.if-found-eq1.true in (c.compare_exchange-found.ensures.seat.0 ∙ c.requires.pass.table, (told.1.0, top_rest _ _ _ told.1.1))

pub overflow_cast-result : goal.overflow_cast-result
overflow_cast-result g c = let t = ((c.compare_exchange-found.ensures.seat.2 c.args.pass.now.caller c.args.node c.requires.pass.own c.turn_at-turn.ensures).1 c.if-found-eq1.false).3 in omega arith

hit : (g : Over) (c : After-lift-arg-1 g) → Caught (sort_of g.N.Node.layout g.N.Node.ranged) g.D.Discipline.begins g.D.Discipline.step c.args.self.now.table.shared.table_id c.args.self.now.callers g.N.Node.body c.args.node c.args.pass.now (record { seat = c.body_in_slot-body.new.seat; steps = c.compare_exchange-found.new.steps; caller = c.args.pass.now.caller; marker = c.args.pass.now.marker }) (record { node = c.args.node; live = true; body = c.body_in_slot-body.result.value })
hit g c = caught (sort_of g.N.Node.layout g.N.Node.ranged) g.D.Discipline.begins g.D.Discipline.step c.args.self.now.table.shared.table_id c.args.self.now.callers g.N.Node.body c.args.node c.compare_exchange-found.result c.args.pass.now c.args.pass.now (record { seat = c.body_in_slot-body.new.seat; steps = c.compare_exchange-found.new.steps; caller = c.args.pass.now.caller; marker = c.args.pass.now.marker }) c.compare_exchange-found.new.seat.me c.body_in_slot-body.result.value (waited_none (sort_of g.N.Node.layout g.N.Node.ranged) g.D.Discipline.begins g.D.Discipline.step c.args.self.now.table.shared.table_id c.args.self.now.callers c.args.pass.now c.requires.pass) (omega arith) c.requires.fresh
    (c.compare_exchange-found.ensures.seat.2 c.args.pass.now.caller c.args.node c.requires.pass.own c.turn_at-turn.ensures) c.if-found-eq1.true c.body_in_slot-body.ensures.body refl (c.body_in_slot-body.ensures.seat.0 ∙ c.compare_exchange-found.ensures.seat.0) c.body_in_slot-body.ensures.same

pub lift-requires-clause-pass : goal.lift-requires-clause-pass
lift-requires-clause-pass g c κs within = (hit g c).pass

pub lift-requires-clause-last : goal.lift-requires-clause-last
lift-requires-clause-last g c κs within = (hand_of c.args.pass.now, (hit g c).took.hand)

pub returns-then-found-eq1-clause-took : goal.returns-then-found-eq1-clause-took
returns-then-found-eq1-clause-took g c = let a = hit g (goal.at.returns-then-found-eq1-clause-took g c).After-lift-arg-1 in
    subst (λ (z : List Event × Hand g.row.N.Denot). HasTaken (sort_of g.N.Node.layout g.N.Node.ranged) g.N.Node.body c.args.pass.now.caller c.args.node (seen_of c.args.pass.now) z.0 z.1) (λ k. (sym c.lift.ensures.seen k, sym c.lift.ensures.held k)) a.took

pub returns-then-found-eq1-clause-rest : goal.returns-then-found-eq1-clause-rest
returns-then-found-eq1-clause-rest g c = let a = hit g (goal.at.returns-then-found-eq1-clause-rest g c).After-lift-arg-1 in
    rest_of c.args.self.now c.args.pass.now _ c.requires.pass (subst (Kept c.args.pass.now.caller (seen_of c.args.pass.now)) (sym c.lift.ensures.seen) a.kept)

then_missed : (g : Over) (c : Then-found-eq0 g) → Waited (sort_of g.N.Node.layout g.N.Node.ranged) g.D.Discipline.begins g.D.Discipline.step c.args.self.now.table.shared.table_id c.args.self.now.callers c.args.pass.now (record { seat = c.compare_exchange-found.new.seat; steps = c.compare_exchange-found.new.steps; caller = c.args.pass.now.caller; marker = c.args.pass.now.marker })
then_missed g c = missed (sort_of g.N.Node.layout g.N.Node.ranged) g.D.Discipline.begins g.D.Discipline.step c.args.self.now.table.shared.table_id c.args.self.now.callers g.N.Node.body c.args.node c.compare_exchange-found.result c.args.pass.now c.args.pass.now (record { seat = c.compare_exchange-found.new.seat; steps = c.compare_exchange-found.new.steps; caller = c.args.pass.now.caller; marker = c.args.pass.now.marker }) (waited_none (sort_of g.N.Node.layout g.N.Node.ranged) g.D.Discipline.begins g.D.Discipline.step c.args.self.now.table.shared.table_id c.args.self.now.callers c.args.pass.now c.requires.pass)
    (c.compare_exchange-found.ensures.seat.2 c.args.pass.now.caller c.args.node c.requires.pass.own c.turn_at-turn.ensures) c.if-found-eq1.false refl c.compare_exchange-found.ensures.seat.0

pub returns-then-found-eq0-clause-pass : goal.returns-then-found-eq0-clause-pass
returns-then-found-eq0-clause-pass g c = (then_missed g c).pass

pub returns-then-found-eq0-clause-took : goal.returns-then-found-eq0-clause-took
returns-then-found-eq0-clause-took g c = let told = (c.compare_exchange-found.ensures.seat.2 c.args.pass.now.caller c.args.node c.requires.pass.own c.turn_at-turn.ensures).1 c.if-found-eq1.false in ((then_missed g c).looked, word_free _ (sym told.2 ∙ c.if-found-eq0.true))

pub returns-then-found-eq0-clause-rest : goal.returns-then-found-eq0-clause-rest
returns-then-found-eq0-clause-rest g c = rest_of c.args.self.now c.args.pass.now _ c.requires.pass ((then_missed g c).kept)

else_missed : (g : Over) (c : Else-found-eq0 g) → Waited (sort_of g.N.Node.layout g.N.Node.ranged) g.D.Discipline.begins g.D.Discipline.step c.args.self.now.table.shared.table_id c.args.self.now.callers c.args.pass.now (record { seat = c.compare_exchange-found.new.seat; steps = c.compare_exchange-found.new.steps; caller = c.args.pass.now.caller; marker = c.args.pass.now.marker })
else_missed g c = missed (sort_of g.N.Node.layout g.N.Node.ranged) g.D.Discipline.begins g.D.Discipline.step c.args.self.now.table.shared.table_id c.args.self.now.callers g.N.Node.body c.args.node c.compare_exchange-found.result c.args.pass.now c.args.pass.now (record { seat = c.compare_exchange-found.new.seat; steps = c.compare_exchange-found.new.steps; caller = c.args.pass.now.caller; marker = c.args.pass.now.marker }) (waited_none (sort_of g.N.Node.layout g.N.Node.ranged) g.D.Discipline.begins g.D.Discipline.step c.args.self.now.table.shared.table_id c.args.self.now.callers c.args.pass.now c.requires.pass)
    (c.compare_exchange-found.ensures.seat.2 c.args.pass.now.caller c.args.node c.requires.pass.own c.turn_at-turn.ensures) c.if-found-eq1.false refl c.compare_exchange-found.ensures.seat.0

pub returns-else-found-eq0-clause-pass : goal.returns-else-found-eq0-clause-pass
returns-else-found-eq0-clause-pass g c = (else_missed g c).pass

pub returns-else-found-eq0-clause-took : goal.returns-else-found-eq0-clause-took
returns-else-found-eq0-clause-took g c = let looked = (else_missed g c).looked in let p = c.requires.pass in let me : ℕ = c.args.pass.now.caller in let i : ℕ = c.args.node in let seat = c.args.pass.now.seat.me in let seen = c.compare_exchange-found.new.seat.me.0.seen in
    let told = (c.compare_exchange-found.ensures.seat.2 me i p.own c.turn_at-turn.ensures).1 c.if-found-eq1.false in (
      looked,
      word_other _ _ told.2 c.if-found-eq1.false c.if-found-eq0.false,
      λ same. holds_not c.args.self.now.table.shared.table_id.slots seat.0.seen me i seat.1 p.carries p.slots c.requires.fresh
          (by_others_turn me i seat.0.seen seen looked.grows (word_other (turn_after seen i) c.compare_exchange-found.result told.2 c.if-found-eq1.false c.if-found-eq0.false ∙ ap held same)),
    )

pub returns-else-found-eq0-clause-rest : goal.returns-else-found-eq0-clause-rest
returns-else-found-eq0-clause-rest g c = rest_of c.args.self.now c.args.pass.now _ c.requires.pass ((else_missed g c).kept)
