use Rattle.std.proofs.Common.{ℕ, sym, subst}
use Rattle.ks_history.specs.declared.Op.{Op}
use Rattle.ks_history.specs.Done.{Done, link_move}
use Rattle.ks_history.specs.Passes.{NoCallBy}
use Rattle.ks_history.specs.Trace.{◌⊑◌}
use Rattle.ks_history.specs.Underway.{Underway}
use Rattle.ks_history.specs.Laws.Alone.{alone_first, alone_then}
use Rattle.ks_history.specs.Laws.Begins.{begins_both}
use Rattle.ks_history.specs.Laws.Stretch.{stretch_begins}
use Rattle.ks_history.specs.Laws.Underway.{underway_both}
use Rattle.ks_arena.specs.Sound.{sort_of}
use Rattle.ks_arena.specs.Clauses.{seen_of}
use Rattle.ks_shape.specs.Answers.{number_in, reply_in}
use Rattle.ks_shape.specs.Fills.{filling, FoundRoom, FullIsDue}
use Rattle.ks_shape.specs.Laws.Fills.{full_is_due, three_to_fill}
use Rattle.ks_shape.specs.Makes.{MakesNone}
use Rattle.ks_shape.specs.Located.{plain_of}
use Rattle.ks_shape.specs.Laws.Located.{finishes_on, ok_map}
use Rattle.ks_link.proofs.Leading.{led_none}
use Rattle.ks_link.proofs.Rooms.{all_later}
use Rattle.ks_shape.specs.Laws.Does.{fills_search}
use Rattle.ks_link.proofs.calls_near.fill_here.Goals as goal

pub fill_located-requires-clause-found : goal.fill_located-requires-clause-found
fill_located-requires-clause-found g c κs within = let sort = sort_of g.N.Node.layout g.N.Node.ranged in let n : ℕ = c.args.arena.now.nodes in let h = seen_of c.args.pass.now in let k = seen_of c.room_at-found.new.pass in let e = c.room_at-found.ensures.caller in
    let under = c.room_at-found.ensures.stretch (filling c.args.place c.args.fill) (three_to_fill link_move c.args.place c.args.fill) in (
      h,
      record { rest = under.rest; is = under.is },
      subst (λ (z : ℕ). NoCallBy z under.rest) (sym e) under.none,
      subst (λ (z : ℕ). FoundRoom sort g.N.Node.body n z c.args.place h k c.room_at-found.result) (sym e) c.room_at-found.ensures.found,
    )

pub returns-clause-done : goal.returns-clause-done
returns-clause-done g c = λ start before. let sort = sort_of g.N.Node.layout g.N.Node.ranged in let me : ℕ = c.args.pass.now.caller in let n : ℕ = c.args.arena.now.nodes in let place : ℕ = c.args.place in let op : Op = filling c.args.place c.args.fill in
    let h = seen_of c.args.pass.now in let k = seen_of c.room_at-found.new.pass in let l = seen_of c.fill_located.new.pass in let room = c.room_at-found.ensures in let e = room.caller in let found = c.room_at-found.result in
    let under = underway_both link_move me op start h k before (room.stretch op (three_to_fill link_move c.args.place c.args.fill)) in
    let due = full_is_due sort g.N.Node.body n me place start h k found (record { rest = before.rest; is = before.is }) room.found in
    subst (λ (z : ℕ). Underway link_move z op start k → FullIsDue g.N.Node.layout n z place start k found → Done g.N.Node.layout link_move n z op start l (reply_in (plain_of c.fill_located.result)) (number_in (plain_of c.fill_located.result))) e (c.fill_located.ensures.done link_move start) under due

pub returns-clause-begins : goal.returns-clause-begins
returns-clause-begins g c = begins_both (seen_of c.args.pass.now) (seen_of c.room_at-found.new.pass) (seen_of c.fill_located.new.pass) (stretch_begins link_move c.args.pass.now.caller (seen_of c.args.pass.now) (seen_of c.room_at-found.new.pass) c.room_at-found.ensures.stretch) c.fill_located.ensures.over.begins

pub returns-clause-waiting : goal.returns-clause-waiting
returns-clause-waiting g c = let sort = sort_of g.N.Node.layout g.N.Node.ranged in let n : ℕ = c.args.arena.now.table.shared.table_id.slots in let k = seen_of c.room_at-found.new.pass in let l = seen_of c.fill_located.new.pass in
    all_later sort k l c.room_at-found.new.waiting.items (c.sound_law.ensures.lasts sort n k l c.fill_located.ensures.over.begins c.fill_located.ensures.over.pass.0.sound) c.room_at-found.ensures.waiting

pub returns-clause-led : goal.returns-clause-led
returns-clause-led g c = λ promise alone. let sort = sort_of g.N.Node.layout g.N.Node.ranged in let n : ℕ = c.args.arena.now.table.shared.table_id.slots in let me : ℕ = c.args.pass.now.caller in
    let h = seen_of c.args.pass.now in let k = seen_of c.room_at-found.new.pass in let l = seen_of c.fill_located.new.pass in let room = c.room_at-found.ensures in let on = c.fill_located.ensures.over.begins in
    let till : h ⊑ k = stretch_begins link_move me h k room.stretch in
    led_none sort c.room_at-found.new.waiting.items h k l (c.sound_law.ensures.lasts sort n k l on c.fill_located.ensures.over.pass.0.sound) (room.led promise (alone_first me h k l till on alone))
    (subst (λ (z : ℕ). MakesNone z k l) room.caller c.fill_located.ensures.over.makes (alone_then me h k l till on alone))

pub returns-clause-fills : goal.returns-clause-fills
returns-clause-fills g c = let e = c.room_at-found.ensures in fills_search (sort_of g.N.Node.layout g.N.Node.ranged) c.args.place c.args.pass.now.caller c.room_at-found.new.pass.caller (seen_of c.args.pass.now) (seen_of c.room_at-found.new.pass) (seen_of c.fill_located.new.pass) e.caller e.fills c.fill_located.ensures.leaves

pub returns-clause-at : goal.returns-clause-at
returns-clause-at g c = let me : ℕ = c.args.pass.now.caller in let op : Op = filling c.args.place c.args.fill in let h = seen_of c.args.pass.now in let k = seen_of c.room_at-found.new.pass in let room = c.room_at-found.ensures in
    ok_map c.fill_located.result (λ answer at start before. finishes_on answer link_move start me c.room_at-found.new.pass.caller k room.caller (underway_both link_move me op start h k before (room.stretch op (three_to_fill link_move c.args.place c.args.fill))) at) c.fill_located.ensures.at
