use Rattle.std.proofs.Common.{rules, ◌≡◌, length}
use Rattle.std.specs.Slots.{slots_items}
use Rattle.ks_tickets.proofs.Moves.{joins_ok, closes}
use Rattle.ks_tickets.proofs.Desks.{begins_joining, next_in, takes_in, all_in}
use Rattle.ks_tickets.proofs.desk.Tickets.close.Goals as goal

pub loop-desk-init : goal.loop-desk-init
loop-desk-init g c = begins_joining _ _ _ _ c.requires.desks c.in-Some.ensures.items

pub join_seat-requires : goal.join_seat-requires
join_seat-requires g c = let inv = c.loop-desk.invariant in let x = next_in _ _ _ _ c.loop-desk.base inv c.in-Some-pop.ensures.items in (inv.table, x.table, x.bare, search rules, joins_ok g.J.Ticketed.waits g.J.Ticketed.finished _ _ c.loop-desk.base.me.0 c.in-Some-pop.desk.seat.me.0 inv.some_part)

pub loop-desk-preserved : goal.loop-desk-preserved
loop-desk-preserved g c = takes_in _ _ _ c.in-Some-pop.desk c.loop-desk.base c.join_seat.new.seat c.loop-desk.invariant c.in-Some-pop.ensures.items c.join_seat.ensures.0 c.join_seat.ensures.2

pub collect-requires-clause-home : goal.collect-requires-clause-home
collect-requires-clause-home g c = let inv = c.loop-desk.invariant in let none_left : length c.loop-desk.desks.items ≡ 0 = search rules in
    closes g.J.Ticketed.waits g.J.Ticketed.finished c.loop-desk.base.id c.loop-desk.base.me.0 (slots_items c.close_with.result.words) (slots_items c.close_with.result.slots) (all_in _ c.loop-desk.desks.items c.loop-desk.base inv none_left) inv.ended inv.closed c.close_with.ensures.values.2
