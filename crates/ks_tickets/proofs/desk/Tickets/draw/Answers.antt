use Rattle.std.proofs.Common.{rules, ◌∙◌}
use Rattle.std.specs.Prelude.{Some}
use Rattle.ks_tickets.proofs.Moves.{draws_ok}
use Rattle.ks_tickets.proofs.Slots.{top_rest}
use Rattle.ks_tickets.proofs.desk.Tickets.draw.Goals as goal

pub fetch_add-found-requires : goal.fetch_add-found-requires
fetch_add-found-requires g c = let p = c.requires in (p.table, search rules, draws_ok g.J.Ticketed.waits g.J.Ticketed.finished _ _ c.args.desk.now.seat.me p.some_part p.goes_on p.closed)

pub exchange-requires : goal.exchange-requires
exchange-requires g c = let told = c.fetch_add-found.ensures.2.hit (search rules) in (c.fetch_add-found.ensures.0 ∙ c.requires.table, (Some told.job, top_rest _ _ _ told.slots))
