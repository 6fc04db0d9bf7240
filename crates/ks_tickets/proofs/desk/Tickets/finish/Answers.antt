use Rattle.std.proofs.Common.{rules, ap, ◌∙◌}
use Rattle.std.specs.Prelude.{Some}
use Rattle.ks_tickets.specs.Plays.{Seated}
use Rattle.ks_tickets.proofs.Moves.{finishes_ok}
use Rattle.ks_tickets.proofs.Slots.{rest_is}
use Rattle.ks_tickets.proofs.desk.Tickets.finish.Goals as goal

pub store-requires : goal.store-requires
store-requires g c = let p = c.requires.busy in let e = c.exchange.ensures.3 in (
  c.exchange.ensures.0 ∙ p.table,
  search rules,
  finishes_ok g.J.Ticketed.waits g.J.Ticketed.finished _ _ c.exchange.new.seat.me c.args.ticket c.args.job (ap (λ (m : Seated g.row.J.Denot). m.0.held) e ∙ p.opened) (ap (λ (m : Seated g.row.J.Denot). m.1) e ∙ rest_is c.args.ticket (Some c.args.job) _ _ _ p.slot) c.requires.finished,
)
