use Rattle.std.proofs.Common.{length}
use Rattle.ks_tickets.proofs.Desks.{Joining}
use Rattle.ks_tickets.proofs.desk.Tickets.close.Given as goal

abbrev pub invariant-loop-desk : goal.invariant-loop-desk
invariant-loop-desk g l = Joining l.table.shared.table_id l.desks.items l.base

abbrev pub decreases-loop-desk : goal.decreases-loop-desk
decreases-loop-desk g l = length l.desks.items
