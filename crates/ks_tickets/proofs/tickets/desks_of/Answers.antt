use Rattle.std.proofs.Common.{rules, arith, ◌≡◌, ◌+◌, ◌-◌, ◌<◌, ◌≤◌, length, sym, ap, subst, refl, ◌∙◌}
use Rattle.ks_tickets.specs.declared.desk.Desk.{Desk}
use Rattle.ks_tickets.specs.Clauses.{AreFreeAt, AreNumbered}
use Rattle.ks_tickets.proofs.Moves.{splits_ok}
use Rattle.ks_tickets.proofs.Desks.{Made, more_made, inserted, all_made, all_numbered}
use Rattle.ks_tickets.proofs.tickets.desks_of.Goals as goal

pub split_seat-seat-requires : goal.split_seat-seat-requires
split_seat-seat-requires g c = let so = c.loop-maker.invariant.0 in let parts : c.loop-maker.maker.me.0.parts ≡ 64 - length c.loop-maker.desks.items = ap (λ m. m.0.parts) so.me in let near : length c.loop-maker.desks.items + 1 < c.args.workers = search rules in let few : c.args.workers ≤ 64 = c.requires.workers.1 in
    (so.table, search rules, splits_ok g.J.Ticketed.waits g.J.Ticketed.finished _ c.loop-maker.maker.me.0 (omega arith) (λ z. let made : c.loop-maker.maker.me.0.made ≡ length c.loop-maker.desks.items + 1 = ap (λ m. m.0.made) so.me in omega arith) (ap (λ m. m.0.ended) so.me))

pub loop-maker-preserved : goal.loop-maker-preserved
loop-maker-preserved g c = let so = c.loop-maker.invariant.0 in let split = c.split_seat-seat.ensures in let d : Desk g.row.J.Denot = record { seat = c.split_seat-seat.result } in (
  subst (λ z. Made c.args.shared.now.table_id z c.split_seat-seat.new.seat) (sym c.in_ok-push.ensures.items) (more_made c.args.shared.now.table_id c.loop-maker.desks.items c.loop-maker.maker c.split_seat-seat.new.seat d so split.0 split.2 split.3 split.4),
  search rules,
)

pub returns-clause-desks : goal.returns-clause-desks
returns-clause-desks g c = let so = c.loop-maker.invariant in let few : c.args.workers ≤ 64 = c.requires.workers.1 in let near = so.1 in let d : Desk g.row.J.Denot = record { seat = c.loop-maker.maker } in
    subst (AreFreeAt c.args.shared.now.table_id) (sym (c.in_ok-insert.ensures.items ∙ inserted c.loop-maker.desks.items d)) (all_made c.args.shared.now.table_id c.loop-maker.desks.items c.loop-maker.maker d (omega arith) so.0 refl)

pub returns-clause-numbers : goal.returns-clause-numbers
returns-clause-numbers g c = let so = c.loop-maker.invariant in let d : Desk g.row.J.Denot = record { seat = c.loop-maker.maker } in
    subst AreNumbered (sym (c.in_ok-insert.ensures.items ∙ inserted c.loop-maker.desks.items d)) (all_numbered c.args.shared.now.table_id c.loop-maker.desks.items c.loop-maker.maker d so.0 refl)
