use Rattle.std.proofs.Common.{rules, arith, ◌∙◌}
use Rattle.atomic_table.proofs.Lists.{at_index}
use Rattle.ks_basics_tests.proofs.Jobs.{one_ended}
use Rattle.ks_basics_tests.proofs.tickets.one_desk_draws_two_jobs_in_order.Goals as goal

pub draw-requires : goal.draw-requires
draw-requires g c = c.in_ok-tickets.ensures.desks.each 0 c.index_mut-desk.result.now (at_index c.in_ok-tickets.desks.items 0 c.index_mut-desk.result.now (let n = c.in_ok-tickets.ensures.count in omega arith) (search rules))

pub close-done-requires-clause-desks : goal.close-done-requires-clause-desks
close-done-requires-clause-desks g c = one_ended c.in_ok-tickets.tickets.table.shared.table_id c.in_ok-tickets.desks.items c.draw-3.new.desk c.index_mut-desk.result.now c.in_ok-tickets.ensures.desks c.in_ok-tickets.ensures.count (search rules) c.in-None.ensures.ended
    (c.in-None.ensures.same.parts ∙ c.finish-2.ensures.same.parts ∙ c.draw-2.ensures.same.parts ∙ c.finish.ensures.same.parts ∙ c.draw.ensures.same.parts)
