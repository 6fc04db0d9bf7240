use Rattle.std.proofs.Common.{◌≡◌, ◌∙◌, map, length, get_or, sym, ap, subst, arith}
use Rattle.std.proofs.lemmas.Result.{IfOk-weaker}
use Rattle.ks_tickets.specs.Clauses.{HasEndedAt, HaveEndedAt, IsSameDesk}
use Rattle.ks_tickets.specs.Laws.Ended.{all_free}
use Rattle.ks_serving.proofs.Joined.{written}
use Rattle.ks_serving.proofs.Staffed.{staff_ended, staff_long}
use Rattle.ks_serving.proofs.service.Service.work.Goals as goal

pub workers_at-requires-clause-free : goal.workers_at-requires-clause-free
workers_at-requires-clause-free g c = all_free c.args.self.now.tickets.now.table.shared.table_id c.args.desks.items c.requires.free

pub for_each_mut-requires-clause-threads : goal.for_each_mut-requires-clause-threads
for_each_mut-requires-clause-threads g c κs within =
    let n = staff_long c.args.desks.items c.in_ok-workers.workers.items c.in_ok-workers.ensures.same in
    omega (arith, n, c.requires.some, c.len-threads.ensures, c.in_ok-workers.workers.ok.0)

pub returns : goal.returns
returns g c =
    let t = c.args.self.now.tickets.now.table.shared.table_id in
    let ws = c.in_ok-workers.workers in
    let vs = c.for_each_mut.new.s in
    let value = c.as_mut_slice.ensures.value in
    let count : length vs ≡ length ws.items = c.for_each_mut.auto.s ∙ ap length value in
    let changed = rw value at c.for_each_mut.ensures in
    IfOk-weaker c.desks_of.result _ _
    (λ ended is. subst (HaveEndedAt t) (sym (is ∙ ap (map (λ w. w.desk)) (written ws.len ws.items vs ws.ok.0 count)))
    (staff_ended t c.args.desks.items ws.items vs c.requires.free c.in_ok-workers.ensures.same count
    (λ i d lt. let e = (changed i d lt).1 in subst (λ w. HasEndedAt t w.desk) e.left e.call.0)
    (λ i d lt. let e = (changed i d lt).1 in subst (λ w. IsSameDesk (get_or ws.items i d).desk w.desk) e.left (subst (λ w. IsSameDesk w.desk e.after_call.now.desk) e.argument_is e.call.1))))
    c.desks_of.ensures
