use Rattle.std.proofs.Common.{rules, arith, ◌≡◌, ℕ, ◌+◌, ◌^◌, ◌<◌, List, length, map, replicate, sym, ◌∙◌, subst}
use Rattle.std.specs.Prelude.{Option, Some}
use Rattle.atomic_table.specs.Table.{opening}
use Rattle.ks_tickets.specs.Rule.{Running, first_view}
use Rattle.ks_tickets.proofs.Moves.{opens}
use Rattle.ks_tickets.proofs.Slots.{maps_long, in_slots, all_same}
use Rattle.std.proofs.lemmas.List.{length-replicate}
use Rattle.ks_tickets.proofs.desk.Tickets.start.Goals as goal

pub new-requires : goal.new-requires
new-requires g c = let jobs : List g.row.J.Denot = c.args.jobs.items in let n : ℕ = length jobs + 1 in let few : length jobs < 2 ^ 32 = c.requires.few in let ws : c.as_slice.result.now ≡ replicate n 0 = search rules in let xs : c.in_ok-slots.slots.items ≡ map Some jobs = c.in_ok-slots.ensures in
    subst (λ (z : List ℕ × List (Option g.row.J.Denot)). Running g.J.Ticketed.waits g.J.Ticketed.finished (opening z.0 z.1 first_view)) (λ k. (sym ws k, sym xs k))
    (opens g.J.Ticketed.waits g.J.Ticketed.finished (replicate n 0) (map Some jobs) (let l = maps_long g.J.Ticketed.waits jobs in length-replicate n 0 ∙ (omega arith)) (let l = maps_long g.J.Ticketed.waits jobs in omega arith) (all_same 0 n) (in_slots g.J.Ticketed.waits jobs c.requires.jobs))
