use Rattle.std.proofs.Common.{◌∷◌, ◌∙◌, sym, ap}
use Rattle.std.specs.Prelude.{Some}
use Rattle.atomic_table.specs.Table.{rest}
use Rattle.ks_arena.proofs.Lies.{last_top}
use Rattle.ks_arena.proofs.arena.Arena.is_branch.Goals as goal

pub slot_mut-requires : goal.slot_mut-requires
slot_mut-requires g c = (c.requires.pass.table, (Some c.args.visited.now.body.value, last_top c.args.visited.now.node _ c.args.pass.now.seat.me.1 _ (c.requires.pass.slots ∙ c.requires.last.1) c.requires.lies))

pub returns-clause-same : goal.returns-clause-same
returns-clause-same g c = let p = c.args.pass.now in let top = c.slot_mut.ensures.value ∙ ap (λ x. (c.args.visited.now.node, x) ∷ rest p.seat.me.1) c.in-Some.is in
    ap (λ xs. record { seat = record { marker = p.seat.marker; table_id = p.seat.table_id; id = p.seat.id; me = (p.seat.me.0, xs) }; caller = p.caller; steps = p.steps; marker = p.marker }) (sym top)
