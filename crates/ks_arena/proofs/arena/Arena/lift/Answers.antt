use Rattle.std.proofs.Common.{◌∙◌}
use Rattle.std.specs.Prelude.{Some}
use Rattle.ks_arena.proofs.Lies.{last_top}
use Rattle.ks_arena.proofs.arena.Arena.lift.Goals as goal

pub exchange-requires-clause-may : goal.exchange-requires-clause-may
exchange-requires-clause-may g c κs within = (c.requires.pass.table, (Some c.args.visited.body.value, last_top c.args.visited.node _ c.args.pass.now.seat.me.1 _ (c.requires.pass.slots ∙ c.requires.last.1) c.requires.lies))
