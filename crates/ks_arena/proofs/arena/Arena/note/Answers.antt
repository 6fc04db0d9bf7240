use Rattle.std.proofs.Common.{arith}
use Rattle.ks_arena.specs.Sound.{sort_of}
use Rattle.ks_arena.proofs.Crew.{notes_ok}
use Rattle.ks_arena.proofs.arena.Arena.note.Goals as goal

pub split_seat-seat-requires-clause-may : goal.split_seat-seat-requires-clause-may
split_seat-seat-requires-clause-may g c κs within = (c.requires.table, omega arith, notes_ok (sort_of g.N.Node.layout g.N.Node.ranged) g.D.Discipline.begins g.D.Discipline.step g.N.Node.body _ c.args.pass.now.seat.me.0)
