use Rattle.std.proofs.Common.{arith, ◌∙◌, refl}
use mathlib.Core.Option.{none}
use Rattle.atomic_table.specs.Table.{step}
use Rattle.ks_arena.specs.Sound.{sort_of}
use Rattle.ks_arena.proofs.Crew.{joins_ok, gathers_ok}
use Rattle.ks_arena.proofs.After.{pass_again}
use Rattle.ks_arena.proofs.Rest.{rest_of}
use Rattle.ks_arena.proofs.Learning.{Learned, learned}
use Rattle.ks_arena.proofs.arena.Arena.learn.Given.{Over}
use Rattle.ks_arena.proofs.arena.Arena.learn.Goals as goal
use Rattle.ks_arena.proofs.arena.Arena.learn.Goals.{After-load}

pub join_seat-requires-clause-may : goal.join_seat-requires-clause-may
join_seat-requires-clause-may g c κs within = (c.requires.pass.table, c.requires.note.table, c.requires.note.slots, omega arith, joins_ok (sort_of g.N.Node.layout g.N.Node.ranged) g.D.Discipline.begins g.D.Discipline.step g.N.Node.body _ _ c.args.pass.now.seat.me.0 c.args.note.seat.me.0 c.requires.note.quiet)

pub load-requires-clause-may : goal.load-requires-clause-may
load-requires-clause-may g c κs within = (c.join_seat.ensures.seat.0 ∙ c.requires.pass.table, omega arith, gathers_ok (sort_of g.N.Node.layout g.N.Node.ranged) g.D.Discipline.begins g.D.Discipline.step g.N.Node.body _ _ c.join_seat.new.seat.me)

after : (g : Over) (c : After-load g) → Learned (sort_of g.N.Node.layout g.N.Node.ranged) g.D.Discipline.begins g.D.Discipline.step g.N.Node.body c.args.self.now.table.shared.table_id c.args.self.now.callers c.args.pass.now c.args.note c.load.new.seat.me
after g c = learned (sort_of g.N.Node.layout g.N.Node.ranged) g.D.Discipline.begins g.D.Discipline.step g.N.Node.body _ _ (step c.args.self.now.table.shared.table_id.slots 0 0 0 none) c.args.pass.now c.args.note c.join_seat.new.seat.me c.load.new.seat.me refl c.requires.pass c.requires.note c.join_seat.ensures.seat.2 c.load.ensures.seat.2

pub returns-clause-pass : goal.returns-clause-pass
returns-clause-pass g c = let a = after g c in pass_again (sort_of g.N.Node.layout g.N.Node.ranged) g.D.Discipline.begins g.D.Discipline.step _ _ c.args.pass.now _ c.load.new.seat.me c.requires.pass refl (c.load.ensures.seat.0 ∙ c.join_seat.ensures.seat.0) refl a.follows a.carries a.slots a.sounds a.knows

pub returns-clause-looked : goal.returns-clause-looked
returns-clause-looked g c = (after g c).looked

pub returns-clause-noted : goal.returns-clause-noted
returns-clause-noted g c = (after g c).told

pub returns-clause-rest : goal.returns-clause-rest
returns-clause-rest g c = rest_of c.args.self.now c.args.pass.now _ c.requires.pass ((after g c).kept)
