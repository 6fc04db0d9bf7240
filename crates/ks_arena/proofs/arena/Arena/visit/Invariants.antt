use Rattle.ks_arena.specs.Sound.{sort_of}
use Rattle.ks_arena.proofs.Taking.{Waited}
use Rattle.ks_arena.proofs.arena.Arena.visit.Given as goal

abbrev pub invariant-loop : goal.invariant-loop
invariant-loop g l = Waited (sort_of g.N.Node.layout g.N.Node.ranged) g.D.Discipline.begins g.D.Discipline.step l.self.table.shared.table_id l.self.callers l.initial.pass l.pass
