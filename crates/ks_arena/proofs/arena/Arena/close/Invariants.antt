use Rattle.std.proofs.Common.{length}
use Rattle.ks_arena.specs.Sound.{sort_of}
use Rattle.ks_arena.proofs.Closing.{Joining}
use Rattle.ks_arena.proofs.arena.Arena.close.Given as goal

abbrev pub invariant-loop-pass : goal.invariant-loop-pass
invariant-loop-pass g l = Joining (sort_of g.N.Node.layout g.N.Node.ranged) g.D.Discipline.begins g.D.Discipline.step l.table.shared.table_id l.fn.self.callers l.fn.passes.items l.passes.items l.base

abbrev pub decreases-loop-pass : goal.decreases-loop-pass
decreases-loop-pass g l = length l.passes.items
