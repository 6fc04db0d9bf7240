use Rattle.std.proofs.Common.{◌≡◌}
use Rattle.ks_flow.specs.Discipline.{BeginsTree, TreeStep}
use Rattle.ks_arena.specs.Sound.{sort_of}
use Rattle.ks_arena.specs.Clauses.{IsPass, seen_of}
use Rattle.ks_shape.specs.Stretches.{Stretches}
use Rattle.ks_shape.specs.Frees.{Counts}
use Rattle.ks_tidy.specs.Pair.{IsPair}
use Rattle.ks_shape.specs.Does.{DoesOnly, MayDel}
use Rattle.ks_tidy.proofs.tries.try_tidy_at.Given as goal

abbrev pub invariant-loop-tries : goal.invariant-loop-tries
invariant-loop-tries g l =
    IsPass (sort_of g.N.Node.layout g.N.Node.ranged) BeginsTree TreeStep l.arena.table.shared.table_id l.arena.callers l.pass
    × (l.pass.caller ≡ l.fn.pass.caller)
    × IsPair (sort_of g.N.Node.layout g.N.Node.ranged) g.N.Node.body l.fn.pass.caller l.place (seen_of l.pass) l.path
    × Stretches l.fn.pass.caller (seen_of l.fn.pass) (seen_of l.pass)
    × Counts l.fn.pass.caller (seen_of l.fn.pass) (seen_of l.pass) l.freed
    × DoesOnly (MayDel (sort_of g.N.Node.layout g.N.Node.ranged)) l.fn.pass.caller (seen_of l.fn.pass) (seen_of l.pass)
