use Rattle.std.proofs.Common.{◌≡◌, []}
use Rattle.ks_flow.specs.Discipline.{BeginsTree, TreeStep}
use Rattle.ks_arena.specs.Sound.{sort_of}
use Rattle.ks_arena.specs.Clauses.{IsPass, hand_of, seen_of}
use Rattle.ks_shape.specs.Stretches.{Stretches}
use Rattle.ks_shape.specs.Frees.{Counts}
use Rattle.ks_shape.specs.Does.{DoesOnly, MayDel}
use Rattle.ks_tidy.proofs.descent.pair_tidy.Given as goal

abbrev pub invariant-loop : goal.invariant-loop
invariant-loop g l =
    IsPass (sort_of g.N.Node.layout g.N.Node.ranged) BeginsTree TreeStep l.arena.table.shared.table_id l.arena.callers l.pass
    × (hand_of l.pass ≡ [])
    × (l.pass.caller ≡ l.fn.pass.caller)
    × Stretches l.fn.pass.caller (seen_of l.fn.pass) (seen_of l.pass)
    × Counts l.fn.pass.caller (seen_of l.fn.pass) (seen_of l.pass) l.freed
    × DoesOnly (MayDel (sort_of g.N.Node.layout g.N.Node.ranged)) l.fn.pass.caller (seen_of l.fn.pass) (seen_of l.pass)
