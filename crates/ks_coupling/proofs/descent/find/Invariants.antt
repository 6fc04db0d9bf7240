use Rattle.std.proofs.Common.{◌≡◌}
use Rattle.ks_flow.specs.Discipline.{BeginsTree, TreeStep}
use Rattle.ks_history.specs.declared.Op.{Op}
use Rattle.ks_history.specs.Done.{coupling}
use Rattle.ks_history.specs.Underway.{Underway}
use Rattle.ks_arena.specs.Sound.{sort_of}
use Rattle.ks_arena.specs.Clauses.{IsPass, seen_of}
use Rattle.ks_arena.specs.Visits.{held_at, LiesInSlot}
use Rattle.ks_shape.specs.OnWay.{IsOnWay}
use Rattle.ks_shape.specs.Does.{DoesOnly, MaySearch}
use Rattle.ks_coupling.proofs.descent.find.Given as goal

abbrev pub invariant-loop : goal.invariant-loop
invariant-loop g l =
    IsPass (sort_of g.N.Node.layout g.N.Node.ranged) BeginsTree TreeStep l.arena.table.shared.table_id l.arena.callers l.pass
    × (l.pass.caller ≡ l.fn.pass.caller)
    × IsOnWay (sort_of g.N.Node.layout g.N.Node.ranged) g.N.Node.body l.pass.caller l.place (seen_of l.pass) (held_at l.visited)
    × ((op : Op) → Underway coupling l.pass.caller op (seen_of l.fn.pass) (seen_of l.pass))
    × DoesOnly MaySearch l.pass.caller (seen_of l.fn.pass) (seen_of l.pass)
    × LiesInSlot l.pass l.visited
