use Rattle.std.proofs.Common.{◌≡◌}
use Rattle.ks_flow.specs.Discipline.{BeginsTree, TreeStep}
use Rattle.ks_node.specs.declared.start.Next.TheVariants.{Go}
use Rattle.ks_node.specs.Body.{next_at}
use Rattle.ks_arena.specs.Sound.{sort_of}
use Rattle.ks_arena.specs.Clauses.{IsPass, seen_of}
use Rattle.ks_arena.specs.Visits.{held_at, LiesInSlot}
use Rattle.ks_shape.specs.Stretches.{Stretches}
use Rattle.ks_shape.specs.OnWay.{IsOnWay}
use Rattle.ks_shape.specs.Does.{DoesOnly, MaySearch}
use Rattle.ks_tidy.proofs.entry.go_down_in_slots.Given as goal

abbrev pub invariant-loop : goal.invariant-loop
invariant-loop g l =
    IsPass (sort_of g.N.Node.layout g.N.Node.ranged) BeginsTree TreeStep l.arena.table.shared.table_id l.arena.callers l.pass
    × (l.pass.caller ≡ l.fn.pass.caller)
    × IsOnWay (sort_of g.N.Node.layout g.N.Node.ranged) g.N.Node.body l.fn.pass.caller l.place (seen_of l.pass) (held_at l.onward.visited)
    × LiesInSlot l.pass l.onward.visited
    × (next_at (g.N.Node.body l.onward.visited.body.value) l.place ≡ Go l.onward.child)
    × Stretches l.fn.pass.caller (seen_of l.fn.pass) (seen_of l.pass)
    × DoesOnly MaySearch l.fn.pass.caller (seen_of l.fn.pass) (seen_of l.pass)
