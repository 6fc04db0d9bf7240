use Rattle.std.proofs.Common.{◌≡◌}
use Rattle.std.specs.Prelude.{false}
use Rattle.ks_flow.specs.Discipline.{BeginsTree, TreeStep}
use Rattle.ks_node.specs.Room.{is_full}
use Rattle.ks_arena.specs.Sound.{sort_of}
use Rattle.ks_arena.specs.Clauses.{IsPass, seen_of}
use Rattle.ks_arena.specs.Visits.{held_at, LiesInSlot}
use Rattle.ks_shape.specs.Stretches.{Stretches}
use Rattle.ks_shape.specs.OnWay.{IsOnWay}
use Rattle.ks_shape.specs.Does.{DoesOnly, MaySearch}
use Rattle.ks_put.proofs.room.come_to_full.Given as goal

abbrev pub invariant-loop : goal.invariant-loop
invariant-loop g l =
    IsPass (sort_of g.N.Node.layout g.N.Node.ranged) BeginsTree TreeStep l.arena.table.shared.table_id l.arena.callers l.pass
    × (l.pass.caller ≡ l.fn.pass.caller)
    × IsOnWay (sort_of g.N.Node.layout g.N.Node.ranged) g.N.Node.body l.pass.caller l.place (seen_of l.pass) (held_at l.visited)
    × LiesInSlot l.pass l.visited
    × (is_full g.N.Node.layout (g.N.Node.body l.visited.body.value) ≡ false)
    × Stretches l.pass.caller (seen_of l.fn.pass) (seen_of l.pass)
    × DoesOnly MaySearch l.pass.caller (seen_of l.fn.pass) (seen_of l.pass)
