use Rattle.std.proofs.Common.{◌≡◌}
use Rattle.std.specs.Prelude.{IsTrue}
use Rattle.ks_flow.specs.Discipline.{BeginsTree, TreeStep}
use Rattle.ks_history.specs.Due.{NoneFree}
use Rattle.ks_arena.specs.Sound.{sort_of}
use Rattle.ks_arena.specs.Clauses.{IsPass, seen_of}
use Rattle.ks_shape.specs.Stretches.{Stretches}
use Rattle.ks_shape.specs.OnPath.{IsOnPath}
use Rattle.ks_shape.specs.Does.{DoesOnly, MayFill}
use Rattle.ks_put.specs.Parts.{GrowAll}
use Rattle.ks_put.specs.Tries.{IsEasedBut}
use Rattle.ks_put.proofs.room.make_room.Given as goal

abbrev pub invariant-loop : goal.invariant-loop
invariant-loop g l =
    IsPass (sort_of g.N.Node.layout g.N.Node.ranged) BeginsTree TreeStep l.arena.table.shared.table_id l.arena.callers l.pass
    × (l.pass.caller ≡ l.fn.pass.caller)
    × IsOnPath (sort_of g.N.Node.layout g.N.Node.ranged) g.N.Node.body l.pass.caller l.place (seen_of l.pass) l.path
    × Stretches l.pass.caller (seen_of l.fn.pass) (seen_of l.pass)
    × (IsTrue l.refused → NoneFree g.N.Node.layout l.arena.nodes l.pass.caller l.place (seen_of l.fn.pass) (seen_of l.pass))
    × DoesOnly (MayFill (sort_of g.N.Node.layout g.N.Node.ranged) l.place) l.pass.caller (seen_of l.fn.pass) (seen_of l.pass)
    × IsEasedBut g.N.Node.layout g.N.Node.body (GrowAll g.N.Node.grows_at g.N.Node.body g.N.Node.branches_adopt g.N.Node.halves_have_room) l.refused l.path
