use Rattle.ks_arena.specs.Sound.{sort_of}
use Rattle.ks_arena.specs.Clauses.{IsPass, seen_of}
use Rattle.ks_flow.specs.Discipline.{BeginsTree, TreeStep}
use Rattle.ks_put.specs.Narrows.{cuts_left}
use Rattle.ks_put.specs.Parts.{GrowAll}
use Rattle.ks_put.proofs.Narrowing.{way_left}
use Rattle.ks_put.proofs.Trying.{TurnAt}
use Rattle.ks_put.proofs.try_room.try_make_room.Given as goal

abbrev pub invariant-loop-child : goal.invariant-loop-child
invariant-loop-child g l =
    TurnAt (sort_of g.N.Node.layout g.N.Node.ranged) g.N.Node.body (GrowAll g.N.Node.grows_at g.N.Node.body g.N.Node.branches_adopt g.N.Node.halves_have_room)
    (λ p. IsPass (sort_of g.N.Node.layout g.N.Node.ranged) BeginsTree TreeStep l.arena.table.shared.table_id l.arena.callers p) l.arena.nodes l.fn.pass.caller l.place (seen_of l.fn.pass) l.pass l.path l.depth l.refused

abbrev pub decreases-loop-child : goal.decreases-loop-child
decreases-loop-child g l = way_left l.arena.nodes l.depth (cuts_left g.N.Node.layout g.N.Node.body l.place l.path)
