use Rattle.std.proofs.Common.{◌≡◌, ◌<◌, []}
use Rattle.ks_flow.specs.Discipline.{BeginsTree, TreeStep}
use Rattle.ks_history.specs.declared.Op.{Op}
use Rattle.ks_history.specs.Done.{give_up}
use Rattle.ks_history.specs.Underway.{Underway}
use Rattle.ks_arena.specs.Sound.{sort_of}
use Rattle.ks_arena.specs.Clauses.{IsPass, hand_of, seen_of}
use Rattle.ks_giveup.specs.Goes.{Goes, MayVisit}
use Rattle.ks_giveup.specs.Tries.{WasOnWay}
use Rattle.ks_giveup.proofs.Visits.{IsNext}
use Rattle.ks_shape.specs.Does.{DoesOnly, MaySearch}
use Rattle.ks_giveup.proofs.try_descent.try_find.Given as goal

abbrev pub invariant-loop-steps : goal.invariant-loop-steps
invariant-loop-steps g l =
    IsPass (sort_of g.N.Node.layout g.N.Node.ranged) BeginsTree TreeStep l.arena.table.shared.table_id l.arena.callers l.pass
    × (hand_of l.pass ≡ [])
    × (l.pass.caller ≡ l.fn.pass.caller)
    × (l.node < l.arena.nodes)
    × ((op : Op) → Underway give_up l.pass.caller op (seen_of l.fn.pass) (seen_of l.pass))
    × MayVisit l.pass.caller l.place l.node (seen_of l.pass)
    × WasOnWay l.pass.caller l.place (seen_of l.fn.pass) (seen_of l.pass) l.node
    × IsNext l.arena.nodes l.pass.caller (seen_of l.fn.pass) (seen_of l.pass) l._steps l.node
    × Goes l.pass.caller l.place (seen_of l.fn.pass) (seen_of l.pass)
    × DoesOnly MaySearch l.pass.caller (seen_of l.fn.pass) (seen_of l.pass)
