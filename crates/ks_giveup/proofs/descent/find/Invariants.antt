use Rattle.std.proofs.Common.{◌≡◌, List, [], ◌<◌}
use Rattle.ks_history.specs.declared.Event.{Event}
use Rattle.ks_flow.specs.Discipline.{BeginsTree, TreeStep}
use Rattle.ks_history.specs.declared.Op.{Op}
use Rattle.ks_history.specs.Done.{give_up}
use Rattle.ks_history.specs.Underway.{Underway}
use Rattle.ks_arena.specs.Sound.{sort_of}
use Rattle.ks_arena.specs.Clauses.{IsPass, hand_of, seen_of}
use Rattle.ks_giveup.specs.Goes.{MayVisit, Goes}
use Rattle.ks_shape.specs.Does.{DoesOnly, MaySearch}
use Rattle.ks_giveup.proofs.descent.find.Given as goal

abbrev pub invariant-loop : goal.invariant-loop
invariant-loop g l =
    IsPass (sort_of g.N.Node.layout g.N.Node.ranged) BeginsTree TreeStep l.arena.table.shared.table_id l.arena.callers l.pass
    × (hand_of l.pass ≡ [])
    × (l.pass.caller ≡ l.fn.pass.caller)
    × (l.node < l.arena.nodes)
    × ((op : Op) (start : List Event) → Underway give_up l.fn.pass.caller op start (seen_of l.fn.pass) → Underway give_up l.pass.caller op start (seen_of l.pass))
    × MayVisit l.pass.caller l.place l.node (seen_of l.pass)
    × Goes l.pass.caller l.place (seen_of l.fn.pass) (seen_of l.pass)
    × DoesOnly MaySearch l.pass.caller (seen_of l.fn.pass) (seen_of l.pass)
