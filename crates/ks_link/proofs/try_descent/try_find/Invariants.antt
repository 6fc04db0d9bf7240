use Rattle.std.proofs.Common.{◌≡◌}
use Rattle.ks_flow.specs.Discipline.{BeginsLink, LinkStep}
use Rattle.ks_history.specs.declared.Op.{Op}
use Rattle.ks_history.specs.Done.{link_move}
use Rattle.ks_history.specs.Underway.{Underway}
use Rattle.ks_arena.specs.Sound.{sort_of}
use Rattle.ks_arena.specs.Clauses.{IsPass, seen_of}
use Rattle.ks_shape.specs.Makes.{MakesNone}
use Rattle.ks_link.specs.Descent.{IsOnWay}
use Rattle.ks_link.proofs.Trying.{way_left}
use Rattle.ks_shape.specs.Does.{DoesOnly, MaySearch}
use Rattle.ks_link.proofs.try_descent.try_find.Given as goal

abbrev pub invariant-loop-held : goal.invariant-loop-held
invariant-loop-held g l =
    IsPass (sort_of g.N.Node.layout g.N.Node.ranged) BeginsLink LinkStep l.arena.table.shared.table_id l.arena.callers l.pass
    × (l.pass.caller ≡ l.fn.pass.caller)
    × IsOnWay (sort_of g.N.Node.layout g.N.Node.ranged) g.N.Node.body l.pass.caller l.place (seen_of l.pass) l.held
    × ((op : Op) → Underway link_move l.pass.caller op (seen_of l.fn.pass) (seen_of l.pass))
    × MakesNone l.pass.caller (seen_of l.fn.pass) (seen_of l.pass)
    × DoesOnly MaySearch l.pass.caller (seen_of l.fn.pass) (seen_of l.pass)

abbrev pub decreases-loop-held : goal.decreases-loop-held
decreases-loop-held g l = way_left (g.N.Node.body l.held.body)
