use Rattle.std.proofs.Common.{◌≡◌, List}
use Rattle.std.specs.Prelude.{IfSome, Some}
use Rattle.ks_flow.specs.Discipline.{BeginsLink, LinkStep}
use Rattle.ks_history.specs.declared.Event.{Event}
use Rattle.ks_history.specs.declared.Op.{Op}
use Rattle.ks_history.specs.Done.{link_move}
use Rattle.ks_history.specs.Underway.{Underway}
use Rattle.ks_arena.specs.Sound.{sort_of}
use Rattle.ks_arena.specs.Clauses.{IsPass, seen_of}
use Rattle.ks_arena.specs.Plays.{slot_in}
use Rattle.ks_arena.specs.Visits.{held_at}
use Rattle.ks_shape.specs.Does.{DoesOnly, MaySearch}
use Rattle.ks_shape.specs.Hinted.{WasAbove}
use Rattle.ks_shape.specs.Makes.{MakesNone}
use Rattle.ks_link.specs.Descent.{IsOnWay}
use Rattle.ks_link.proofs.near.walk.Given as goal

abbrev pub invariant-loop : goal.invariant-loop
invariant-loop g l =
    IsPass (sort_of g.N.Node.layout g.N.Node.ranged) BeginsLink LinkStep l.arena.table.shared.table_id l.arena.callers l.pass
    × (l.pass.caller ≡ l.fn.pass.caller)
    × IsOnWay (sort_of g.N.Node.layout g.N.Node.ranged) g.N.Node.body l.fn.pass.caller l.place (seen_of l.pass) (held_at l.walking.visited)
    × (slot_in l.walking.visited.node l.pass.seat.me.1 ≡ Some l.walking.visited.body.value)
    × ((op : Op) (start : List Event) → Underway link_move l.fn.pass.caller op start (seen_of l.fn.pass) → Underway link_move l.fn.pass.caller op start (seen_of l.pass))
    × MakesNone l.fn.pass.caller (seen_of l.fn.pass) (seen_of l.pass)
    × DoesOnly MaySearch l.fn.pass.caller (seen_of l.fn.pass) (seen_of l.pass)
    × IfSome l.walking.above (WasAbove (sort_of g.N.Node.layout g.N.Node.ranged) l.place (seen_of l.fn.pass) (seen_of l.pass))
