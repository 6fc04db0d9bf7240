use Rattle.std.proofs.Common.{◌≡◌, ◌<◌}
use Rattle.ks_flow.specs.Discipline.{BeginsLink, LinkStep}
use Rattle.ks_arena.specs.Sound.{sort_of}
use Rattle.ks_arena.specs.Clauses.{IsPass, seen_of}
use Rattle.ks_shape.specs.Makes.{MakesNone}
use Rattle.ks_link.specs.Descent.{IsOnWay}
use Rattle.ks_history.specs.Done.{link_move}
use Rattle.ks_history.specs.Stretch.{Stretch}
use Rattle.ks_shape.specs.Does.{DoesOnly, MaySearch}
use Rattle.ks_link.proofs.attaches.find_above.Given as goal

abbrev pub invariant-loop : goal.invariant-loop
invariant-loop g l =
    IsPass (sort_of g.N.Node.layout g.N.Node.ranged) BeginsLink LinkStep l.arena.table.shared.table_id l.arena.callers l.pass
    × (l.pass.caller ≡ l.fn.pass.caller)
    × IsOnWay (sort_of g.N.Node.layout g.N.Node.ranged) g.N.Node.body l.pass.caller l.to.cut (seen_of l.pass) l.held
    × (l.to.level < (g.N.Node.body l.held.body).level)
    × Stretch link_move l.pass.caller (seen_of l.fn.pass) (seen_of l.pass)
    × MakesNone l.pass.caller (seen_of l.fn.pass) (seen_of l.pass)
    × DoesOnly MaySearch l.pass.caller (seen_of l.fn.pass) (seen_of l.pass)
