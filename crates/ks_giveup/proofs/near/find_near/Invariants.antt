use Rattle.std.proofs.Common.{◌≡◌}
use Rattle.std.specs.Prelude.{IfSome}
use Rattle.ks_flow.specs.Discipline.{BeginsTree, TreeStep}
use Rattle.ks_history.specs.declared.Op.{Op}
use Rattle.ks_history.specs.Done.{give_up}
use Rattle.ks_history.specs.Underway.{Underway}
use Rattle.ks_arena.specs.Sound.{sort_of}
use Rattle.ks_arena.specs.Clauses.{IsPass, seen_of}
use Rattle.ks_arena.specs.Visits.{held_if, LiesInSlot}
use Rattle.ks_giveup.specs.Descent.{Came}
use Rattle.ks_shape.specs.Does.{DoesOnly, MaySearch}
use Rattle.ks_shape.specs.Hinted.{BeginsAt, WasAbove}
use Rattle.ks_giveup.proofs.near.find_near.Given as goal

abbrev pub invariant-loop : goal.invariant-loop
invariant-loop g l =
    IsPass (sort_of g.N.Node.layout g.N.Node.ranged) BeginsTree TreeStep l.arena.table.shared.table_id l.arena.callers l.pass
    × (l.pass.caller ≡ l.fn.pass.caller)
    × Came (sort_of g.N.Node.layout g.N.Node.ranged) g.N.Node.body l.fn.pass.caller l.place (seen_of l.pass) (held_if l.here)
    × ((op : Op) → Underway give_up l.fn.pass.caller op (seen_of l.fn.pass) (seen_of l.pass))
    × DoesOnly MaySearch l.fn.pass.caller (seen_of l.fn.pass) (seen_of l.pass)
    × IfSome l.above (WasAbove (sort_of g.N.Node.layout g.N.Node.ranged) l.place (seen_of l.fn.pass) (seen_of l.pass))
    × IfSome l.fn.hint (λ i. BeginsAt l.arena.nodes l.fn.pass.caller i (seen_of l.fn.pass) (seen_of l.pass))
    × IfSome l.here (λ visited. LiesInSlot l.pass visited)
