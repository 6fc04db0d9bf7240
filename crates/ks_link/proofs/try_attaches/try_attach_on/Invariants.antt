use Rattle.std.proofs.Common.{◌≡◌, ◌-◌, [], ℕ}
use Rattle.ks_flow.specs.Discipline.{BeginsLink, LinkStep}
use Rattle.ks_history.specs.Done.{link_move}
use Rattle.ks_history.specs.Stretch.{Stretch}
use Rattle.ks_arena.specs.Sound.{sort_of}
use Rattle.ks_arena.specs.Clauses.{IsPass, hand_of, seen_of}
use Rattle.ks_link.specs.Parts.{IsSplitOff}
use Rattle.ks_shape.specs.Does.{DoesOnly, MayFill}
use Rattle.ks_link.proofs.try_attaches.try_attach_on.Given as goal

abbrev pub invariant-loop-next : goal.invariant-loop-next
invariant-loop-next g l =
    IsPass (sort_of g.N.Node.layout g.N.Node.ranged) BeginsLink LinkStep l.arena.table.shared.table_id l.arena.callers l.pass
    × (hand_of l.pass ≡ [])
    × (l.pass.caller ≡ l.fn.pass.caller)
    × IsSplitOff (sort_of g.N.Node.layout g.N.Node.ranged) (seen_of l.pass) l.to
    × Stretch link_move l.pass.caller (seen_of l.fn.pass) (seen_of l.pass)
    × ((place : ℕ) → DoesOnly (MayFill (sort_of g.N.Node.layout g.N.Node.ranged) place) l.pass.caller (seen_of l.fn.pass) (seen_of l.pass))

abbrev pub decreases-loop-next : goal.decreases-loop-next
decreases-loop-next g l = l.arena.nodes - l.to.level
