use Rattle.std.proofs.Common.{◌≡◌, ◌+◌}
use Rattle.ks_history.specs.Alone.{ActsAlone, HoldsAlone}
use Rattle.ks_arena.specs.Sound.{sort_of}
use Rattle.ks_arena.specs.Clauses.{IsPass, seen_of}
use Rattle.ks_arena.specs.Of.{steps_of}
use Rattle.ks_arena.proofs.Tries.{TriedIn}
use Rattle.ks_arena.proofs.arena.Arena.claim_in.Given as goal

abbrev pub invariant-loop-left : goal.invariant-loop-left
invariant-loop-left g l =
    IsPass (sort_of g.N.Node.layout g.N.Node.ranged) g.D.Discipline.begins g.D.Discipline.step l.self.table.shared.table_id l.self.callers l.pass
    × (l.pass.caller ≡ l.fn.pass.caller)
    × TriedIn l.self.nodes l.index l.fn.pass.caller l.left (seen_of l.fn.pass) (seen_of l.pass)
    × (ActsAlone l.fn.pass.caller (seen_of l.fn.pass) (seen_of l.pass) → HoldsAlone l.fn.pass.caller (seen_of l.fn.pass) → steps_of l.pass ≡ steps_of l.fn.pass + 1)

abbrev pub decreases-loop-left : goal.decreases-loop-left
decreases-loop-left g l = l.left
