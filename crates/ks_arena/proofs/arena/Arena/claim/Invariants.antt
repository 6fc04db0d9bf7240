use Rattle.std.proofs.Common.{◌≡◌, ◌+◌}
use Rattle.ks_history.specs.Alone.{ActsAlone, HoldsAlone}
use Rattle.ks_arena.specs.Sound.{sort_of}
use Rattle.ks_arena.specs.Clauses.{IsPass, seen_of}
use Rattle.ks_arena.specs.Of.{steps_of}
use Rattle.ks_arena.proofs.Tries.{Tried}
use Rattle.ks_arena.proofs.arena.Arena.claim.Given as goal

abbrev pub invariant-loop-index : goal.invariant-loop-index
invariant-loop-index g l =
    IsPass (sort_of g.N.Node.layout g.N.Node.ranged) g.D.Discipline.begins g.D.Discipline.step l.self.table.shared.table_id l.self.callers l.pass
    × (l.pass.caller ≡ l.fn.pass.caller)
    × Tried l.self.nodes l.fn.pass.caller l.index (seen_of l.fn.pass) (seen_of l.pass)
    × (ActsAlone l.fn.pass.caller (seen_of l.fn.pass) (seen_of l.pass) → HoldsAlone l.fn.pass.caller (seen_of l.fn.pass) → steps_of l.pass ≡ steps_of l.fn.pass + l.index)
