use Rattle.ks_arena.specs.Of.{SameCaller}
use Rattle.ks_shape.specs.Idle.{IsIdle}
use Rattle.ks_runs.proofs.runs.each.Given as goal

abbrev pub invariant-loop-count : goal.invariant-loop-count
invariant-loop-count g l = IsIdle (g.A.Shelf.site l.arena) l.pass × SameCaller l.fn.pass l.pass
