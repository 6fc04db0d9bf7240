use Rattle.ks_arena.specs.Of.{SameCaller}
use Rattle.ks_shape.specs.Idle.{IsIdle}
use Rattle.ks_runs.proofs.hinted.every_hint.Given as goal

abbrev pub invariant-loop-hint : goal.invariant-loop-hint
invariant-loop-hint g l = IsIdle (g.A.Shelf.site l.arena) l.pass × SameCaller l.fn.pass l.pass
