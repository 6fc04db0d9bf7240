use Rattle.ks_arena.specs.Of.{SameCaller}
use Rattle.ks_shape.specs.Idle.{IsIdle}
use Rattle.ks_hint_tests.proofs.tests.gets_from.Given as goal

abbrev pub invariant-loop-at : goal.invariant-loop-at
invariant-loop-at g l = IsIdle (g.A.Shelf.site l.arena) l.pass × SameCaller l.fn.pass l.pass
