use Rattle.ks_dictionary.specs.Of.{IsIdlePassOf}
use Rattle.ks_move_tests.proofs.tests.fill.Given as goal

abbrev pub invariant-loop-n : goal.invariant-loop-n
invariant-loop-n g l = IsIdlePassOf l.map l.pass
