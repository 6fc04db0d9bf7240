use Rattle.ks_dictionary.specs.Of.{IsIdlePassOf}
use Rattle.ks_guided_tests.proofs.tests.count_wrong.Given as goal

abbrev pub invariant-loop-salt : goal.invariant-loop-salt
invariant-loop-salt g l = IsIdlePassOf l.map l.pass
