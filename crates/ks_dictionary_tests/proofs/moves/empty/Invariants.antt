use Rattle.ks_dictionary.specs.Of.{IsIdlePassOf}
use Rattle.ks_dictionary_tests.proofs.moves.empty.Given as goal

abbrev pub invariant-loop-key : goal.invariant-loop-key
invariant-loop-key g l = IsIdlePassOf l.map l.pass
