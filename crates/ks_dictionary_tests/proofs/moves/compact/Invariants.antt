use Rattle.ks_dictionary.specs.Of.{IsIdlePassOf}
use Rattle.ks_dictionary_tests.proofs.moves.compact.Given as goal

abbrev pub invariant-loop : goal.invariant-loop
invariant-loop g l = IsIdlePassOf l.map l.pass
