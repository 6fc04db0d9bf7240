use Rattle.ks_dictionary.specs.Of.{IsIdlePassOf}
use Rattle.ks_dictionary_tests.proofs.moves.play.Given as goal

abbrev pub invariant-loop-count : goal.invariant-loop-count
invariant-loop-count g l = IsIdlePassOf l.map l.pass
