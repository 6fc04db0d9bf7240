use Rattle.ks_arena.specs.Of.{SameCaller}
use Rattle.ks_dictionary.specs.Of.{IsIdlePassOf}
use Rattle.ks_dictionary_tests.proofs.dropped.puts_below.Given as goal

abbrev pub invariant-loop-key : goal.invariant-loop-key
invariant-loop-key g l = IsIdlePassOf l.map l.pass × SameCaller l.fn.pass l.pass
