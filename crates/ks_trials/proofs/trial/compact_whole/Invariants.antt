use Rattle.ks_arena.specs.Of.{SameCaller}
use Rattle.ks_dictionary.specs.Of.{IsIdlePassOf}
use Rattle.ks_trials.proofs.trial.compact_whole.Given as goal

abbrev pub invariant-loop : goal.invariant-loop
invariant-loop g l = IsIdlePassOf l.map l.pass × SameCaller l.fn.pass l.pass
