use Rattle.ks_arena.specs.Of.{SameCaller}
use Rattle.ks_dictionary.specs.Of.{IsIdlePassOf}
use Rattle.ks_trials.proofs.trial.play.Given as goal

abbrev pub invariant-loop-at : goal.invariant-loop-at
invariant-loop-at g l = IsIdlePassOf l.map l.pass × SameCaller l.fn.pass l.pass
