use Rattle.ks_arena.specs.Of.{SameCaller}
use Rattle.ks_dictionary.specs.Of.{IsIdlePassOf}
use Rattle.ks_call_times.proofs.calls.call_each.Given as goal

abbrev pub invariant-loop-op : goal.invariant-loop-op
invariant-loop-op g l = IsIdlePassOf l.dictionary l.pass × SameCaller l.fn.pass l.pass
