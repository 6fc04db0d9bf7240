use Rattle.guttertide.specs.Words.{IsIdlePassOf, SameCaller}
use Rattle.ks_draw.proofs.build.call_each.Given as goal

abbrev pub invariant-loop-calls : goal.invariant-loop-calls
invariant-loop-calls g l = IsIdlePassOf l.map l.pass × SameCaller l.fn.pass l.pass
