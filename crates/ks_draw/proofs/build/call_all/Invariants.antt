use Rattle.guttertide.specs.Words.{IsIdlePassOf, SameCaller}
use Rattle.ks_draw.proofs.build.call_all.Given as goal

abbrev pub invariant-loop-at : goal.invariant-loop-at
invariant-loop-at g l = IsIdlePassOf l.map l.pass × SameCaller l.fn.pass l.pass
