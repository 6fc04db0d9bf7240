use Rattle.guttertide.specs.Words.{IsIdlePassOf, SameCaller}
use Rattle.ks_example.proofs.catalogue.work.Given as goal

abbrev pub invariant-loop-number : goal.invariant-loop-number
invariant-loop-number g l = IsIdlePassOf l.catalogue l.caller × SameCaller l.fn.caller l.caller
