use Rattle.ks_script.proofs.Common.{◌≡◌, ◌++◌, decimal}
use Rattle.ks_script.proofs.ending.Ending.value.Given as goal

abbrev pub invariant-loop-left : goal.invariant-loop-left
invariant-loop-left l = decimal l.left ++ l.self ≡ decimal l.value ++ l.fn.self

abbrev pub decreases-loop-left : goal.decreases-loop-left
decreases-loop-left l = l.left
