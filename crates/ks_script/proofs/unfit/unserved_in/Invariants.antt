use Rattle.ks_script.proofs.Common.{take, All, IsServedLine}
use Rattle.ks_script.proofs.unfit.unserved_in.Given as goal

abbrev pub invariant-loop-at : goal.invariant-loop-at
invariant-loop-at l = All (IsServedLine l.scans l.moves) (take l.at l.calls)
