use Rattle.ks_script.proofs.Common.{drop, text_of, callers_from}
use Rattle.ks_script.proofs.Putting.{Owes}
use Rattle.ks_script.proofs.printed.put_callers.Given as goal

abbrev pub invariant-loop-number : goal.invariant-loop-number
invariant-loop-number g l = Owes g.K.Sink.taken g.K.Sink.faults l.fn.out l.fn.piece (text_of (callers_from 0 l.callers)) l.out l.piece (text_of (callers_from l.number (drop l.number l.callers)))
