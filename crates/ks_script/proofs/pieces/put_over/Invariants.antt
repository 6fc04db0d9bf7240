use Rattle.ks_script.proofs.Common.{◌+◌, length}
use Rattle.ks_script.proofs.Putting.{Owes}
use Rattle.ks_script.proofs.pieces.put_over.Given as goal

abbrev pub invariant-loop-rest : goal.invariant-loop-rest
invariant-loop-rest g l = Owes g.K.Sink.taken g.K.Sink.faults l.fn.out l.fn.piece l.bytes l.out l.piece l.rest

abbrev pub decreases-loop-rest : goal.decreases-loop-rest
decreases-loop-rest g l = length l.rest + length l.piece.bytes.items
