use Rattle.ks_script.proofs.Common.{drop, text_of, said_lines}
use Rattle.std.specs.List.{flat_map}
use Rattle.ks_script.proofs.Texts.{one_caller}
use Rattle.ks_script.proofs.Putting.{Owes}
use Rattle.ks_script.proofs.printed.put_caller.Given as goal

abbrev pub invariant-loop-at : goal.invariant-loop-at
invariant-loop-at g l = Owes g.K.Sink.taken g.K.Sink.faults l.fn.out l.fn.piece (text_of (one_caller l.fn.number l.said)) l.out l.piece (text_of (flat_map said_lines (drop l.at l.said)))
