use Rattle.ks_script.proofs.Common.{◌++◌, drop, codes, ended, pair_words, part_line}
use Rattle.ks_script.proofs.Putting.{Owes}
use Rattle.ks_script.proofs.printed.put_part.Given as goal

abbrev pub invariant-loop-at : goal.invariant-loop-at
invariant-loop-at g l = Owes g.K.Sink.taken g.K.Sink.faults l.fn.out l.fn.piece (ended (part_line l.part)) l.out l.piece (pair_words (drop l.at l.part.pairs) ++ codes "\n")
