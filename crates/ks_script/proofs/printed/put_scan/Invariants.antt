use Rattle.ks_script.proofs.Common.{[], ◌∷◌, ◌++◌, drop, map, text_of, part_line, stop_line}
use Rattle.ks_script.proofs.Putting.{Owes}
use Rattle.ks_script.proofs.printed.put_scan.Given as goal

abbrev pub invariant-loop-part : goal.invariant-loop-part
invariant-loop-part g l = Owes g.K.Sink.taken g.K.Sink.faults l.fn.out l.fn.piece (text_of (map part_line l.parts ++ stop_line l.stop ∷ [])) l.out l.piece (text_of (map part_line (drop l.part-index l.parts) ++ stop_line l.stop ∷ []))
