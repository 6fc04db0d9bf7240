use Rattle.ks_script.proofs.Common.{[], ◌∷◌, ◌++◌, drop, map, codes, text_of, pair_line, map_lines}
use Rattle.ks_script.proofs.Putting.{Owes}
use Rattle.ks_script.proofs.printed.put_map.Given as goal

abbrev pub invariant-loop-pair : goal.invariant-loop-pair
invariant-loop-pair g l = Owes g.K.Sink.taken g.K.Sink.faults l.fn.out l.fn.piece (text_of (map_lines l.pairs)) l.out l.piece (text_of (map pair_line (drop l.pair-index l.pairs) ++ codes "end" ∷ []))
