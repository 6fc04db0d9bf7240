use Rattle.ks_keysets.specs.Listed.{graph_of}
use Rattle.ks_keysets.specs.Walk.{Walks}
use Rattle.ks_keysets.proofs.readers.walk_end.Given as goal

abbrev pub invariant-loop-step : goal.invariant-loop-step
invariant-loop-step l = Walks (graph_of l.graph) l.place l._step l.at
