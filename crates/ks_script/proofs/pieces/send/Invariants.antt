use Rattle.ks_script.proofs.Common.{ℕ, ◌≡◌, ◌≤◌, List, ◌++◌, length}
use Rattle.ks_script.specs.Outside.{Grew}
use Rattle.ks_script.proofs.pieces.send.Given as goal

abbrev pub invariant-loop-rest : goal.invariant-loop-rest
invariant-loop-rest g l = record {
  sent : (front : List ℕ) × (l.bytes ≡ front ++ l.rest) × Grew (g.K.Sink.taken l.fn.out) (g.K.Sink.taken l.out) front;
  count : g.K.Sink.faults l.fn.out ≤ g.K.Sink.faults l.out;
}

abbrev pub decreases-loop-rest : goal.decreases-loop-rest
decreases-loop-rest g l = length l.rest
