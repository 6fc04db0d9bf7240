use Rattle.ks_judge.proofs.Replays.{After, RightBelow}
use Rattle.ks_judge.proofs.Reading.{Stand}
use Rattle.ks_lines.specs.Lines.{ops_in, replies_in}
use Rattle.ks_judge.proofs.replay.replay.Given as goal

abbrev pub invariant-loop-number : goal.invariant-loop-number
invariant-loop-number g l = record {
  right : RightBelow (ops_in l.callers l.said) (replies_in l.callers l.said) l.number;
  after : After (ops_in l.callers l.said) (replies_in l.callers l.said) l.number (g.M.Store.has l.map);
  stand : Stand l.callers l.said l.number l.places.items;
}
