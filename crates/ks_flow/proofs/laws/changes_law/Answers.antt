use Rattle.ks_flow.proofs.Changed.{changes_differ, changes_frames, changes_become}
use Rattle.ks_flow.proofs.laws.changes_law.Goals as goal

pub returns-clause-differs : goal.returns-clause-differs
returns-clause-differs c = changes_differ

pub returns-clause-frames : goal.returns-clause-frames
returns-clause-frames c = changes_frames

pub returns-clause-named : goal.returns-clause-named
returns-clause-named c g f xs once k d lt = changes_become g f xs once k d lt
