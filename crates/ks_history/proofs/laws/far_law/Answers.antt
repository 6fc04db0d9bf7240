use Rattle.ks_history.specs.Laws.Descent.{far_due}
use Rattle.ks_history.proofs.laws.far_law.Goals as goal

pub returns : goal.returns
returns c = far_due
