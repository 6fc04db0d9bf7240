use Rattle.ks_flow.proofs.Disciplines.{tree_discipline}
use Rattle.ks_flow.proofs.discipline.TreeDiscipline.laws.Goals as goal

pub returns : goal.returns
returns c = tree_discipline
