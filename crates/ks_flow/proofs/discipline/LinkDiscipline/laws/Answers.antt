use Rattle.ks_flow.proofs.Disciplines.{link_discipline}
use Rattle.ks_flow.proofs.discipline.LinkDiscipline.laws.Goals as goal

pub returns : goal.returns
returns c = link_discipline
