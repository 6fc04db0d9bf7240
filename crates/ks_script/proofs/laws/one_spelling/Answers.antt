use Rattle.ks_script.proofs.Spelled.{ends_whole}
use Rattle.ks_script.proofs.laws.one_spelling.Goals as goal

pub returns-clause-ends : goal.returns-clause-ends
returns-clause-ends c = ends_whole
