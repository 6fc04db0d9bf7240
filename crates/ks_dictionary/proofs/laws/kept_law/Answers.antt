use Rattle.ks_dictionary.specs.Laws.Kept.{finds_put}
use Rattle.ks_dictionary.proofs.laws.kept_law.Goals as goal

pub returns : goal.returns
returns c = finds_put
