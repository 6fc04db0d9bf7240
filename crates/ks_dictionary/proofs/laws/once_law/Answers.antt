use Rattle.ks_dictionary.specs.Laws.Kept.{added_once}
use Rattle.ks_dictionary.proofs.laws.once_law.Goals as goal

pub returns : goal.returns
returns c = added_once
