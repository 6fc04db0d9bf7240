use Rattle.ks_dictionary.specs.Laws.Passes.{ordered_all, replaced_all}
use Rattle.ks_dictionary.proofs.dictionary.Dictionary.passes_law.Goals as goal

pub returns-clause-ordered : goal.returns-clause-ordered
returns-clause-ordered g c = ordered_all _

pub returns-clause-replaced : goal.returns-clause-replaced
returns-clause-replaced g c = replaced_all _
