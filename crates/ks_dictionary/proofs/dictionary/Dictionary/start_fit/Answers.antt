use Rattle.ks_dictionary.specs.Laws.Passes.{new_in_order}
use Rattle.ks_dictionary.proofs.dictionary.Dictionary.start_fit.Goals as goal

pub returns-clause-order : goal.returns-clause-order
returns-clause-order g c = new_in_order _ c.in_ok-arena.passes.items c.in_ok-arena.ensures.2
