use Rattle.ks_dictionary.proofs.dictionary.Dictionary.put_from.Goals as goal

pub returns-clause-reuse : goal.returns-clause-reuse
returns-clause-reuse g c = c.reuse_law.ensures _ _ _ _ c.fill_from.ensures.pass.0.sound
