use Rattle.ks_dictionary.proofs.dictionary.Dictionary.put_near.Goals as goal

pub returns-in-Ok-clause-reuse : goal.returns-in-Ok-clause-reuse
returns-in-Ok-clause-reuse g c = c.reuse_law.ensures _ _ _ _ c.fill_from.ensures.pass.0.sound

pub returns-in-Err-clause-reuse : goal.returns-in-Err-clause-reuse
returns-in-Err-clause-reuse g c = c.reuse_law.ensures _ _ _ _ c.fill_from.ensures.pass.0.sound
