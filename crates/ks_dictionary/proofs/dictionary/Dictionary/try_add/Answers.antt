use Rattle.ks_dictionary.proofs.dictionary.Dictionary.try_add.Goals as goal

pub returns-clause-never : goal.returns-clause-never
returns-clause-never g c = c.tries_law.ensures.put_told _ _ _ _ _ _ _ _ c.try_add.ensures.tried

pub returns-clause-alone : goal.returns-clause-alone
returns-clause-alone g c = λ alone holds. c.tries_law.ensures.put _ _ _ _ _ _ _ _ alone holds c.try_add.ensures.tried

pub returns-clause-reuse : goal.returns-clause-reuse
returns-clause-reuse g c = c.reuse_law.ensures _ _ _ _ c.try_add.ensures.pass.0.sound
