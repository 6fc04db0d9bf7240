use Rattle.ks_dictionary.proofs.dictionary.Dictionary.try_swap.Goals as goal

pub returns-clause-never : goal.returns-clause-never
returns-clause-never g c = c.tries_law.ensures.told _ _ _ _ _ _ _ _ c.try_swap.ensures.tried

pub returns-clause-alone : goal.returns-clause-alone
returns-clause-alone g c = λ alone holds. c.tries_law.ensures.ok _ _ _ _ _ _ _ _ alone holds c.try_swap.ensures.tried

pub returns-clause-reuse : goal.returns-clause-reuse
returns-clause-reuse g c = c.reuse_law.ensures _ _ _ _ c.try_swap.ensures.pass.0.sound
