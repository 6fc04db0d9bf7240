use Rattle.ks_shape.proofs.ending.conclude_as.Goals as goal

pub returns-clause-at : goal.returns-clause-at
returns-clause-at g c = λ template start under. c.decide_here.ensures.done template start (λ full. absurd (c.requires.some full)) under

pub returns-clause-done : goal.returns-clause-done
returns-clause-done g c = λ template start under. (c.decide_here.ensures.done template start (λ full. absurd (c.requires.some full)) under).done
