use Rattle.ks_shape.proofs.ending.refuse.Goals as goal

pub returns-clause-done : goal.returns-clause-done
returns-clause-done g c = λ template start place touched none under. c.full_told.ensures.done template start (λ full. (place, touched, none)) under
