use Rattle.ks_pair.proofs.moves.move_here.Goals as goal

pub returns-in-One-clause-step : goal.returns-in-One-clause-step
returns-in-One-clause-step g c = λ template start none under. c.move_within.ensures.done template start under
