use Rattle.std.proofs.Common.{inl, refl}
use Rattle.ks_tidy.proofs.compact.visit.Goals as goal

pub returns-clause-fits : goal.returns-clause-fits
returns-clause-fits g c = λ whole quiet. c.tidy_node-path.ensures.tested whole (inl refl) quiet.alone
