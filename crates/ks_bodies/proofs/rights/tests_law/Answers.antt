use Rattle.std.proofs.Common.{sym, ◌∙◌}
use Rattle.ks_bodies.proofs.Neighbours.{low_tells, fit_tells, chained_tells, unchained_tells, only_tells, no_only}
use Rattle.ks_bodies.proofs.rights.tests_law.Goals as goal

pub returns-clause-low : goal.returns-clause-low
returns-clause-low c layout g f n b stands = low_tells g f n b stands layout

pub returns-clause-fit : goal.returns-clause-fit
returns-clause-fit c = fit_tells

pub returns-clause-chained : goal.returns-clause-chained
returns-clause-chained c g f n m b stands = chained_tells g f n b stands m

pub returns-clause-unchained : goal.returns-clause-unchained
returns-clause-unchained c = unchained_tells

pub returns-clause-only_child : goal.returns-clause-only_child
returns-clause-only_child c g f n m b stands = only_tells g f n b stands m

pub returns-clause-no_only_child : goal.returns-clause-no_only_child
returns-clause-no_only_child c = no_only

pub returns-clause-same : goal.returns-clause-same
returns-clause-same c g k f h n b same stands = record { has = sym (same.records n) ∙ stands.has; frame = sym (same.frames n) ∙ stands.frame; plain = stands.plain }
