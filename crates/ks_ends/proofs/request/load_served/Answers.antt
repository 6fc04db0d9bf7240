use Rattle.ks_ends.proofs.Fit.{one_unfit, none_unfit}
use Rattle.ks_ends.proofs.request.load_served.Goals as goal

pub returns-in-Some-clause-once : goal.returns-in-Some-clause-once
returns-in-Some-clause-once g c = one_unfit c.args.pairing c.in-Ok.script _ _ c.scans.ensures c.moves.ensures c.unfit_line.result c.unfit_line.ensures.due (g.S.Source.left c.args.source.now) c.in-Some.line c.in-Some.is c.in-Ok.ensures.ok

pub returns-in-None-clause-fit : goal.returns-in-None-clause-fit
returns-in-None-clause-fit g c = none_unfit c.args.pairing c.in-Ok.script _ _ c.scans.ensures c.moves.ensures c.unfit_line.result c.unfit_line.ensures.due (g.S.Source.left c.args.source.now) c.in-None.is c.in-Ok.ensures.ok
