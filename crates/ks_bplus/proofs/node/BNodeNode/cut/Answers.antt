use Rattle.std.proofs.Common.{None}
use Rattle.ks_bplus.specs.Laws.Fits.{fit_cuts, fit_halves, full_load}
use Rattle.ks_bplus.proofs.node.BNodeNode.cut.Goals as goal

pub returns-clause-good : goal.returns-clause-good
returns-clause-good c whole suits is = rw (c.cut.ensures) (fit_cuts c.args.self.now.fit whole None (full_load c.args.self.now.low c.args.self.now.parts c.requires) suits)

pub returns-clause-halves : goal.returns-clause-halves
returns-clause-halves c promised = rw (c.cut.ensures) (fit_halves c.args.self.now.fit (full_load c.args.self.now.low c.args.self.now.parts c.requires) None)
