use Rattle.std.proofs.Common.{None}
use Rattle.ks_bst.specs.Laws.Fits.{fit_cuts, fit_halves, full_is}
use Rattle.ks_bst.proofs.node.TNodeNode.cut.Goals as goal

pub cut-requires : goal.cut-requires
cut-requires c = (full_is c.args.self.now.low c.args.self.now.parts c.requires).1

pub returns-clause-good : goal.returns-clause-good
returns-clause-good c whole suits is = rw (c.cut.ensures) (fit_cuts c.args.self.now.fit whole None (full_is c.args.self.now.low c.args.self.now.parts c.requires) suits)

pub returns-clause-halves : goal.returns-clause-halves
returns-clause-halves c promised = rw (c.cut.ensures) (fit_halves c.args.self.now.fit (full_is c.args.self.now.low c.args.self.now.parts c.requires) None)
