use Rattle.std.proofs.Common.{rules, None}
use Rattle.ks_wide.specs.Laws.Fits.{fit_cuts, fit_halves, full_load, two_held}
use Rattle.ks_wide.proofs.node.WNodeNode.cut.Goals as goal

pub cut-requires : goal.cut-requires
cut-requires g c = (search rules, (full_load c.args.self.now.low c.args.self.now.parts c.requires, two_held c.args.self.now.parts c.args.self.now.fit))

pub returns-clause-good : goal.returns-clause-good
returns-clause-good g c whole suits is = rw c.cut.ensures (fit_cuts c.args.self.now.parts c.args.self.now.fit whole None (full_load c.args.self.now.low c.args.self.now.parts c.requires) suits)

pub returns-clause-halves : goal.returns-clause-halves
returns-clause-halves g c promised = rw c.cut.ensures (fit_halves c.args.self.now.parts c.args.self.now.fit (full_load c.args.self.now.low c.args.self.now.parts c.requires) None)
