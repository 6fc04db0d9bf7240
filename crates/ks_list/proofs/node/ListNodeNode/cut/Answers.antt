use Rattle.ks_list.specs.Laws.Fits.{fit_cut, fit_halves_read}
use Rattle.ks_list.proofs.node.ListNodeNode.cut.Goals as goal

pub returns-clause-good : goal.returns-clause-good
returns-clause-good c = λ whole suits is. fit_cut c.args.self.now.fit c.get-place.result whole c.args._span c.get-place.ensures c.requires suits

pub returns-clause-halves : goal.returns-clause-halves
returns-clause-halves c promised = fit_halves_read c.args.self.now.fit c.get-place.result c.get-place.ensures c.requires
