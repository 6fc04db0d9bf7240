use Rattle.ks_list.specs.Laws.Fits.{fit_put}
use Rattle.ks_list.proofs.node.ListNodeNode.put.Goals as goal

pub invariant_of-self : goal.invariant_of-self
invariant_of-self c =
    let done = c.put_pair.ensures in
    record { fit = fit_put c.args.self.now.fit c.args.place c.args.value c.put_pair.new.pairs.pairs c.put_pair.new.pairs.room c.requires.below_own done.pairs done.room done.within }
