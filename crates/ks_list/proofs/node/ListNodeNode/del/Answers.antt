use Rattle.ks_list.specs.Laws.Fits.{fit_del}
use Rattle.ks_list.proofs.node.ListNodeNode.del.Goals as goal

pub invariant_of-self : goal.invariant_of-self
invariant_of-self c =
    let done = c.delete_pair.ensures in
    record { fit = fit_del c.args.self.now.fit c.args.place c.delete_pair.new.pairs.pairs c.delete_pair.new.pairs.room done.pairs done.room done.fewer }
