use Rattle.ks_bst.specs.Laws.Fits.{fit_forget}
use Rattle.ks_bst.proofs.node.TNodeUnlinked.forget.Goals as goal

pub invariant_of-self : goal.invariant_of-self
invariant_of-self c =
    let done = c.forget.ensures in
    record { fit = rw (done.inner, done.pairs, done.starts) (fit_forget c.args.self.now.fit c.args.id c.requires.branch c.requires.later) }
