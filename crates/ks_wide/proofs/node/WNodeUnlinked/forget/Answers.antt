use Rattle.ks_wide.specs.Laws.Fits.{fit_forget}
use Rattle.ks_wide.proofs.node.WNodeUnlinked.forget.Goals as goal

pub invariant_of-self : goal.invariant_of-self
invariant_of-self g c =
    let done = c.remove.ensures in
    record { fit = rw (done.inner, done.pairs, done.starts) (fit_forget c.args.self.now.fit c.args.id c.requires.branch c.requires.later) }
