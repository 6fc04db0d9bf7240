use Rattle.ks_wide.specs.Laws.Fits.{fit_del}
use Rattle.ks_wide.proofs.node.WNodeNode.del.Goals as goal

pub invariant_of-self : goal.invariant_of-self
invariant_of-self g c =
    let done = c.del.ensures in
    record {
      fit =
          rw (done.leaf, done.pairs, done.starts)
          (fit_del c.args.self.now.fit c.args.place c.requires (rw (← done.pairs) done.fits));
    }
