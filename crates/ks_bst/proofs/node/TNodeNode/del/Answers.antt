use Rattle.ks_bst.specs.Laws.Fits.{fit_del}
use Rattle.ks_bst.proofs.node.TNodeNode.del.Goals as goal

pub invariant_of-self : goal.invariant_of-self
invariant_of-self c =
    let done = c.del.ensures in
    record {
      fit =
          rw (done.leaf, done.pairs, done.starts)
          (fit_del c.args.self.now.fit c.args.place c.requires (rw (← done.pairs) done.fits));
    }
