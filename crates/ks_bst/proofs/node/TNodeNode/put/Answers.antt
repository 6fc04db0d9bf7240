use Rattle.ks_bst.specs.Laws.Fits.{fit_put}
use Rattle.ks_bst.proofs.node.TNodeNode.put.Goals as goal

pub invariant_of-self : goal.invariant_of-self
invariant_of-self c =
    let done = c.put.ensures in
    record {
      fit =
          rw (done.leaf, done.pairs, done.starts)
          (fit_put c.args.self.now.fit c.args.place c.args.value c.requires.no_branch (rw (← done.pairs) done.fits));
    }
