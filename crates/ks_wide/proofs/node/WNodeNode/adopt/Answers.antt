use Rattle.std.proofs.Common.{arith}
use Rattle.ks_wide.specs.Laws.Fits.{fit_adopt}
use Rattle.ks_wide.proofs.node.WNodeNode.adopt.Goals as goal

pub invariant_of-self : goal.invariant_of-self
invariant_of-self g c =
    let done = c.add.ensures in
    record {
      fit =
          rw (done.inner, done.pairs, done.starts)
          (fit_adopt c.args.self.now.fit c.args.cut c.args.id c.requires.can c.requires.cut.0 (omega arith) (rw (← done.starts) done.fits) c.requires.pairs);
    }
