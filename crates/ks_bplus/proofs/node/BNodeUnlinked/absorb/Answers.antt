use Rattle.std.proofs.Common.{arith}
use Rattle.ks_bplus.specs.Laws.Fits.{fit_absorb}
use Rattle.ks_bplus.proofs.node.BNodeUnlinked.absorb.Goals as goal

pub invariant_of-self : goal.invariant_of-self
invariant_of-self c =
    let done = c.append.ensures in
    record {
      fit =
          rw (done.kind, done.pairs, done.starts)
          (fit_absorb c.args.self.now.fit c.args.right.now.fit c.requires.fits c.requires.meets (omega arith)
          (rw (← done.pairs) done.pairs_fit)
          (rw (← done.starts) done.starts_fit));
    }
