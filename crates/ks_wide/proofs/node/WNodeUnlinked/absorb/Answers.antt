use Rattle.std.proofs.Common.{rules, arith}
use Rattle.ks_wide.specs.Laws.Fits.{fit_absorb, fit_emptied, loads_fit, same_kinds}
use Rattle.ks_wide.proofs.node.WNodeUnlinked.absorb.Goals as goal

pub append-requires : goal.append-requires
append-requires g c =
    let left = c.args.self.now in
    let right = c.args.right.now in
    (search rules, (same_kinds left.low right.low left.parts right.parts c.requires.fits, loads_fit left.low right.low left.parts right.parts c.requires.fits))

pub invariant_of-self : goal.invariant_of-self
invariant_of-self g c =
    let done = c.append.ensures in
    record {
      fit =
          rw (done.kind, done.pairs, done.starts)
          (fit_absorb c.args.self.now.fit c.args.right.now.fit c.requires.fits c.requires.meets (omega arith)
          (rw (← done.pairs) done.pairs_fit)
          (rw (← done.starts) done.starts_fit));
    }

pub invariant_of-right : goal.invariant_of-right
invariant_of-right g c =
    let done = c.append.ensures in
    record { fit = rw (done.right_kind, done.right_pairs, done.right_starts) (fit_emptied c.args.self.now.fit) }
