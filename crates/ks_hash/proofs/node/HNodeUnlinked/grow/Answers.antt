use Rattle.std.proofs.Common.{arith, refl, false, []}
use Rattle.ks_hash.specs.Laws.Fits.{fit_left, fit_right, full_bucket, split_above}
use Rattle.ks_hash.proofs.node.HNodeUnlinked.grow.Goals as goal

pub invariant_of-left : goal.invariant_of-left
invariant_of-left c =
    let done = c.split_to.ensures in
    let bucket = full_bucket c.args.self.now.fit c.requires.full in
    record {
      fit =
          rw (done.kind, done.pairs, done.own, done.slices, c.swap.ensures.y_after)
          (fit_left c.args.self.now.fit bucket c.args.self.now.low false c.args.cut [] refl);
    }

pub invariant_of-right : goal.invariant_of-right
invariant_of-right c =
    let done = c.split_to.ensures in
    let bucket = full_bucket c.args.self.now.fit c.requires.full in
    record {
      fit =
          rw (done.right_kind, done.right_pairs, done.right_own, done.right_slices, c.swap.ensures.y_after)
          (fit_right c.args.self.now.fit bucket false c.args.cut [] refl (omega arith) (split_above c.args.self.now.fit c.args.cut bucket c.requires.cut));
    }
