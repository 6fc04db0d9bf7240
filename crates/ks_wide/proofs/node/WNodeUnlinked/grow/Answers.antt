use Rattle.std.proofs.Common.{rules, arith}
use Rattle.ks_wide.specs.Laws.Fits.{blank_leaf, blank_pairs, fit_left, fit_over, fit_right}
use Rattle.ks_wide.proofs.node.WNodeUnlinked.grow.Goals as goal

pub split_to-requires : goal.split_to-requires
split_to-requires g c =
    let fit = c.args.self.now.fit in
    let right = c.args.right.now in
    (search rules, (rw c.swap.ensures.y_after fit.sound.pairs_ascend, (rw c.swap.ensures.y_after fit.sound.starts_ascend, (blank_leaf right.low right.parts c.requires.right_blank, blank_pairs right.low right.parts c.requires.right_blank))))

pub over-self-requires : goal.over-self-requires
over-self-requires g c = (search rules, omega (arith, c.args.self.now.fit.four_children))

pub invariant_of-self : goal.invariant_of-self
invariant_of-self g c =
    let done = c.over-self.ensures in
    record { fit = rw (done.inner, done.pairs, done.starts) (fit_over c.args.self.now.fit c.args.left_id c.args.cut c.args.right_id (omega arith) (omega arith)) }

pub invariant_of-left : goal.invariant_of-left
invariant_of-left g c =
    let done = c.split_to.ensures in
    record { fit = rw (done.kind, done.pairs, done.starts, c.swap.ensures.y_after) (fit_left c.args.self.now.fit c.args.cut (omega arith)) }

pub invariant_of-right : goal.invariant_of-right
invariant_of-right g c =
    let done = c.split_to.ensures in
    record {
      fit =
          rw (done.right_kind, done.right_pairs, done.right_starts, c.swap.ensures.y_after)
          (fit_right c.args.self.now.fit c.args.cut (omega arith) c.requires.cut.1);
    }
