use Rattle.std.proofs.Common.{◌∙◌, refl}
use Rattle.ks_list.specs.Laws.Fits.{fit_left, fit_right}
use Rattle.ks_list.proofs.node.ListNodeUnlinked.split_to.Goals as goal

pub invariant_of-right : goal.invariant_of-right
invariant_of-right c =
    let moved = c.move_pairs.ensures in
    record { fit = fit_right c.args.self.now.fit c.args.cut c.move_pairs.new.into.pairs c.move_pairs.new.into.room c.requires.cut.0.0 (c.requires.cut.2 refl) moved.right (moved.room_right ∙ c.args.right.now.fit.room_is) }

pub invariant_of-self : goal.invariant_of-self
invariant_of-self c =
    let moved = c.move_pairs.ensures in
    record { fit = fit_left c.args.self.now.fit c.args.cut c.move_pairs.new.pairs.pairs c.move_pairs.new.pairs.room c.requires.cut.0.0 (c.requires.cut.2 refl) moved.left moved.room }
