use Rattle.std.proofs.Common.{ap, length, arith}
use Rattle.ks_arena.specs.Clauses.{seen_of}
use Rattle.ks_history.specs.Done.{link_move}
use Rattle.ks_history.specs.Laws.Stretch.{stretch_give}
use Rattle.ks_shape.specs.Laws.Makes.{makes_with}
use Rattle.ks_shape.specs.Laws.Does.{searches_give}
use Rattle.ks_link.proofs.parts.keep_half.Goals as goal

pub returns-then-place-cut-clause-stretch : goal.returns-then-place-cut-clause-stretch
returns-then-place-cut-clause-stretch g c = stretch_give link_move c.args.pass.now.caller (seen_of c.args.pass.now) (seen_of c.give.new.pass) c.args.right.node (omega (arith, ap length c.requires.hand.0)) c.give.ensures.gave

pub returns-else-place-cut-clause-stretch : goal.returns-else-place-cut-clause-stretch
returns-else-place-cut-clause-stretch g c = stretch_give link_move c.args.pass.now.caller (seen_of c.args.pass.now) (seen_of c.give-else-place-cut.new.pass) c.args.left.node (omega (arith, ap length c.requires.hand.0)) c.give-else-place-cut.ensures.gave

pub returns-then-place-cut-clause-makes : goal.returns-then-place-cut-clause-makes
returns-then-place-cut-clause-makes g c = makes_with c.args.pass.now.caller _ (seen_of c.args.pass.now) (seen_of c.give.new.pass) tt c.give.ensures.gave

pub returns-else-place-cut-clause-makes : goal.returns-else-place-cut-clause-makes
returns-else-place-cut-clause-makes g c = makes_with c.args.pass.now.caller _ (seen_of c.args.pass.now) (seen_of c.give-else-place-cut.new.pass) tt c.give-else-place-cut.ensures.gave

pub returns-then-place-cut-clause-leaves : goal.returns-then-place-cut-clause-leaves
returns-then-place-cut-clause-leaves g c = searches_give c.args.pass.now.caller c.args.right.node (seen_of c.args.pass.now) (seen_of c.give.new.pass) c.give.ensures.gave

pub returns-else-place-cut-clause-leaves : goal.returns-else-place-cut-clause-leaves
returns-else-place-cut-clause-leaves g c = searches_give c.args.pass.now.caller c.args.left.node (seen_of c.args.pass.now) (seen_of c.give-else-place-cut.new.pass) c.give-else-place-cut.ensures.gave
