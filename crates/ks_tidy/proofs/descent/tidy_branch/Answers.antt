use Rattle.std.proofs.Common.{ℕ, arith, refl}
use Rattle.ks_arena.specs.Clauses.{hand_of, seen_of}
use Rattle.ks_shape.specs.Laws.Stretches.{stretches_here}
use Rattle.ks_shape.specs.Laws.Frees.{counts_of, frees_here}
use Rattle.ks_tidy.proofs.Keeping.{few_on}
use Rattle.ks_tidy.proofs.Again.{again_here}
use Rattle.ks_node.specs.Room.{in_place}
use Rattle.ks_arena.specs.Sound.{sort_of}
use Rattle.ks_shape.specs.Does.{MayDel}
use Rattle.ks_shape.specs.Laws.Does.{does_none}
use Rattle.ks_tidy.proofs.descent.tidy_branch.Goals as goal

pub returns-clause-stretch : goal.returns-clause-stretch
returns-clause-stretch g c = let me : ℕ = c.args.pass.now.caller in stretches_here me (seen_of c.args.pass.now) (let few = few_on c.args.path.parent (hand_of c.args.pass.now) c.args.path.node.node c.requires.pair.path.hands in omega (arith, few))

pub returns-clause-counts : goal.returns-clause-counts
returns-clause-counts g c = let me : ℕ = c.args.pass.now.caller in let h = seen_of c.args.pass.now in counts_of me 0 h h (omega arith) (frees_here me h)

pub returns-clause-again : goal.returns-clause-again
returns-clause-again g c = again_here (in_place g.N.Node.layout) c.args.pass.now.caller (seen_of c.args.pass.now)

pub returns-then-is_branch-clause-dels : goal.returns-then-is_branch-clause-dels
returns-then-is_branch-clause-dels g c = c.tidy_node.ensures.dels refl

pub returns-clause-dels : goal.returns-clause-dels
returns-clause-dels g c = does_none (MayDel (sort_of g.N.Node.layout g.N.Node.ranged)) c.args.pass.now.caller (seen_of c.args.pass.now)
