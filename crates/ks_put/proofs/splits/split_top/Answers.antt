use Rattle.std.proofs.Common.{◌∙◌, length, arith, ap, sym}
use Rattle.ks_node.specs.Body.{content_of}
use Rattle.ks_arena.specs.Clauses.{seen_of}
use Rattle.ks_shape.specs.Laws.Stretches.{stretches_here}
use Rattle.ks_arena.specs.Sound.{sort_of}
use Rattle.ks_put.proofs.Keeping.{full_whole}
use Rattle.ks_shape.specs.Does.{MayFill}
use Rattle.ks_shape.specs.Laws.Does.{does_none}
use Rattle.ks_put.proofs.splits.split_top.Goals as goal

pub returns-then-is_branch-clause-stretch : goal.returns-then-is_branch-clause-stretch
returns-then-is_branch-clause-stretch g c = stretches_here c.args.pass.now.caller (seen_of c.args.pass.now) (omega (arith, ap length c.requires.path.hands))

pub returns-then-not-can_adopt-clause-stretch : goal.returns-then-not-can_adopt-clause-stretch
returns-then-not-can_adopt-clause-stretch g c = stretches_here c.args.pass.now.caller (seen_of c.args.pass.now) (omega (arith, ap length c.requires.path.hands))

pub cut_whole-cut-requires-clause-whole : goal.cut_whole-cut-requires-clause-whole
cut_whole-cut-requires-clause-whole g c = full_whole (sort_of g.N.Node.layout g.N.Node.ranged) g.N.Node.body c.args.node c.requires.full c.requires.path.under

pub split_alone-requires-clause-none_starts : goal.split_alone-requires-clause-none_starts
split_alone-requires-clause-none_starts g c = c.unlinked_law.ensures.none_starts (content_of (g.N.Node.body c.args.node.body)) c.cut_whole-cut.result (sym c.can_adopt.ensures ∙ c.if-not-can_adopt.false)

pub returns-then-is_branch-clause-fills : goal.returns-then-is_branch-clause-fills
returns-then-is_branch-clause-fills g c = λ must. does_none (MayFill (sort_of g.N.Node.layout g.N.Node.ranged) c.args.place) c.args.pass.now.caller (seen_of c.args.pass.now)

pub returns-then-not-can_adopt-clause-fills : goal.returns-then-not-can_adopt-clause-fills
returns-then-not-can_adopt-clause-fills g c = λ must. does_none (MayFill (sort_of g.N.Node.layout g.N.Node.ranged) c.args.place) c.args.pass.now.caller (seen_of c.args.pass.now)
