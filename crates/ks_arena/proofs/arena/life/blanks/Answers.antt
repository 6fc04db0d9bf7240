use Rattle.std.proofs.Common.{rules, sym, subst}
use Rattle.ks_arena.specs.Sound.{sort_of}
use Rattle.ks_arena.specs.Rule.{AllBlank}
use Rattle.ks_arena.proofs.Closing.{more_blank, none_blank}
use Rattle.ks_arena.proofs.arena.life.blanks.Goals as goal

pub loop-i-init : goal.loop-i-init
loop-i-init g c = (search rules, none_blank (sort_of g.N.Node.layout g.N.Node.ranged) g.N.Node.body _ c.in_ok-slots.ensures.items)

pub loop-i-preserved : goal.loop-i-preserved
loop-i-preserved g c = (search rules, subst (AllBlank (sort_of g.N.Node.layout g.N.Node.ranged) g.N.Node.body) (sym c.in_ok-push.ensures.items) (more_blank (sort_of g.N.Node.layout g.N.Node.ranged) g.N.Node.body c.loop-i.slots.items c.in_ok-blank.field-0 c.loop-i.invariant.1 c.in_ok-blank.ensures))
