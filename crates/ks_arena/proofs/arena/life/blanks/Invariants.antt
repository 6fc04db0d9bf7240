use Rattle.std.proofs.Common.{◌≡◌, length}
use Rattle.ks_arena.specs.Sound.{sort_of}
use Rattle.ks_arena.specs.Rule.{AllBlank}
use Rattle.ks_arena.proofs.arena.life.blanks.Given as goal

abbrev pub invariant-loop-i : goal.invariant-loop-i
invariant-loop-i g l = (length l.slots.items ≡ l._i) × AllBlank (sort_of g.N.Node.layout g.N.Node.ranged) g.N.Node.body l.slots.items
