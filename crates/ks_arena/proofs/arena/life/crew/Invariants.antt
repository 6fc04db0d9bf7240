use Rattle.std.proofs.Common.{◌≡◌, ◌+◌, length, []}
use Rattle.ks_arena.specs.Sound.{sort_of}
use Rattle.ks_arena.proofs.Closing.{fresh, Later}
use Rattle.ks_arena.proofs.arena.life.crew.Given as goal

abbrev pub invariant-loop-caller : goal.invariant-loop-caller
invariant-loop-caller g l = (l.first.table_id ≡ l.shared.table_id) × (l.first.me ≡ (fresh 0 l.caller, [])) × (length l.passes.items + 1 ≡ l.caller) × Later (sort_of g.N.Node.layout g.N.Node.ranged) g.D.Discipline.begins g.D.Discipline.step l.shared.table_id l.callers l.passes.items
