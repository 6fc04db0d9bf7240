use Rattle.std.proofs.Common.{◌≡◌, []}
use Rattle.std.specs.Prelude.{IsTrue}
use Rattle.ks_flow.specs.Discipline.{BeginsTree, TreeStep}
use Rattle.ks_history.specs.declared.Op.TheVariants.{Move}
use Rattle.ks_history.specs.Done.{give_up}
use Rattle.ks_history.specs.Due.{NoneFree}
use Rattle.ks_history.specs.Underway.{Underway}
use Rattle.ks_arena.specs.Sound.{sort_of}
use Rattle.ks_arena.specs.Clauses.{IsPass, hand_of, seen_of}
use Rattle.ks_shape.specs.Does.{DoesOnly, MayFill}
use Rattle.ks_giveup.proofs.moves.move_value.Given as goal

abbrev pub invariant-loop : goal.invariant-loop
invariant-loop g l =
    IsPass (sort_of g.N.Node.layout g.N.Node.ranged) BeginsTree TreeStep l.arena.table.shared.table_id l.arena.callers l.pass
    × (hand_of l.pass ≡ [])
    × (l.pass.caller ≡ l.fn.pass.caller)
    × Underway give_up l.pass.caller (Move l.from l.to) (seen_of l.fn.pass) (seen_of l.pass)
    × (IsTrue l.refused → NoneFree g.N.Node.layout l.arena.nodes l.pass.caller l.to (seen_of l.fn.pass) (seen_of l.pass))
    × DoesOnly (MayFill (sort_of g.N.Node.layout g.N.Node.ranged) l.to) l.pass.caller (seen_of l.fn.pass) (seen_of l.pass)
