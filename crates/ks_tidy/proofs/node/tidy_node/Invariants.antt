use Rattle.std.proofs.Common.{◌≡◌, false}
use Rattle.std.specs.Prelude.{IsTrue}
use Rattle.ks_flow.specs.Discipline.{BeginsTree, TreeStep}
use Rattle.ks_history.specs.Trace.{graph_after}
use Rattle.ks_node.specs.Room.{in_place}
use Rattle.ks_arena.specs.Sound.{sort_of}
use Rattle.ks_arena.specs.Clauses.{IsPass, seen_of}
use Rattle.ks_shape.specs.Places.{HasPlacesOf}
use Rattle.ks_shape.specs.Stretches.{Stretches}
use Rattle.ks_shape.specs.Frees.{Counts, Undisturbed}
use Rattle.ks_tidy.specs.Pair.{ComesAgain, IsPair}
use Rattle.ks_shape.specs.Does.{DoesOnly, MayDel}
use Rattle.ks_tidy.proofs.node.tidy_node.Given as goal

abbrev pub invariant-loop : goal.invariant-loop
invariant-loop g l =
    IsPass (sort_of g.N.Node.layout g.N.Node.ranged) BeginsTree TreeStep l.arena.table.shared.table_id l.arena.callers l.pass
    × (l.pass.caller ≡ l.fn.pass.caller)
    × IsPair (sort_of g.N.Node.layout g.N.Node.ranged) g.N.Node.body l.fn.pass.caller l.place (seen_of l.pass) l.path
    × HasPlacesOf (graph_after (seen_of l.fn.pass)) (graph_after (seen_of l.pass)) l.fn.path.node.node l.path.node.node
    × Stretches l.fn.pass.caller (seen_of l.fn.pass) (seen_of l.pass)
    × Counts l.fn.pass.caller (seen_of l.fn.pass) (seen_of l.pass) l.freed
    × (Undisturbed l.fn.pass.caller (seen_of l.fn.pass) (seen_of l.pass) → l.path ≡ l.fn.path)
    × (l.thorough ≡ false → DoesOnly (MayDel (sort_of g.N.Node.layout g.N.Node.ranged)) l.fn.pass.caller (seen_of l.fn.pass) (seen_of l.pass))
    × ComesAgain (in_place g.N.Node.layout) l.fn.pass.caller (seen_of l.fn.pass) (seen_of l.pass) l.again
    × (l.again ≡ false → IsTrue (in_place g.N.Node.layout) → l.path ≡ l.fn.path)
