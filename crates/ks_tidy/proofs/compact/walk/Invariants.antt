use Rattle.std.proofs.Common.{◌≡◌, ◌≤◌}
use Rattle.ks_flow.specs.Discipline.{BeginsTree, TreeStep}
use Rattle.ks_arena.specs.Sound.{sort_of}
use Rattle.ks_arena.specs.Clauses.{IsPass, seen_of}
use Rattle.ks_shape.specs.Stretches.{Stretches}
use Rattle.ks_shape.specs.Frees.{Counts, Undisturbed}
use Rattle.ks_tidy.specs.Pair.{IsPair}
use Rattle.ks_tidy.proofs.Onward.{WalksTo}
use Rattle.ks_tidy.proofs.compact.walk.Given as goal

abbrev pub invariant-loop : goal.invariant-loop
invariant-loop g l =
    IsPass (sort_of g.N.Node.layout g.N.Node.ranged) BeginsTree TreeStep l.arena.table.shared.table_id l.arena.callers l.pass
    × (l.pass.caller ≡ l.fn.pass.caller)
    × IsPair (sort_of g.N.Node.layout g.N.Node.ranged) g.N.Node.body l.pass.caller l.place (seen_of l.pass) l.path
    × Stretches l.pass.caller (seen_of l.fn.pass) (seen_of l.pass)
    × Counts l.pass.caller (seen_of l.fn.pass) (seen_of l.pass) l.freed
    × (l.place ≤ l.end)
    × (Undisturbed l.pass.caller (seen_of l.fn.pass) (seen_of l.pass) → WalksTo (sort_of g.N.Node.layout g.N.Node.ranged) g.N.Node.body (seen_of l.fn.pass) l.place l.end l.path)
