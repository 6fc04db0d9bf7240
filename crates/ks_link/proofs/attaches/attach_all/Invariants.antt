use Rattle.std.proofs.Common.{◌≡◌, ℕ, ◌<◌, []}
use Rattle.std.specs.Prelude.{All, IsTrue, slice_index_or}
use Rattle.ks_history.specs.Alone.{ActsAlone}
use Rattle.ks_flow.specs.Discipline.{BeginsLink, LinkStep}
use Rattle.ks_arena.specs.Sound.{sort_of}
use Rattle.ks_arena.specs.Clauses.{IsPass, hand_of, seen_of}
use Rattle.ks_shape.specs.Makes.{TwoFree}
use Rattle.ks_link.specs.Leads.{IsLedAfter, LedBut}
use Rattle.ks_link.specs.Parts.{IsSplitOff}
use Rattle.ks_history.specs.Done.{link_move}
use Rattle.ks_history.specs.Stretch.{Stretch}
use Rattle.ks_shape.specs.Does.{DoesOnly, MayFill}
use Rattle.ks_link.proofs.attaches.attach_all.Given as goal

abbrev pub invariant-loop-to : goal.invariant-loop-to
invariant-loop-to g l =
    IsPass (sort_of g.N.Node.layout g.N.Node.ranged) BeginsLink LinkStep l.arena.table.shared.table_id l.arena.callers l.pass
    × (hand_of l.pass ≡ [])
    × (l.pass.caller ≡ l.fn.pass.caller)
    × All (λ w. IsSplitOff (sort_of g.N.Node.layout g.N.Node.ranged) (seen_of l.pass) w) l.waiting
    × Stretch link_move l.pass.caller (seen_of l.fn.pass) (seen_of l.pass)
    × (IsTrue g.N.Node.branches_adopt → IsTrue g.N.Node.halves_have_room → ActsAlone l.pass.caller (seen_of l.fn.pass) (seen_of l.pass) → TwoFree l.arena.nodes (seen_of l.pass) → LedBut (sort_of g.N.Node.layout g.N.Node.ranged) [] (seen_of l.fn.pass) (seen_of l.pass) × ((j : ℕ) → j < l.to-index → IsLedAfter (sort_of g.N.Node.layout g.N.Node.ranged) (seen_of l.pass) (slice_index_or l.waiting j record { cut = 0; node = 0; level = 0 }).node))
    × ((place : ℕ) → DoesOnly (MayFill (sort_of g.N.Node.layout g.N.Node.ranged) place) l.pass.caller (seen_of l.fn.pass) (seen_of l.pass))
