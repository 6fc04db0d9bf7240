use Rattle.std.proofs.Common.{◌≡◌, []}
use Rattle.std.specs.Prelude.{◌⊎◌, IsTrue, false, All}
use Rattle.ks_flow.specs.Discipline.{BeginsLink, LinkStep}
use Rattle.ks_history.specs.Alone.{ActsAlone}
use Rattle.ks_history.specs.Done.{link_move}
use Rattle.ks_history.specs.Stretch.{Stretch}
use Rattle.ks_node.specs.declared.start.Next.TheVariants.{Here}
use Rattle.ks_node.specs.Body.{next_at}
use Rattle.ks_arena.specs.Sound.{sort_of}
use Rattle.ks_arena.specs.Clauses.{IsPass, seen_of}
use Rattle.ks_node.specs.Room.{is_full}
use Rattle.ks_link.specs.Descent.{IsOnWay}
use Rattle.ks_link.specs.Leads.{LedBut}
use Rattle.ks_link.specs.Parts.{IsSplitOff, reach_of}
use Rattle.ks_shape.specs.Does.{DoesOnly, MayFill}
use Rattle.ks_link.proofs.room.room_at.Given as goal

abbrev pub invariant-loop-held : goal.invariant-loop-held
invariant-loop-held g l =
    IsPass (sort_of g.N.Node.layout g.N.Node.ranged) BeginsLink LinkStep l.arena.table.shared.table_id l.arena.callers l.pass
    × (l.pass.caller ≡ l.fn.pass.caller)
    × IsOnWay (sort_of g.N.Node.layout g.N.Node.ranged) g.N.Node.body l.pass.caller l.place (seen_of l.pass) l.held
    × (next_at (g.N.Node.body l.held.body) l.place ≡ Here)
    × Stretch link_move l.pass.caller (seen_of l.fn.pass) (seen_of l.pass)
    × All (λ w. IsSplitOff (sort_of g.N.Node.layout g.N.Node.ranged) (seen_of l.pass) w) l.waiting.items
    × (IsTrue g.N.Node.halves_have_room → (l.waiting.items ≡ []) ⊎ (is_full g.N.Node.layout (g.N.Node.body l.held.body) ≡ false))
    × (IsTrue g.N.Node.halves_have_room → ActsAlone l.pass.caller (seen_of l.fn.pass) (seen_of l.pass) → LedBut (sort_of g.N.Node.layout g.N.Node.ranged) l.waiting.items (seen_of l.fn.pass) (seen_of l.pass))
    × DoesOnly (MayFill (sort_of g.N.Node.layout g.N.Node.ranged) l.place) l.pass.caller (seen_of l.fn.pass) (seen_of l.pass)

abbrev pub decreases-loop-held : goal.decreases-loop-held
decreases-loop-held g l = reach_of (g.N.Node.body l.held.body)
