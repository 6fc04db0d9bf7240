-- One part of an ordered scan: what its call leaves in the trace, and where it stops.
use Rattle.std.specs.Prelude.{ℕ, suc, ◌≡◌, ◌≤◌, ◌⊎◌, List, ◌++◌}
use Rattle.ks_keysets.specs.Keyset.{InKeyset}
use Rattle.ks_keysets.specs.Layout.{Layout}
use Rattle.ks_history.specs.declared.Event.{Event}
use Rattle.ks_history.specs.declared.Op.TheVariants.{Part as lists}
use Rattle.ks_history.specs.declared.Reply.TheVariants.{Listed}
use Rattle.ks_history.specs.Done.{Template, Done}
use Rattle.ks_history.specs.Own.{decided_at}
use Rattle.ks_history.specs.Passes.{Has}
use Rattle.ks_history.specs.Trace.{graph_after}
use Rattle.ks_node.specs.declared.node.Node.{Ghosts as NodeGhosts}
use Rattle.ks_node.below.ks_places.specs.declared.Placing.{Ghosts as PlacingGhosts}
use Rattle.ks_flow.specs.declared.discipline.Discipline.{Ghosts as DisciplineGhosts}
use Rattle.ks_arena.specs.declared.arena.Arena.{Arena}
use Rattle.ks_arena.specs.declared.held.Pass.{Pass}
use Rattle.ks_arena.specs.Clauses.{seen_of}
use Rattle.ks_shape.specs.Idle.{Site}
use Rattle.ks_lines.specs.declared.parts.Part.{Part}

-- the call of c between s0 and s1 is one part of a scan from low to last: it listed the pairs from low to the part's last
-- place. That is last, or the node at which it was decided did not have the next place in its keyset then
pub record DonePart (layout : Layout) (template : Template) (n c low last : ℕ) (s0 s1 : List Event) (part : Part) : Type 0 where
  pub done : Done layout template n c (lists low part.last) s0 s1 (Listed part.pairs) part.number
  pub span : (low ≤ part.last) × (part.last ≤ last)
  pub ends : (part.last ≡ last) ⊎ ((i : ℕ) → Has (decided_at done.event) i → ¬ InKeyset (graph_after (done.before ++ s0)) i (suc part.last))

-- the same between two passes
abbrev pub IsDonePart : {N D : Type 0} → Layout → Template → Site → ℕ → ℕ → Pass N D → Pass N D → Part → Type 0
IsDonePart layout technique a low last p q part = DonePart layout technique a.nodes p.caller low last (seen_of p) (seen_of q) part

-- the same over an arena
abbrev pub DonePartOf : {N D P : Type 0} {n : NodeGhosts N P} {q : PlacingGhosts P} {d : DisciplineGhosts D} → Arena N D P n q d → Template → ℕ → ℕ → Pass N D → Pass N D → Part → Type 0
DonePartOf {n = n} a template low last p p' part = DonePart n.layout template a.nodes p.caller low last (seen_of p) (seen_of p') part
