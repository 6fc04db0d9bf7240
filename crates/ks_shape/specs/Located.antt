-- Calls whose results say where they were decided, at the end of a search for room; and the branch that a search has passed.
use Rattle.std.specs.Prelude.{ℕ, Bool, ◌&&◌, nat_le, List, Option, Some, None, Result, Ok, Err, IfOk, IfSome, cond}
use Rattle.ks_node.specs.declared.node.Node.{Ghosts as NodeGhosts}
use Rattle.ks_node.below.ks_places.specs.declared.Placing.{Ghosts as PlacingGhosts}
use Rattle.ks_flow.specs.declared.discipline.Discipline.{Ghosts as DisciplineGhosts}
use Rattle.ks_history.specs.declared.Event.{Event}
use Rattle.ks_history.specs.declared.Op.{Op}
use Rattle.ks_history.specs.Done.{Template}
use Rattle.ks_history.specs.Map.{told}
use Rattle.ks_history.specs.Trace.{◌⊑◌}
use Rattle.ks_arena.specs.declared.arena.Arena.{Arena}
use Rattle.ks_arena.specs.declared.held.Pass.{Pass}
use Rattle.ks_arena.specs.Clauses.{seen_of}
use Rattle.ks_arena.specs.Sound.{Sort, blank_of, sort_of}
use Rattle.ks_shape.specs.declared.answers.Above.{Above}
use Rattle.ks_shape.specs.declared.answers.Full.{Full}
use Rattle.ks_shape.specs.declared.answers.Numbered.{Numbered}
use Rattle.ks_shape.specs.declared.answers.NumberedAt.{NumberedAt}
use Rattle.ks_shape.specs.Hinted.{DoneWhere, WasAbove}
use Rattle.ks_shape.specs.Of.{FinishesWhere}

-- the result without where the call was decided
abbrev pub plain_of : Result NumberedAt Full → Result Numbered Full
plain_of (Ok answer) = Ok (record { number = answer.number; found = answer.found })
plain_of (Err full) = Err full

-- whether the place is in the range of the branch
abbrev pub has_place : ℕ → Above → Bool
has_place place branch = nat_le branch.low place && nat_le place branch.last

-- the last branch that a search for the place has passed once it goes on from a node: this node, if it is a branch with the
-- place in its range, else the branch before
abbrev pub passed_in : ℕ → Option Above → Option Above → Option Above
passed_in place before None = before
passed_in place before (Some branch) = cond (has_place place branch) (Some branch) before

module _ {N D : Type 0} where
  -- a branch that the search for the place, begun at any moment, has passed at p if there is one, is `above`; at q it is `next`
  abbrev pub PassesOn : Sort → ℕ → Pass N D → Pass N D → Option Above → Option Above → Type 0
  PassesOn sort place p q above next = (start : List Event) → start ⊑ seen_of p → IfSome above (WasAbove sort place start (seen_of p)) → IfSome next (WasAbove sort place start (seen_of q))

module _ {N D P : Type 0} {n : NodeGhosts N P} {q : PlacingGhosts P} {d : DisciplineGhosts D} where
  -- a put or an add that is under way at p, of any technique and begun at any moment, is done at p', unless it is full; its
  -- result says at which node it was decided, and which range this node then had
  abbrev pub FinishesFillWhere : Arena N D P n q d → Op → Pass N D → Pass N D → Result NumberedAt Full → Type 0
  FinishesFillWhere a op p p' answer = IfOk answer (λ numbered. FinishesWhere a op p p' numbered)

  -- between p and p' the caller made one call, and its result says at which node it was decided, and with which range; so it is
  -- of a put or an add, unless it is full
  abbrev pub DoneWhereOf : Arena N D P n q d → Template → Op → Pass N D → Pass N D → NumberedAt → Type 0
  DoneWhereOf a template op p p' answer = DoneWhere n.layout template a.nodes p.caller op (seen_of p) (seen_of p') (told answer.found) answer.number answer.node answer.low answer.last (blank_of (sort_of n.layout n.ranged))

  abbrev pub FillDoneWhereOf : Arena N D P n q d → Template → Op → Pass N D → Pass N D → Result NumberedAt Full → Type 0
  FillDoneWhereOf a template op p p' answer = IfOk answer (λ numbered. DoneWhereOf a template op p p' numbered)
