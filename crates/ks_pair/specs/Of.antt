-- What the calls of a move require and ensure, of an arena and of a pass before and after.
use Rattle.std.specs.Prelude.{ℕ, ◌≡◌, IsTrue, Bool, List, false, Option, Result}
use Rattle.ks_history.specs.declared.Event.{Event}
use Rattle.ks_history.specs.declared.Op.{Op}
use Rattle.ks_history.specs.declared.Op.TheVariants.{Move}
use Rattle.ks_history.specs.declared.Reply.{Reply}
use Rattle.ks_history.specs.declared.Reply.TheVariants.{Full}
use Rattle.ks_history.specs.Done.{Template, Done}
use Rattle.ks_history.specs.Due.{NoneFree}
use Rattle.ks_history.specs.Underway.{Underway}
use Rattle.ks_node.specs.declared.node.Node.{Ghosts as NodeGhosts}
use Rattle.ks_node.below.ks_places.specs.declared.Placing.{Ghosts as PlacingGhosts}
use Rattle.ks_flow.specs.declared.discipline.Discipline.{Ghosts as DisciplineGhosts}
use Rattle.ks_arena.specs.declared.arena.Arena.{Arena}
use Rattle.ks_arena.specs.declared.held.Pass.{Pass}
use Rattle.ks_arena.specs.declared.held.Held.{Held as Hand}
use Rattle.ks_arena.specs.Sound.{sort_of}
use Rattle.ks_arena.specs.Clauses.{seen_of}
use Rattle.ks_shape.specs.declared.answers.Numbered.{Numbered}
use Rattle.ks_shape.specs.declared.answers.MoveLeft.{MoveLeft}
use Rattle.ks_shape.specs.Answers.{move_reply, move_number}
use Rattle.ks_pair.specs.declared.moves.Step.{Step}
use Rattle.ks_pair.specs.declared.moves.Step.TheVariants.{Done as done_with, NoRoom}
use Rattle.ks_pair.specs.declared.pair.Pair.{Pair}
use Rattle.ks_pair.specs.Both.{Admits, Came, HoldsPair, HoldsTwo, IsReadyTwo}

module _ {N D : Type 0} where
  -- the pass holds these two nodes and no other
  abbrev pub HoldsBoth : Pass N D → Hand N → Hand N → Type 0
  HoldsBoth p x y = HoldsTwo p.caller (seen_of p) x.node y.node

  -- a move that is under way at p, begun at any moment, still is at q
  abbrev pub MovesOn : Template → Pass N D → Pass N D → Type 0
  MovesOn template p q = (from to : ℕ) (start : List Event) → Underway template p.caller (Move from to) start (seen_of p) → Underway template p.caller (Move from to) start (seen_of q)

module _ {N D P : Type 0} {n : NodeGhosts N P} {q : PlacingGhosts P} {d : DisciplineGhosts D} where
  -- the search for the place ends at this live node
  abbrev pub AdmitsAt : Arena N D P n q d → ℕ → Pass N D → Hand N → Type 0
  AdmitsAt a place p x = Admits (sort_of n.layout n.ranged) n.body place (seen_of p) x

  -- the pass holds the nodes of both places, and no other; or these, or nothing
  abbrev pub IsPairAt : Arena N D P n q d → ℕ → ℕ → Pass N D → Pair N → Type 0
  IsPairAt a first second p pair = HoldsPair (sort_of n.layout n.ranged) n.body p.caller first second (seen_of p) pair

  abbrev pub CameToPair : Arena N D P n q d → ℕ → ℕ → Pass N D → Option (Pair N) → Type 0
  CameToPair a first second p pair = Came (sort_of n.layout n.ranged) n.body p.caller first second (seen_of p) pair

  -- the operation may be decided with this reply at the nodes x and y, whose bodies it has changed
  abbrev pub IsReadyBoth : Arena N D P n q d → Pass N D → Hand N → Hand N → Op → Reply → Type 0
  IsReadyBoth a p x y op reply = IsReadyTwo (sort_of n.layout n.ranged) n.body a.nodes p.caller (seen_of p) x y op reply

  -- a call that is under way at p, of any technique and begun at any moment, is done at p', if a reply Full is due: no node
  -- was free for the place since it began
  abbrev pub FinishesAtTwo : Arena N D P n q d → Op → ℕ → Pass N D → Pass N D → Reply → ℕ → Type 0
  FinishesAtTwo a op place p p' reply number = (template : Template) (start : List Event) → (reply ≡ Full → NoneFree n.layout a.nodes p.caller place start (seen_of p)) → Underway template p.caller op start (seen_of p) → Done n.layout template a.nodes p.caller op start (seen_of p') reply number

  -- a move that is under way at p, of any technique and begun at any moment, is done at p', as its result says
  abbrev pub FinishesMove : Arena N D P n q d → ℕ → ℕ → Pass N D → Pass N D → Result Numbered MoveLeft → Type 0
  FinishesMove a from to p p' answer = (template : Template) (start : List Event) → Underway template p.caller (Move from to) start (seen_of p) → Done n.layout template a.nodes p.caller (Move from to) start (seen_of p') (move_reply answer) (move_number answer)

  -- it is done, if a refusal was one since it began; or it remains under way, and was not refused before
  abbrev pub FinishesStep : Arena N D P n q d → ℕ → ℕ → Bool → Pass N D → Pass N D → Step → Type 0
  FinishesStep a from to refused p p' (done_with answer) = (template : Template) (start : List Event) → (IsTrue refused → NoneFree n.layout a.nodes p.caller to start (seen_of p)) → Underway template p.caller (Move from to) start (seen_of p) → Done n.layout template a.nodes p.caller (Move from to) start (seen_of p') (move_reply answer) (move_number answer)
  FinishesStep a from to refused p p' NoRoom = (refused ≡ false) × ((template : Template) → MovesOn template p p')
