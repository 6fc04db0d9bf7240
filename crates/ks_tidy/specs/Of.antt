-- What merging requires and ensures, of an arena and of a pass before and after.
use Rattle.std.specs.Prelude.{◌≡◌, ℕ, Bool, List, [], Option, Some, None}
use Rattle.ks_keysets.specs.Keyset.{InKeyset}
use Rattle.ks_node.specs.declared.node.Node.{Ghosts as NodeGhosts}
use Rattle.ks_node.below.ks_places.specs.declared.Placing.{Ghosts as PlacingGhosts}
use Rattle.ks_flow.specs.declared.discipline.Discipline.{Ghosts as DisciplineGhosts}
use Rattle.ks_history.specs.declared.Event.{Event}
use Rattle.ks_history.specs.declared.Op.{Op}
use Rattle.ks_history.specs.declared.Reply.{Reply}
use Rattle.ks_history.specs.Done.{Template, TidyAt}
use Rattle.ks_history.specs.Trace.{graph_after}
use Rattle.ks_history.specs.Underway.{Decided, Underway}
use Rattle.ks_node.specs.Room.{in_place}
use Rattle.ks_arena.specs.declared.arena.Arena.{Arena}
use Rattle.ks_arena.specs.declared.held.Pass.{Pass}
use Rattle.ks_arena.specs.declared.held.Held.{Held as Hand}
use Rattle.ks_arena.specs.Sound.{blank_of, sort_of}
use Rattle.ks_arena.specs.Clauses.{HasLooked, HasTaken, hand_of, seen_of}
use Rattle.ks_shape.specs.declared.path.Path.{Path}
use Rattle.ks_tidy.specs.declared.step.Step.{Step}
use Rattle.ks_shape.specs.Frees.{Counts, Frees, Undisturbed}
use Rattle.ks_tidy.specs.Pair.{ComesAgain, DidStep, FitsAlone, IsNoSole, IsPair, IsTrio}

module _ {N D : Type 0} where
  -- from p to q the Shapes of the caller made `count` nodes free, and it claimed none and made no call
  abbrev pub MakesFree : ℕ → Pass N D → Pass N D → Type 0
  MakesFree count p q = Frees p.caller (seen_of p) (seen_of q) count

  -- so it is, with the count modulo 2 ^ 32
  abbrev pub CountsFree : ℕ → Pass N D → Pass N D → Type 0
  CountsFree told p q = Counts p.caller (seen_of p) (seen_of q) told

  -- nobody else did anything meanwhile, and the caller made no node free
  abbrev pub WasUndisturbed : Pass N D → Pass N D → Type 0
  WasUndisturbed p q = Undisturbed p.caller (seen_of p) (seen_of q)

  -- the place is in the keyset of the node, as far as the pass has seen
  abbrev pub IsKeptAt : Pass N D → ℕ → ℕ → Type 0
  IsKeptAt p i place = InKeyset (graph_after (seen_of p)) i place

module _ {N D P : Type 0} {n : NodeGhosts N P} {q : PlacingGhosts P} {d : DisciplineGhosts D} where
  -- caller c, which searches for the place, holds the node of the path, and the node that leads to it; a node that takes over
  -- its child may have none
  abbrev pub IsPairOf : Arena N D P n q d → ℕ → ℕ → Pass N D → Path N → Type 0
  IsPairOf a c place p path = IsPair (sort_of n.layout n.ranged) n.body c place (seen_of p) path

  -- and it holds this live node beside
  abbrev pub IsTrioOf : Arena N D P n q d → ℕ → ℕ → Pass N D → Path N → Hand N → Type 0
  IsTrioOf a c place p path right = IsTrio (sort_of n.layout n.ranged) n.body c place (seen_of p) path right

  -- the search is at such a path; or the caller holds nothing
  abbrev pub StandsOrLeft : Arena N D P n q d → ℕ → ℕ → Pass N D → Option (Path N) → Type 0
  StandsOrLeft a c place p None = hand_of p ≡ []
  StandsOrLeft a c place p (Some path) = IsPairOf a c place p path

  -- if this node above takes over an only child, it is no branch over one
  abbrev pub HasNoSole : Arena N D P n q d → Option (Hand N) → Type 0
  HasNoSole a parent = IsNoSole (sort_of n.layout n.ranged) n.body parent

  -- the result of a try to merge at the node of a path: one node was made free; or none, and then, if no other caller acts
  -- and the path is whole, the node fits with no right neighbour, if that was looked for
  abbrev pub HasTried : Arena N D P n q d → Bool → Pass N D → Pass N D → Path N → Step N → Type 0
  HasTried a thorough p p' path step = DidStep (sort_of n.layout n.ranged) n.body p.caller (seen_of p) (seen_of p') thorough path step

  -- whether another search has to follow that from p to p', in which the caller claimed none and made no call: the type grows
  -- in place, and a node was made free
  abbrev pub MustComeAgain : Arena N D P n q d → Bool → Pass N D → Pass N D → Type 0
  MustComeAgain a again p p' = ComesAgain (in_place n.layout) p.caller (seen_of p) (seen_of p') again

  -- if nobody else acts from p to p', node i fits with no right neighbour at p'
  abbrev pub FitsNoneAlone : Arena N D P n q d → ℕ → Pass N D → Pass N D → Type 0
  FitsNoneAlone a i p p' = FitsAlone (sort_of n.layout n.ranged) n.body p.caller i (seen_of p) (seen_of p')

  -- the caller took node i, and holds it
  abbrev pub HasTakenNode : Arena N D P n q d → ℕ → Pass N D → Pass N D → Hand N → Type 0
  HasTakenNode a i p p' x = HasTaken (sort_of n.layout n.ranged) n.body p.caller i (seen_of p) (seen_of p') x

  -- the caller took node i, and holds it; or another held it, and the caller did nothing
  abbrev pub HasTakenIfIdle : Arena N D P n q d → ℕ → Pass N D → Pass N D → Option (Hand N) → Type 0
  HasTakenIfIdle a i p p' None = HasLooked p.caller (seen_of p) (seen_of p')
  HasTakenIfIdle a i p p' (Some x) = HasTakenNode a i p p' x

  -- the node whose keyset holds the place is not low, or fits with no right neighbour
  abbrev pub IsTidyOf : Arena N D P n q d → Pass N D → ℕ → Type 0
  IsTidyOf a p place = TidyAt n.layout (blank_of (sort_of n.layout n.ranged)) (seen_of p) place

  -- a call that is under way at p, by whatever technique and since whatever moment, is decided at p'
  abbrev pub DecidesAny : Arena N D P n q d → Op → Pass N D → Pass N D → Reply → ℕ → Type 0
  DecidesAny a op p p' reply number = (template : Template) (start : List Event) → Underway template p.caller op start (seen_of p) → Decided n.layout template a.nodes p.caller op start (seen_of p') reply number
