-- What a call of the arena leaves as it was: it is enough that the pass keeps what it holds.
use Rattle.std.proofs.Common.{◌≡◌, ℕ, List, ◌∷◌}
use Rattle.std.specs.Prelude.{Option}
use denote.Bor.{Bor}
use Rattle.ks_keysets.specs.declared.Change.{Change}
use Rattle.ks_node.specs.declared.node.Node.{Ghosts as NodeGhosts}
use Rattle.ks_node.below.ks_places.specs.declared.Placing.{Ghosts as PlacingGhosts}
use Rattle.ks_flow.specs.declared.discipline.Discipline.{Ghosts as DisciplineGhosts}
use Rattle.ks_history.specs.declared.Event.TheVariants.{Call, Shape, Twin}
use Rattle.ks_history.specs.declared.Op.{Op}
use Rattle.ks_history.specs.declared.Reply.{Reply}
use Rattle.ks_arena.specs.declared.arena.Arena.{Arena}
use Rattle.ks_arena.specs.declared.held.Held.{Held as Hand}
use Rattle.ks_arena.specs.declared.held.Pass.{Pass}
use Rattle.ks_arena.specs.declared.view.Mark.{Mark}
use Rattle.ks_arena.specs.Sound.{sort_of}
use Rattle.ks_arena.specs.Clauses.{hand_of, mine_of, seen_of}
use Rattle.ks_arena.specs.Of.{IsMarkedPassOf, Keeps, KeepsBut, KeepsBesides, Adds, AddsCall, RestStays, RestStaysBut, HasDecided, HasShaped}
use Rattle.ks_arena.specs.AtTwo.{second_of, KeptButTwo, HasDecidedAtTwo}
use Rattle.ks_arena.proofs.After.{still}

module _ {N D P : Type 0} {n : NodeGhosts N P} {q : PlacingGhosts P} {d : DisciplineGhosts D} (a : Arena N D P n q d) (p p' : Pass N D) {l : Mark} (is : IsMarkedPassOf a l p) where
  pub rest_of : Keeps p p' → RestStays a p p'
  rest_of kept = record { kept = kept; still = λ x has m. still (sort_of n.layout n.ranged) d.begins d.step n.body _ _ p _ x is has (λ t. kept x.node t) m }

  pub rest_but : (i : ℕ) → KeepsBut i p p' → RestStaysBut a i p p'
  rest_but i kept = record { kept = kept; still = λ x ne has m. still (sort_of n.layout n.ranged) d.begins d.step n.body _ _ p _ x is has (λ t. kept x.node ne t) m }

  pub decided_of : (x : Hand N) (op : Op) (reply : Reply) (number : ℕ) → AddsCall (Call p.caller x.node op reply) p p' number → hand_of p' ≡ hand_of p → mine_of p' ≡ Call p.caller x.node op reply ∷ mine_of p → KeepsBut x.node p p' → HasDecided a x op reply p p' number
  decided_of x op reply number adds hand mine kept = record { adds = adds; hand = hand; mine = mine; kept = kept; still = (rest_but x.node kept).still }

  pub decided_at_two : (x : Hand N) (y : Option (Bor (Hand N))) (op : Op) (reply : Reply) (number : ℕ) → AddsCall (Twin p.caller x.node (second_of x y) op reply) p p' number → hand_of p' ≡ hand_of p → mine_of p' ≡ Twin p.caller x.node (second_of x y) op reply ∷ mine_of p
      → KeptButTwo x.node (second_of x y) p.caller (seen_of p) (seen_of p') → HasDecidedAtTwo a x y op reply p p' number
  decided_at_two x y op reply number adds hand mine kept = record {
    adds = adds;
    hand = hand;
    mine = mine;
    kept = kept;
    still = λ z ne other has m. still (sort_of n.layout n.ranged) d.begins d.step n.body _ _ p _ z is has (λ t. kept z.node ne other t) m;
  }

  pub shaped_of : (changes : List Change) → Adds (Shape p.caller changes) p p' → hand_of p' ≡ hand_of p → mine_of p' ≡ Shape p.caller changes ∷ mine_of p → KeepsBesides changes p p' → HasShaped a changes p p'
  shaped_of changes adds hand mine kept = record { adds = adds; hand = hand; mine = mine; kept = kept; still = λ x ne has m. still (sort_of n.layout n.ranged) d.begins d.step n.body _ _ p _ x is has (λ t. kept x.node ne t) m }
