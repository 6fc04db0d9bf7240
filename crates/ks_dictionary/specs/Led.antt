-- What puts and adds leave beside their replies: edges to new nodes.
use Rattle.std.specs.Prelude.{IsTrue}
use Rattle.ks_node.specs.declared.node.Node.{Ghosts as NodeGhosts}
use Rattle.ks_places.specs.declared.Placing.{Ghosts as PlacingGhosts}
use Rattle.ks_flow.specs.declared.discipline.Discipline.{Ghosts as DisciplineGhosts}
use Rattle.ks_history.specs.Done.{Template}
use Rattle.ks_arena.specs.declared.held.Pass.{Pass}
use Rattle.ks_arena.specs.Of.{WasAlone}
use Rattle.ks_shape.specs.Upkeep.{AreNewLed, HasTwoFree, LeadsNew}
use Rattle.ks_dictionary.specs.declared.dictionary.Dictionary.{Dictionary}
use Rattle.ks_dictionary.specs.Of.{site_of}

module _ {N T P D : Type 0} {n : NodeGhosts N P} {q : PlacingGhosts P} {d : DisciplineGhosts D} where
  -- along links, over nodes whose branches adopt edges and whose halves have room: if no other caller did anything between the
  -- two passes, and two nodes are free at the second, an edge leads to each node that is new there
  abbrev pub HasLedNew : Dictionary N T P D n q d → Template → Pass N D → Pass N D → Type 0
  HasLedNew m technique p p' = LeadsNew technique → IsTrue n.branches_adopt → IsTrue n.halves_have_room → WasAlone p p' → HasTwoFree (site_of m) p' → AreNewLed (site_of m) p p'
