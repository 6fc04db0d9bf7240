-- Nodes on the path of a non-blocking search by giving up, which it does not hold yet.
use Rattle.std.proofs.Common.{ℕ, List}
use Rattle.ks_keysets.specs.Keyset.{InInset}
use Rattle.ks_history.specs.declared.Event.{Event}
use Rattle.ks_history.specs.declared.Op.{Op}
use Rattle.ks_history.specs.Map.{Touches}
use Rattle.ks_history.specs.Trace.{◌⊑◌, graph_after}
use Rattle.ks_history.specs.Laws.Stays.{AreInTurn}
use Rattle.ks_history.specs.Laws.Begins.{begins_both}
use Rattle.ks_history.specs.Beside.{OwnSpare, AreBeside}
use Rattle.ks_history.specs.Laws.Beside.{spare_both, moved_due}
use Rattle.ks_history.specs.Refusals.{MovedDue}
use Rattle.ks_giveup.specs.Tries.{WasOnWay}

-- so it stays
pub was_later : (c place : ℕ) (s0 h k : List Event) (j : ℕ) → (grows : h ⊑ k) → OwnSpare c j grows.rest → WasOnWay c place s0 h j → WasOnWay c place s0 k j
was_later c place s0 h k j grows spare was = record {
  moment = was.moment;
  since = was.since;
  later = begins_both was.moment h k was.later grows;
  spare = spare_both c j grows.rest was.later.rest spare was.spare;
  on_way = was.on_way;
  inside = was.inside;
}

-- if the place is no longer in its inset, Moved is due
pub was_moved : (c place : ℕ) (op : Op) (s0 h k : List Event) (j : ℕ) → Touches op place → h ⊑ k → AreInTurn h → AreBeside InInset h → (InInset (graph_after h) j place → ⊥) → WasOnWay c place s0 h j → MovedDue c op s0 k j
was_moved c place op s0 h k j touched until are beside gone was = moved_due c j place op s0 was.moment h k was.since was.later until touched are beside was.spare was.on_way was.inside gone
