use Rattle.std.proofs.Common.{ℕ, ◌<◌, slice_index_or}
use Rattle.ks_keysets.specs.Record.{IsPlace}
use Rattle.ks_judge.proofs.table.keys_can_be_places.Given as goal

abbrev pub invariant-loop-entry : goal.invariant-loop-entry
invariant-loop-entry l = (k : ℕ) (d : ℕ × ℕ) → k < l.entry-index → IsPlace (slice_index_or l.entries k d).0
