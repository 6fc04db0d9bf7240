use Rattle.std.proofs.Common.{ℕ, ◌≡◌, ◌<◌, ◌+◌, false, length, take}
use Rattle.ks_script.specs.PackedReplies.{said_at}
use Rattle.ks_script.specs.Plain.{IsOfCall}
use Rattle.ks_judge.specs.Flat.{replies_all}
use Rattle.ks_judge.proofs.judging.Counted.with_all.Given as goal

abbrev pub invariant-loop-at : goal.invariant-loop-at
invariant-loop-at l = record {
  calls : l.counted.calls ≡ l.fn.self.calls + length (replies_all (take l.at l.said));
  scans : l.counted.scans ≡ false → (l.fn.self.scans ≡ false) × ((k : ℕ) → k < l.at → IsOfCall (said_at l.said k));
}
