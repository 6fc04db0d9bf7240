use Rattle.std.proofs.Common.{ℕ, ◌≡◌, ◌<◌, [], false, get_or, take}
use Rattle.ks_script.specs.PackedReplies.{said_at}
use Rattle.ks_script.specs.Plain.{IsOfCall}
use Rattle.ks_script.specs.Script.{calls_in}
use Rattle.ks_judge.specs.Flat.{lines_said}
use Rattle.ks_judge.proofs.judging.count.Given as goal

abbrev pub invariant-loop-said : goal.invariant-loop-said
invariant-loop-said l = record {
  calls : l.counted.calls ≡ calls_in (lines_said (take l.said-index l.callers));
  scans : l.counted.scans ≡ false → (c : ℕ) → c < l.said-index → (k : ℕ) → IsOfCall (said_at (get_or l.callers c []) k);
}
