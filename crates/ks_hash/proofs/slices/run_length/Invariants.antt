use Rattle.std.proofs.Common.{◌≡◌, ◌+◌, drop, nat_eq}
use Rattle.std.specs.List.{prefix_len}
use Rattle.ks_hash.proofs.slices.run_length.Given as goal

abbrev pub invariant-loop-i : goal.invariant-loop-i
invariant-loop-i l = prefix_len (λ c. nat_eq c l.child) l.slices ≡ l.i + prefix_len (λ c. nat_eq c l.child) (drop l.i l.slices)
