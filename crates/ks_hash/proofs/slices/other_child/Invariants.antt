use Rattle.std.proofs.Common.{◌≡◌, drop, nat_eq}
use Rattle.std.specs.Prelude.{not, find}
use Rattle.ks_hash.proofs.slices.other_child.Given as goal

abbrev pub invariant-loop-slice : goal.invariant-loop-slice
invariant-loop-slice l = find (λ c. not (nat_eq c l.child)) (drop l.slice-index l.slices) ≡ find (λ c. not (nat_eq c l.child)) l.slices
