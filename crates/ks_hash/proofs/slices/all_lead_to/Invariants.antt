use Rattle.std.proofs.Common.{◌≡◌, true, take, nat_eq}
use Rattle.std.specs.List.{list_all}
use Rattle.ks_hash.proofs.slices.all_lead_to.Given as goal

abbrev pub invariant-loop-slice : goal.invariant-loop-slice
invariant-loop-slice l = list_all (λ c. nat_eq c l.child) (take l.slice-index l.slices) ≡ true
