use Rattle.std.proofs.Common.{◌≡◌, true, take, nat_eq}
use Rattle.std.specs.List.{list_all}
use Rattle.ks_wide.proofs.slices.are_all.Given as goal

abbrev pub invariant-loop-other : goal.invariant-loop-other
invariant-loop-other l = list_all (λ n. nat_eq n l.node) (take l.other-index l.nodes) ≡ true
