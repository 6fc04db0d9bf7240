use Rattle.std.proofs.Common.{◌≡◌, true, take, nat_eq}
use Rattle.std.specs.List.{list_all}
use Rattle.ks_node.proofs.children.all_lead_to.Given as goal

abbrev pub invariant-loop-start : goal.invariant-loop-start
invariant-loop-start l = list_all (λ s. nat_eq s.node l.node) (take l.start-index l.starts) ≡ true
