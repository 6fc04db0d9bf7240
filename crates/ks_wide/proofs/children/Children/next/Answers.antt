use Rattle.std.proofs.Common.{ap, sym, arith, refl}
use Rattle.ks_node.specs.Body.{go_to}
use Rattle.ks_wide.proofs.Lists.{last_node_take, last_node_front}
use Rattle.ks_wide.proofs.children.Children.next.Goals as goal

pub returns-in-Ok : goal.returns-in-Ok
returns-in-Ok g c = let h = c.in-Ok.ensures in rw (h.upto, c.node.ensures) (sym (ap go_to (last_node_take _ _ _ h.within)))

pub returns-then-at-eq0 : goal.returns-then-at-eq0
returns-then-at-eq0 g c = let h = c.in-Err.ensures in rw (h.upto, c.if-at-eq0.true) refl

pub returns-else-at-eq0 : goal.returns-else-at-eq0
returns-else-at-eq0 g c = let h = c.in-Err.ensures in rw (h.upto, c.node-else-at-eq0.ensures) (sym (ap go_to (last_node_front _ _ _ (omega arith) h.within)))
