use Rattle.std.proofs.Common.{ap, sym, arith, refl}
use Rattle.ks_node.specs.Body.{go_to}
use Rattle.ks_node.proofs.Lists.{last_node_take, last_node_front}
use Rattle.ks_node.proofs.children.next_in.Goals as goal

pub returns-in-Ok : goal.returns-in-Ok
returns-in-Ok c = let h = c.in-Ok.ensures in rw h.upto (sym (ap go_to (last_node_take _ _ _ h.within)))

pub returns-then-i-eq0 : goal.returns-then-i-eq0
returns-then-i-eq0 c = let h = c.in-Err.ensures in rw (h.upto, c.if-i-eq0.true) refl

pub returns-else-i-eq0 : goal.returns-else-i-eq0
returns-else-i-eq0 c = let h = c.in-Err.ensures in rw h.upto (sym (ap go_to (last_node_front _ _ _ (omega arith) h.within)))
