use Rattle.std.proofs.Common.{arith, ap, sym, Some, ◌∙◌}
use Rattle.ks_wide.proofs.Lists.{first_node_drop, first_node_past}
use Rattle.ks_wide.proofs.children.Children.first_of.Goals as goal

pub returns-then-at-len : goal.returns-then-at-len
returns-then-at-len g c = ap (λ n. Some n) c.node.ensures ∙ sym (first_node_drop c.args.self.now.items c.args.at _ (omega arith))

pub returns-else-at-len : goal.returns-else-at-len
returns-else-at-len g c = sym (first_node_past c.args.self.now.items c.args.at (omega arith))
