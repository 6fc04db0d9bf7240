use Rattle.std.proofs.Common.{sym, arith, ◌+◌}
use Rattle.ks_node.specs.Laws.Spans.{edge_last, edge_inner}
use Rattle.ks_wide.proofs.children.Children.edge.Goals as goal

pub overflow_sub-last : goal.overflow_sub-last
overflow_sub-last g c =
    let rise = c.requires.ascend c.args.at (c.args.at + 1) (record { low = 0; node = 0 }) (omega arith) (omega arith) in
    omega (arith, rise, c.low.ensures)

pub returns-then-at-count : goal.returns-then-at-count
returns-then-at-count g c = rw (c.low-low.ensures, c.node-node.ensures) (sym (edge_last 18446744073709551615 c.args.self.now.items c.args.at _ _ (omega arith)))

pub returns-else-at-count : goal.returns-else-at-count
returns-else-at-count g c = rw (c.low-low.ensures, c.node-node.ensures, c.low.ensures) (sym (edge_inner 18446744073709551615 c.args.self.now.items c.args.at _ _ (omega arith)))
