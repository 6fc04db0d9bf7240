use Rattle.std.proofs.Common.{sym, arith}
use Rattle.ks_node.specs.Laws.Spans.{edge_last, edge_inner}
use Rattle.ks_node.proofs.children.edge_in.Goals as goal

pub returns-then-n-starts : goal.returns-then-n-starts
returns-then-n-starts c = sym (edge_last 18446744073709551615 c.args.starts.now c.args.n _ _ c.if-n-starts.true)

pub returns-else-n-starts : goal.returns-else-n-starts
returns-else-n-starts c = sym (edge_inner 18446744073709551615 c.args.starts.now c.args.n _ _ (omega arith))
