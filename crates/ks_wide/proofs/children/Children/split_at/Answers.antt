use Rattle.std.proofs.Common.{rules, arith, ap}
use Rattle.ks_wide.proofs.Lists.{lows_length, nodes_length, below_rank, from_rank}
use Rattle.ks_wide.proofs.children.Children.split_at.Goals as goal

pub split_off-lows-requires : goal.split_off-lows-requires
split_off-lows-requires g c = (search rules, omega (arith, c.rank-at.ensures.within, lows_length _ _ c.self.invariant.0 (ap (λ s. s.items) c.self.view_is)))

pub split_off-nodes-requires : goal.split_off-nodes-requires
split_off-nodes-requires g c = (search rules, omega (arith, c.rank-at.ensures.within, nodes_length _ _ c.self.invariant.0 (ap (λ s. s.items) c.self.view_is)))

pub returns-clause-left : goal.returns-clause-left
returns-clause-left g c = rw (c.split_off-lows.ensures.left, c.split_off-nodes.ensures.left) (below_rank _ _ c.self.invariant.0 (ap (λ s. s.items) c.self.view_is) c.rank-at.ensures)

pub returns-clause-right : goal.returns-clause-right
returns-clause-right g c = rw (c.split_off-lows.ensures.right, c.split_off-nodes.ensures.right) (from_rank _ _ c.self.invariant.0 (ap (λ s. s.items) c.self.view_is) c.rank-at.ensures)
