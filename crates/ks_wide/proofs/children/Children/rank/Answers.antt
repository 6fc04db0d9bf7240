use Rattle.std.proofs.Common.{ap}
use Rattle.ks_wide.proofs.Lists.{lows_ascend, rank_is}
use Rattle.ks_wide.proofs.children.Children.rank.Goals as goal

pub rank_from-requires : goal.rank_from-requires
rank_from-requires g c = rw c.as_slice-lows.ensures.value (lows_ascend _ _ c.self.invariant.0 (ap (λ s. s.items) c.self.view_is) c.requires)

pub returns : goal.returns
returns g c = rank_is _ _ c.self.invariant.0 (ap (λ s. s.items) c.self.view_is) c.args.place c.rank_from.result (rw (← c.as_slice-lows.ensures.value) c.rank_from.ensures)
