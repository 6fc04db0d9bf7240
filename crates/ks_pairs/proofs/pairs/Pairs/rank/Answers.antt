use Rattle.std.proofs.Common.{ap}
use Rattle.ks_pairs.proofs.Lists.{places_ascend, rank_is}
use Rattle.ks_pairs.proofs.pairs.Pairs.rank.Goals as goal

pub count_below-requires : goal.count_below-requires
count_below-requires g c = rw c.as_slice.ensures.value (places_ascend _ _ c.self.invariant.0 (ap (λ s. s.items) c.self.view_is) c.requires)

pub returns : goal.returns
returns g c = rank_is _ _ c.self.invariant.0 (ap (λ s. s.items) c.self.view_is) c.args.place c.count_below.result (rw (← c.as_slice.ensures.value) c.count_below.ensures)
