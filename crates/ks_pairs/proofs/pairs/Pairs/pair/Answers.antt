use Rattle.std.proofs.Common.{arith, length, ap}
use Rattle.ks_pairs.proofs.Lists.{places_length, values_length, pair_is}
use Rattle.ks_pairs.proofs.pairs.Pairs.pair.Goals as goal

pub item-requires : goal.item-requires
item-requires g c = omega (arith, c.requires, places_length _ _ c.self.invariant.0 (ap (λ s. s.items) c.self.view_is), ap length c.as_slice.ensures.value)

pub item-requires-2 : goal.item-requires-2
item-requires-2 g c = omega (arith, c.requires, values_length _ _ c.self.invariant.0 (ap (λ s. s.items) c.self.view_is), ap length c.as_slice-2.ensures.value)

pub returns : goal.returns
returns g c =
    pair_is _ _ c.self.invariant.0 (ap (λ s. s.items) c.self.view_is) c.args.at c.item.result c.item-2.result _ c.requires
    (rw (← c.as_slice.ensures.value) c.item.ensures) (rw (← c.as_slice-2.ensures.value) c.item-2.ensures)
