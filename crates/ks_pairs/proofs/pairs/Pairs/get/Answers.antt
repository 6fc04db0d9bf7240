use Rattle.std.proofs.Common.{arith, length, ap}
use Rattle.ks_pairs.proofs.Lists.{values_length, value_found}
use Rattle.ks_pairs.proofs.pairs.Pairs.get.Goals as goal

pub item-requires : goal.item-requires
item-requires g c = omega (arith, c.in-Ok.ensures.within, values_length _ _ c.self.invariant.0 (ap (λ s. s.items) c.self.view_is), ap length c.as_slice.ensures.value)

pub returns-in-Ok : goal.returns-in-Ok
returns-in-Ok g c = value_found _ _ c.self.invariant.0 (ap (λ s. s.items) c.self.view_is) c.in-Ok.ensures c.item.result (rw (← c.as_slice.ensures.value) c.item.ensures)
