use Rattle.std.proofs.Common.{arith, length, ap}
use Rattle.ks_pairs.proofs.Lists.{found_here, missing_here, missing_past}
use Rattle.ks_pairs.proofs.pairs.Pairs.seek.Goals as goal

pub returns-then-at-len : goal.returns-then-at-len
returns-then-at-len g c = missing_past _ _ c.self.invariant.0 (ap (λ s. s.items) c.self.view_is) c.requires c.rank-at.ensures (omega arith)

pub item-requires : goal.item-requires
item-requires g c = omega (arith, ap length c.as_slice.ensures.value)

pub returns-then-item-place : goal.returns-then-item-place
returns-then-item-place g c = found_here _ _ c.self.invariant.0 (ap (λ s. s.items) c.self.view_is) c.requires c.rank-at.ensures c.item.result (omega arith) (rw (← c.as_slice.ensures.value) c.item.ensures) c.if-item-place.true

pub returns-else-item-place : goal.returns-else-item-place
returns-else-item-place g c = missing_here _ _ c.self.invariant.0 (ap (λ s. s.items) c.self.view_is) c.requires c.rank-at.ensures c.item.result (rw (← c.as_slice.ensures.value) c.item.ensures) c.if-item-place.false
