use Rattle.std.proofs.Common.{rules, arith, ap}
use Rattle.ks_wide.proofs.Lists.{lows_length, nodes_length, length-started, with_rank}
use Rattle.ks_wide.proofs.children.Children.add.Goals as goal

pub insert-requires : goal.insert-requires
insert-requires g c =
    let long = lows_length _ _ c.self.invariant.0 (ap (λ s. s.items) c.self.view_is) in
    (search rules, (omega (arith, c.rank-at.ensures.within), omega (arith, c.requires.room)))

pub insert-requires-2 : goal.insert-requires-2
insert-requires-2 g c =
    let long = nodes_length _ _ c.self.invariant.0 (ap (λ s. s.items) c.self.view_is) in
    (search rules, (omega (arith, c.rank-at.ensures.within), omega (arith, c.requires.room)))

pub returns-clause-items : goal.returns-clause-items
returns-clause-items g c = rw (c.insert.ensures.items, c.insert-2.ensures.items) (with_rank _ _ c.self.invariant.0 (ap (λ s. s.items) c.self.view_is) c.rank-at.ensures c.args.node)

pub returns-clause-fits : goal.returns-clause-fits
returns-clause-fits g c =
    let long = lows_length _ _ c.self.invariant.0 (ap (λ s. s.items) c.self.view_is) in
    let same = length-started c.insert.new.self.items c.insert-2.new.self.items (omega (arith, c.insert.ensures.len, c.insert-2.ensures.len, c.self.invariant.0)) in
    omega (arith, same, c.insert.ensures.len, c.requires.room)
