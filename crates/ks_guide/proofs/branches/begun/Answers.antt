use Rattle.std.proofs.Common.{◌≤◌, ◌<◌, ◌+◌, ◌/◌, length, get_or, arith, ap}
use Rattle.std.proofs.lemmas.List.{get_or_default}
use Rattle.ks_guide.specs.declared.spot.Spot.{Spot}
use Rattle.ks_guide.proofs.branches.begun.Goals as goal

pub loop-left-preserved-then-spots-begun : goal.loop-left-preserved-then-spots-begun
loop-left-preserved-then-spots-begun c =
    let none : Spot = record { low = 0; last = 0; node = 0 } in
    let half = c.loop-left.begun + c.loop-left.left / 2 in
    let less : half < length c.args.spots.now = omega (arith, c.loop-left.invariant.0, c.loop-left-test.true) in
    let is : (get_or c.args.spots.now half none).low ≤ c.args.place = c.if-spots-begun.true in (
      omega (arith, c.loop-left.invariant.0, c.loop-left-test.true),
      λ i d h. omega (arith, is, c.requires i half d (omega arith) less, ap (λ (s : Spot). s.low) (get_or_default c.args.spots.now half none d less)),
      λ i d h l. c.loop-left.invariant.2 i d (omega (arith, c.loop-left-test.true)) l,
    )

pub loop-left-preserved : goal.loop-left-preserved
loop-left-preserved c =
    let none : Spot = record { low = 0; last = 0; node = 0 } in
    let half = c.loop-left.begun + c.loop-left.left / 2 in
    let less : half < length c.args.spots.now = omega (arith, c.loop-left.invariant.0, c.loop-left-test.true) in
    let is : c.args.place < (get_or c.args.spots.now half none).low = c.if-spots-begun.false in (
      omega (arith, c.loop-left.invariant.0, c.loop-left-test.true),
      c.loop-left.invariant.1,
      λ i d h l. omega (arith, is, c.requires half i d h l, ap (λ (s : Spot). s.low) (get_or_default c.args.spots.now half none d less)),
    )
