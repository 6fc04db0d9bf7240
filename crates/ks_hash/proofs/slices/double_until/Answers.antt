use Rattle.std.proofs.Common.{arith, ◌∙◌, sym, subst, length, ◌≤◌, ◌-◌, ◌<◌}
use Rattle.ks_hash.specs.Laws.Joined.{starts_doubled, doubled_size, doubled_length}
use Rattle.ks_hash.proofs.Steps.{halves_left, fewer_left}
use Rattle.ks_hash.proofs.slices.double_until.Goals as goal

pub double-requires : goal.double-requires
double-requires c = halves_left _ c.args.place c.loop-slices.invariant.size c.requires.whole
    (λ e. c.loop-slices-test.true (rw (c.width.ensures, c.as_slice.ensures.value) e))

pub loop-slices-preserved : goal.loop-slices-preserved
loop-slices-preserved c =
    let less : length c.loop-slices.slices.items ≤ 32 = halves_left _ c.args.place c.loop-slices.invariant.size c.requires.whole
    (λ e. c.loop-slices-test.true (rw (c.width.ensures, c.as_slice.ensures.value) e)) in
    record {
      size = rw (c.double.ensures, doubled_length c.loop-slices.slices.items) (doubled_size (length c.loop-slices.slices.items) c.loop-slices.invariant.size (omega arith));
      starts = rw c.double.ensures (starts_doubled c.loop-slices.slices.items c.loop-slices.invariant.size (omega arith) ∙ c.loop-slices.invariant.starts);
    }

pub loop-slices-smaller : goal.loop-slices-smaller
loop-slices-smaller c =
    let less : length c.loop-slices.slices.items ≤ 32 = halves_left _ c.args.place c.loop-slices.invariant.size c.requires.whole
    (λ e. c.loop-slices-test.true (rw (c.width.ensures, c.as_slice.ensures.value) e)) in
    subst (λ l. 64 - length l < 64 - length c.loop-slices.slices.items) (sym c.double.ensures) (fewer_left c.loop-slices.slices.items c.loop-slices.invariant.size less)
