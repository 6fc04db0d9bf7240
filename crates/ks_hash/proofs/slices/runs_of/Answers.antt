use Rattle.std.proofs.Common.{arith, ap, ◌∙◌, sym, length}
use Rattle.ks_node.specs.Effect.{runs}
use Rattle.ks_hash.specs.Slices.{slice_starts}
use Rattle.ks_hash.specs.Laws.Joined.{runs_is}
use Rattle.ks_hash.proofs.Steps.{runs_same, runs_new, runs_all}
use Rattle.ks_hash.proofs.slices.runs_of.Goals as goal
use Rattle.ks_hash.proofs.slices.runs_of.Goals.{then-not-is_same, else-not-is_same}

pub loop-i-preserved : goal.loop-i-preserved
loop-i-preserved c = record {
  starts = elim c.if-not-is_same.branch [
    | then-not-is_same w ↦ rw (w.before-is, w.starts-is, w.push.ensures.items) (runs_new c.loop-i.starts.items _ c.loop-i.before c.width-width.result c.loop-i.i c.args.slices.now c.loop-i-test.true c.loop-i.invariant.starts (sym c.is_same.ensures ∙ w.if-not-is_same.true))
    | else-not-is_same w ↦ rw (w.before-is, w.starts-is) (runs_same c.loop-i.starts.items _ c.loop-i.before c.width-width.result c.loop-i.i c.args.slices.now c.loop-i-test.true c.loop-i.invariant.starts (sym c.is_same.ensures ∙ w.if-not-is_same.false))
  ];
  few = elim c.if-not-is_same.branch [
    | then-not-is_same w ↦ omega (arith, ap (λ v. length v.items) w.starts-is, w.push.ensures.len, c.loop-i.invariant.few)
    | else-not-is_same w ↦ omega (arith, ap (λ v. length v.items) w.starts-is, c.loop-i.invariant.few)
  ];
}

pub returns : goal.returns
returns c =
    runs_all c.loop-i.starts.items _ c.loop-i.before c.width-width.result c.loop-i.i c.args.slices.now c.loop-i-test.false c.loop-i.invariant.starts
    ∙ runs_is _ ∙ ap (λ w. runs (slice_starts w 0 c.args.slices.now)) c.width-width.ensures
