use Rattle.std.proofs.Common.{◌≡◌, ◌+◌, List, take, ◌∙◌, ap, arith}
use Rattle.std.proofs.lemmas.List.{take_all}
use Rattle.ks_lines.specs.declared.Said.{Said}
use Rattle.ks_script.specs.Script.{calls_in}
use Rattle.ks_judge.specs.Flat.{lines_said}
use Rattle.ks_judge.proofs.Parted.{callers_more, callers_few, callers_of_calls, no_scans}
use Rattle.ks_judge.proofs.judging.count.Goals as goal

pub with_all-counted-requires : goal.with_all-counted-requires
with_all-counted-requires c =
    let said = c.args.callers.now in
    let i = c.loop-said.said-index in
    let e = callers_more said i c.said-item.result c.loop-said-test.true c.said-item.is in
    record { few = omega (arith, c.loop-said.invariant.calls, e, callers_few said (i + 1), c.requires) }

pub loop-said-preserved : goal.loop-said-preserved
loop-said-preserved c =
    let said = c.args.callers.now in
    let i = c.loop-said.said-index in
    let e = callers_more said i c.said-item.result c.loop-said-test.true c.said-item.is in
    record {
      calls = omega (arith, c.loop-said.invariant.calls, c.with_all-counted.ensures.calls, e);
      scans = λ none. let w = c.with_all-counted.ensures.scans none in callers_of_calls said i c.said-item.result c.loop-said-test.true c.said-item.is (c.loop-said.invariant.scans w.0) w.1;
    }

pub returns : goal.returns
returns c =
    let said = c.args.callers.now in
    let whole : calls_in (lines_said (take c.loop-said.said-index said)) ≡ calls_in (lines_said said) = ap (λ (xs : List (List Said)). calls_in (lines_said xs)) (take_all c.loop-said.said-index said c.loop-said-test.false) in
    record {
      calls = c.loop-said.invariant.calls ∙ whole;
      scans = λ none. no_scans said c.loop-said.said-index c.loop-said-test.false (c.loop-said.invariant.scans none);
    }
