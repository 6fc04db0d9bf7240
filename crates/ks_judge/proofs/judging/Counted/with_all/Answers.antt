use Rattle.std.proofs.Common.{◌≡◌, ◌<◌, ◌≤◌, ◌+◌, length, take, ap, arith, List}
use Rattle.std.proofs.lemmas.List.{take_all}
use Rattle.ks_lines.specs.declared.Said.{Said}
use Rattle.ks_judge.specs.Flat.{replies_all}
use Rattle.ks_judge.proofs.Parted.{front_more, front_few, all_of_calls, one_more_of_call}
use Rattle.ks_judge.proofs.judging.Counted.with_all.Goals as goal

pub with-counted-requires-clause-few : goal.with-counted-requires-clause-few
with-counted-requires-clause-few c =
    let ss = c.args.said.now in
    let lt : c.loop-at.at < length ss = omega (arith, c.loop-at-test.true, c.len-at-end.ensures) in
    omega (arith, c.loop-at.invariant.calls, front_more ss c.loop-at.at lt, front_few ss (c.loop-at.at + 1), c.requires.few)

pub loop-at-preserved : goal.loop-at-preserved
loop-at-preserved c =
    let ss = c.args.said.now in
    let lt : c.loop-at.at < length ss = omega (arith, c.loop-at-test.true, c.len-at-end.ensures) in
    record {
      calls = omega (arith, c.loop-at.invariant.calls, front_more ss c.loop-at.at lt, c.with-counted.ensures.calls);
      scans = λ none. let e = c.with-counted.ensures.scans none in let i = c.loop-at.invariant.scans e.0 in (i.0, one_more_of_call ss c.loop-at.at i.1 e.1);
    }

pub returns : goal.returns
returns c =
    let ss = c.args.said.now in
    let past : length ss ≤ c.loop-at.at = omega (arith, c.loop-at-test.false, c.len-at-end.ensures) in
    let whole : length (replies_all (take c.loop-at.at ss)) ≡ length (replies_all ss) = ap (λ (xs : List Said). length (replies_all xs)) (take_all c.loop-at.at ss past) in
    record {
      calls = omega (arith, c.loop-at.invariant.calls, whole);
      scans = λ none. let i = c.loop-at.invariant.scans none in (i.0, all_of_calls ss c.loop-at.at past i.1);
    }
