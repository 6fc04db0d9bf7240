use Rattle.std.proofs.Common.{arith, get_or}
use Rattle.std.proofs.lemmas.List.{get_or_default}
use Rattle.ks_node.specs.Laws.Cuts.{later, below_more_keys}
use Rattle.ks_pairs.proofs.slices.count_below.Goals as goal

pub loop-i-preserved : goal.loop-i-preserved
loop-i-preserved c =
    let here = get_or c.args.numbers.now c.loop-i.i 0 in
    below_more_keys (λ n. n) c.args.numbers.now c.loop-i.i c.args.limit here c.loop-i.invariant c.loop-i-test.true (get_or_default _ _ 0 here c.loop-i-test.true) c.if-limit-number.false

pub returns-then-limit-number : goal.returns-then-limit-number
returns-then-limit-number c =
    let here = get_or c.args.numbers.now c.loop-i.i 0 in
    record {
      within = omega arith;
      before = λ k d h l. c.loop-i.invariant k d h;
      after = later (λ n. n) c.args.numbers.now c.loop-i.i c.args.limit here c.requires (get_or_default _ _ 0 here c.loop-i-test.true) c.if-limit-number.true;
    }
