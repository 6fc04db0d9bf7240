use Rattle.std.proofs.Common.{arith}
use Rattle.ks_node.specs.Laws.Cuts.{later, below_more_keys}
use Rattle.ks_list.specs.Listed.{pair_of, pairs_of}
use Rattle.ks_list.specs.Laws.Pairs.{pair_read, pairs_length}
use Rattle.ks_list.proofs.pairs.rank.Goals as goal

pub returns-then-place-at : goal.returns-then-place-at
returns-then-place-at c =
    let xs = c.args.pairs.now.pairs in
    let t = c.get-at.result in
    let long = pairs_length xs in
    record {
      within = omega arith;
      before = λ k d h l. c.loop-i.invariant k d h;
      after = later (λ x. x.place) (pairs_of xs) c.loop-i.i c.args.place (pair_of t) c.requires (pair_read xs c.loop-i.i t (pair_of t) (omega arith) c.get-at.ensures) c.if-place-at.true;
    }

pub loop-i-preserved : goal.loop-i-preserved
loop-i-preserved c =
    let xs = c.args.pairs.now.pairs in
    let t = c.get-at.result in
    let long = pairs_length xs in
    below_more_keys (λ x. x.place) (pairs_of xs) c.loop-i.i c.args.place (pair_of t) c.loop-i.invariant (omega arith) (pair_read xs c.loop-i.i t (pair_of t) (omega arith) c.get-at.ensures) c.if-place-at.false
