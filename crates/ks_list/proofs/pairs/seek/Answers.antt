use Rattle.std.proofs.Common.{◌∙◌, arith, ap}
use Rattle.ks_node.specs.Laws.Cuts.{found, missing}
use Rattle.ks_list.specs.Listed.{pair_of, pairs_of}
use Rattle.ks_list.specs.Laws.Pairs.{pair_read, pairs_length}
use Rattle.ks_list.proofs.pairs.seek.Goals as goal

pub returns-then-i-len : goal.returns-then-i-len
returns-then-i-len c =
    let xs = c.args.pairs.now.pairs in
    let long = pairs_length xs in
    missing (λ x. x.place) c.args.place (pairs_of xs) c.rank-i.result c.requires c.rank-i.ensures (λ d l e. absurd (omega arith))

pub returns-then-at-place : goal.returns-then-at-place
returns-then-at-place c =
    let xs = c.args.pairs.now.pairs in
    let t = c.get-at.result in
    let long = pairs_length xs in
    found (λ x. x.place) c.args.place (pairs_of xs) c.rank-i.result (pair_of t) c.requires c.rank-i.ensures (omega arith) (pair_read xs c.rank-i.result t (pair_of t) (omega arith) c.get-at.ensures) c.if-at-place.true

pub returns-else-at-place : goal.returns-else-at-place
returns-else-at-place c =
    let xs = c.args.pairs.now.pairs in
    let t = c.get-at.result in
    let long = pairs_length xs in
    missing (λ x. x.place) c.args.place (pairs_of xs) c.rank-i.result c.requires c.rank-i.ensures
    (λ d l e. c.if-at-place.false (ap (λ x. x.place) (pair_read xs c.rank-i.result t d (omega arith) c.get-at.ensures) ∙ e))
