use Rattle.std.proofs.Common.{◌∙◌, ap, sym}
use Rattle.std.proofs.lemmas.List.{take-map, drop-map}
use Rattle.ks_node.specs.Laws.Cuts.{below_is_take, from_is_drop}
use Rattle.ks_list.specs.Listed.{pair_of, pairs_of}
use Rattle.ks_list.proofs.pairs.move_pairs.Goals as goal

pub returns-clause-left : goal.returns-clause-left
returns-clause-left c =
    let xs = c.args.pairs.now.pairs in
    let r = c.rank-i.ensures in
    ap (λ b. pairs_of b.pairs) c.move_tail.ensures.kept ∙ sym (take-map pair_of c.rank-i.result xs)
    ∙ sym (below_is_take (λ x. x.place) c.args.cut (pairs_of xs) c.rank-i.result r.before r.after)

pub returns-clause-right : goal.returns-clause-right
returns-clause-right c =
    let xs = c.args.pairs.now.pairs in
    let r = c.rank-i.ensures in
    ap (λ b. pairs_of b.pairs) c.move_tail.ensures.moved ∙ sym (drop-map pair_of c.rank-i.result xs)
    ∙ sym (from_is_drop (λ x. x.place) c.args.cut (pairs_of xs) c.rank-i.result r.before r.after)
