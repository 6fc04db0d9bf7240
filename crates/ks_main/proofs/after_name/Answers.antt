use Rattle.std.proofs.Common.{ap, arith}
use Rattle.std_alloc.specs.Vec.Iter.{into_iter_items, into_iter_len}
use Rattle.std.proofs.lemmas.Iterator.{items_from_collect}
use Rattle.std.proofs.lemmas.Iterator.Adapters.{YieldsList-from_vec, YieldsList-from_skip}
use Rattle.ks_main.proofs.after_name.Goals as goal

pub returns : goal.returns
returns c =
    let long = ap into_iter_len c.skip.ensures.source in
    let all = c.args.args.rest.ok.0 in
    items_from_collect c.collect.result c.collect.ensures.ran
    (YieldsList-from_skip 1 (YieldsList-from_vec (into_iter_items c.args.args) (ap into_iter_items c.skip.ensures.source) (omega arith)) c.skip.ensures.count)
