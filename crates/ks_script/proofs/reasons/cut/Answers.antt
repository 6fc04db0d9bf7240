use Rattle.ks_script.proofs.Common.{ℕ, take, get_or, sym, subst, arith, take_more, Lacks}
use Rattle.ks_script.proofs.Refusals.{lacks_push}
use Rattle.ks_script.proofs.reasons.cut.Goals as goal

pub search-preserved : goal.search-preserved
search-preserved c =
    let bytes = c.args.bytes.now in
    let at : ℕ = c.search.at in
    record { within = omega arith; lacks = subst (Lacks c.args.end) (sym (take_more bytes at 0 c.search-test.true)) (lacks_push c.args.end (take at bytes) (get_or bytes at 0) c.search.invariant.lacks c.if-bytes-at.false) }
