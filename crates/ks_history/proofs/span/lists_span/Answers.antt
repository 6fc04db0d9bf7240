use Rattle.std.proofs.Common.{sym, arith, rules, ◌≡◌, ◌∙◌, eq-eqb, get_or}
use Rattle.std.specs.Ordering.{nat_cmp}
use Rattle.std.specs.BTreeMap.{get}
use Rattle.std.proofs.lemmas.Bool.{eqb-true}
use Rattle.std.proofs.lemmas.Bool.Decides.{nat_tests}
use Rattle.ks_history.proofs.Spans.{pair_of, span_of, lists_none_iff, lists_span_iff, span_more, span_all}
use Rattle.ks_history.proofs.span.lists_span.Goals as goal

pub returns-then-last-low : goal.returns-then-last-low
returns-then-last-low c =
    let none = lists_none_iff (get nat_cmp c.args.map.now) c.args.low c.args.last c.args.pairs.now c.if-last-low.true in
    ((λ is. none.0 (sym c.len.ensures.value ∙ eqb-true c.len.result 0 is)), (λ h. eq-eqb c.len.result 0 (c.len.ensures.value ∙ none.1 h)))

pub loop-place-init : goal.loop-place-init
loop-place-init c =
    let all : c.into_iter-place-iterator.result ≡ span_of c.args.low c.args.last c.args.map.now.entries = grind (arith, c.range-place-items.ensures.between (search rules)) in
    record {
      fits = omega arith;
      left = rw all (lists_span_iff c.args.map.now c.args.low c.args.last c.args.pairs.now c.range-place-items.ensures.ordered);
    }

pub loop-place-preserved : goal.loop-place-preserved
loop-place-preserved c =
    let here : get_or c.args.pairs.now c.loop-place.at c.pair.result ≡ pair_of (c.in-Some.place.now, c.in-Some.value.now) = grind (arith, nat_tests) in
    record {
      fits = omega arith;
      left = span_more c.args.pairs.now c.loop-place.at c.pair.result (c.in-Some.place.now, c.in-Some.value.now) c.next.new.self (omega arith) here (rw c.in-Some.ensures.steps at c.loop-place.invariant.left);
    }

pub returns : goal.returns
returns c =
    let all = span_all c.args.pairs.now c.loop-place.at c.loop-place.invariant.fits (rw c.in-None.ensures.steps.0 at c.loop-place.invariant.left) in
    ((λ is. all.0 (eqb-true c.loop-place.at c.len-2.result is ∙ c.len-2.ensures.value)), (λ h. eq-eqb c.loop-place.at c.len-2.result (all.1 h ∙ sym c.len-2.ensures.value)))
