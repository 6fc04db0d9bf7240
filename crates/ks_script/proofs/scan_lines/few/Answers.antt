use Rattle.ks_script.proofs.Common.{ℕ, ◌≡◌, List, [], ◌∷◌, ◌++◌, length, sym, subst, ap, ◌∙◌, arith, length-append, AllByRecursion, Pair, pair_words, IsPair}
use Rattle.ks_script.proofs.Cuts.{if_none_any}
use Rattle.ks_script.proofs.Texts.{words_push}
use Rattle.ks_script.proofs.Steps.{all_push}
use Rattle.ks_script.proofs.Saids.{no_words}
use Rattle.ks_script.proofs.scan_lines.few.Goals as goal

pub returns-in_err-line_end-clause-none : goal.returns-in_err-line_end-clause-none
returns-in_err-line_end-clause-none c =
    let inv = c.pairs.invariant in
    if_none_any c.from_residual.result
    (no_words c.pairs.pairs c.pairs.rest.now c.args.bytes.now inv.read inv.each inv.free c.in_err-line_end.ensures.none (λ few pair tail is free e. c.in_default.ensures.none pair tail is free e))

pub returns-in_err-line_end-2-clause-none : goal.returns-in_err-line_end-2-clause-none
returns-in_err-line_end-2-clause-none c =
    let inv = c.pairs.invariant in
    if_none_any c.from_residual-in_err-line_end-2.result
    (no_words c.pairs.pairs c.pairs.rest.now c.args.bytes.now inv.read inv.each inv.free c.in_err-line_end-2.ensures.none (λ few pair tail is free e. omega (arith, c.len.ensures.value)))

pub pairs-preserved : goal.pairs-preserved
pairs-preserved c =
    let inv = c.pairs.invariant in
    let was = c.pairs.pairs in
    let some = c.in-Some in
    let pushed : c.push.new.self ≡ was ++ some.pair ∷ [] = c.push.ensures in
    record {
      few = omega (arith, ap (λ (ps : List Pair). length ps) pushed, length-append was (some.pair ∷ []), c.len.ensures.value);
      each = subst (AllByRecursion IsPair) (sym pushed) (all_push IsPair was some.pair inv.each some.ensures.fits.0);
      free = some.ensures.fits.1;
      read = inv.read ∙ (ap (λ (x : List ℕ). pair_words was ++ x) some.ensures.some ∙ (sym (words_push was some.pair some.more.now) ∙ ap (λ (ps : List Pair). pair_words ps ++ some.more.now) (sym pushed)));
    }
