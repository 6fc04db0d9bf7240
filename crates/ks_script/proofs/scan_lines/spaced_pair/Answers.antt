use Rattle.ks_script.proofs.Common.{ℕ, List, drop, sym, ap, ◌∙◌, decimal}
use Rattle.ks_script.proofs.Numerals.{wide}
use Rattle.ks_script.proofs.Cuts.{if_none_any}
use Rattle.ks_script.proofs.Lined.{spaced_told}
use Rattle.ks_script.proofs.scan_lines.spaced_pair.Goals as goal

pub returns-in_err-value-clause-none : goal.returns-in_err-value-clause-none
returns-in_err-value-clause-none c =
    let place = c.in_ok-place in
    let word = c.in_ok-word in
    if_none_any c.from_residual-in_err-value.result
    (λ pair rest is free e.
    c.in_err-value.ensures.none pair.value rest is.1 free
    (spaced_told place.place pair.place place.rest.now (decimal pair.value) rest word.field-0.now (wide place.place place.ensures.fits) (wide pair.place is.0) place.ensures.some.1 place.ensures.some.0 (ap (λ (x : List ℕ). drop 1 x) (sym word.ensures.some ∙ e))).1)
