use Rattle.ks_script.proofs.Common.{◌++◌, codes, refl, sym, ◌∙◌, append_assoc, decimal}
use Rattle.ks_script.proofs.Cuts.{if_none_any}
use Rattle.ks_script.proofs.CallLines.{pair_told}
use Rattle.ks_script.proofs.lines.exchange.Goals as goal

pub returns-in_err-new-clause-none : goal.returns-in_err-new-clause-none
returns-in_err-new-clause-none c =
    let key = c.in_ok-key in
    if_none_any c.from_residual-in_err-new.result
    (λ k v w rest small fits last free e.
    c.in_err-new.ensures.none w rest last free (pair_told (key.key, key.old) (k, v) key.rest.now (codes " " ++ (decimal w ++ rest)) key.ensures.fits.0 key.ensures.fits.1 small fits key.ensures.some.1 refl (sym key.ensures.some.0 ∙ (e ∙ simp append_assoc))).1)
