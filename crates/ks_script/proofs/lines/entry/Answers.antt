use Rattle.ks_script.proofs.Common.{decimal}
use Rattle.ks_script.proofs.Numerals.{wide}
use Rattle.ks_script.proofs.Cuts.{if_none_any}
use Rattle.ks_script.proofs.Lined.{spaced_told}
use Rattle.ks_script.proofs.lines.entry.Goals as goal

pub returns-in_err-value-clause-none : goal.returns-in_err-value-clause-none
returns-in_err-value-clause-none c =
    let key = c.in_ok-key in
    if_none_any c.from_residual-in_err-value.result
    (λ k v rest small fits free e.
    c.in_err-value.ensures.none v rest fits free (spaced_told key.key k key.rest.now (decimal v) rest c.args.bytes.now (wide key.key key.ensures.fits) (wide k small) key.ensures.some.1 key.ensures.some.0 e).1)
