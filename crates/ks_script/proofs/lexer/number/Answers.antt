use Rattle.ks_script.proofs.Common.{sym, ◌∙◌, arith}
use Rattle.ks_script.proofs.Numerals.{wide}
use Rattle.ks_script.proofs.Cuts.{if_none_any}
use Rattle.ks_script.proofs.Lined.{number_told}
use Rattle.ks_script.proofs.lexer.number.Goals as goal

pub returns-in_err-value-clause-none : goal.returns-in_err-value-clause-none
returns-in_err-value-clause-none c = if_none_any c.from_residual.result (λ n rest small free e. c.in_err-value.ensures.none n rest (wide n small) free e)

pub returns-then-value-ge18446744073709551616-clause-none : goal.returns-then-value-ge18446744073709551616-clause-none
returns-then-value-ge18446744073709551616-clause-none c =
    let v = c.in_ok-value in
    λ n rest small free e. omega (arith, c.if-value-ge18446744073709551616.true, (number_told v.value n v.rest.now rest v.ensures.fits (wide n small) v.ensures.some.1 free (sym v.ensures.some.0 ∙ e)).0)
