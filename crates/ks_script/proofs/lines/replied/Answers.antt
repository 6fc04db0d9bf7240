use Rattle.ks_script.proofs.Common.{ℕ, ◌≡◌, List, drop, ap, ◌∙◌, ◌++◌, sym, Reply, Value, NoDigit, refl, reply_word}
use Rattle.ks_script.proofs.Numerals.{wide}
use Rattle.ks_script.proofs.Cuts.{if_none_any}
use Rattle.ks_script.proofs.Lined.{end_free, spaced_told}
use Rattle.ks_script.proofs.Rows.{Follows, not_told}
use Rattle.ks_script.proofs.lines.replied.Goals as goal

follows : (r : Reply) (rest : List ℕ) → ((v : ℕ) → r ≡ Value v → NoDigit rest) → Follows r rest
follows (Value v) rest h = h v refl
follows other rest h = tt

pub returns-in_err-word-clause-none : goal.returns-in_err-word-clause-none
returns-in_err-word-clause-none c =
    let number = c.in_ok-number in
    if_none_any c.from_residual-in_err-word.result
    (λ x is tail ends e. c.in_err-word.ensures.none (reply_word x.1 ++ tail) (spaced_told number.number x.0 number.rest.now (reply_word x.1) tail c.args.bytes.now (wide number.number number.ensures.fits) (wide x.0 is.0) number.ensures.some.1 number.ensures.some.0 e).1)

pub returns-in_err-reply-clause-none : goal.returns-in_err-reply-clause-none
returns-in_err-reply-clause-none c =
    let number = c.in_ok-number in
    if_none_any c.from_residual-in_err-reply.result
    (λ x is tail ends e.
    c.in_err-reply.ensures.none x.1 tail is.1 (end_free tail ends) (ap (λ (y : List ℕ). drop 1 y) (sym c.in_ok-word.ensures.some ∙ (spaced_told number.number x.0 number.rest.now (reply_word x.1) tail c.args.bytes.now (wide number.number number.ensures.fits) (wide x.0 is.0) number.ensures.some.1 number.ensures.some.0 e).1)))

pub returns-in_err-line_end-clause-none : goal.returns-in_err-line_end-clause-none
returns-in_err-line_end-clause-none c =
    let number = c.in_ok-number in
    let told = c.in_ok-reply in
    if_none_any c.from_residual-in_err-line_end.result
    (λ x is tail ends e.
    not_told told.reply c.in_ok-word.field-0.now told.rest.now told.ensures.some.0 (follows told.reply told.rest.now told.ensures.ends) told.ensures.some.1 c.in_err-line_end.ensures.none x.1 is.1 tail ends (ap (λ (y : List ℕ). drop 1 y) (sym c.in_ok-word.ensures.some ∙ (spaced_told number.number x.0 number.rest.now (reply_word x.1) tail c.args.bytes.now (wide number.number number.ensures.fits) (wide x.0 is.0) number.ensures.some.1 number.ensures.some.0 e).1)))
