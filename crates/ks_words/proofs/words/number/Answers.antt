use Rattle.std.proofs.Common.{◌≡◌, arith, ap, sym, ◌∙◌}
use Rattle.std.specs.Fmt.{decimal}
use Rattle.ks_words.proofs.Asking.{read_as}
use Rattle.ks_words.proofs.words.number.Goals as goal
use Rattle.ks_words.proofs.words.number.Goals.{else-is-via-then-is+then-least-number+else-number-most, else-is-via-then-is+else-least-number, else-is-via-else-is}

pub returns-in_default-clause-none : goal.returns-in_default-clause-none
returns-in_default-clause-none c n least most is =
    let read = read_as n c.args.most _ c.parse.result c.parse.ensures.value.0 (c.as_str.ensures.value ∙ is) most (omega arith) in
    cc

pub returns-else-is-clause-none : goal.returns-else-is-clause-none
returns-else-is-clause-none c n least most is =
    let read = read_as n c.args.most _ c.parse.result c.parse.ensures.value.0 (c.as_str.ensures.value ∙ is) most (omega arith) in
    let same : c.in-Ok.number ≡ n = cc in
    elim c.else-is.branch [
      | else-is-via-then-is+then-least-number+else-number-most w ↦ omega arith
      | else-is-via-then-is+else-least-number w ↦ omega arith
      | else-is-via-else-is w ↦ let spelled = w.if-is.ensures.1 (is ∙ ap decimal (sym same) ∙ sym c.format.ensures.text) in cc
    ]
