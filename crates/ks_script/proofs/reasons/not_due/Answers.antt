use Rattle.ks_script.proofs.Common.{refl, sym, subst, inl, inr, false≢true, ◌∙◌}
use Rattle.ks_script.specs.Reasons.{IsWithin}
use Rattle.ks_script.proofs.Refusals.{read_value, too_great}
use Rattle.ks_script.proofs.reasons.not_due.Goals as goal

pub returns-then-not-is_numeral-clause-some : goal.returns-then-not-is_numeral-clause-some
returns-then-not-is_numeral-clause-some c = inl ((λ num. false≢true (sym c.if-not-is_numeral.true ∙ c.is_numeral.ensures.1 num)), refl)

pub returns-in_default-clause-some : goal.returns-in_default-clause-some
returns-in_default-clause-some c =
    let num = c.is_numeral.ensures.0 c.if-not-is_numeral.false in
    inr (num, (λ within. too_great c.args.version c.args.due c.args.word.now c.in_default.ensures.none (num, within)), refl)

pub returns-then-not-allows-clause-some : goal.returns-then-not-allows-clause-some
returns-then-not-allows-clause-some c =
    let num = c.is_numeral.ensures.0 c.if-not-is_numeral.false in
    let read = c.in-Some in
    let same = read_value c.args.word.now read.field-0-1.now read.number num.digits read.ensures.fits read.ensures.some.0 read.ensures.some.1 in
    inr (num, (λ within. false≢true (sym c.if-not-allows.true ∙ c.allows.ensures.1 (subst (IsWithin c.args.version c.args.due) same within))), refl)

pub returns-clause-none : goal.returns-clause-none
returns-clause-none c =
    let num = c.is_numeral.ensures.0 c.if-not-is_numeral.false in
    let read = c.in-Some in
    let same = read_value c.args.word.now read.field-0-1.now read.number num.digits read.ensures.fits read.ensures.some.0 read.ensures.some.1 in
    (num, subst (IsWithin c.args.version c.args.due) (sym same) (c.allows.ensures.0 c.if-not-allows.false))
