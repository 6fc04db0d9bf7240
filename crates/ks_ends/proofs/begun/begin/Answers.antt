use Rattle.std.proofs.Common.{refl, arith}
use Rattle.ks_ends.specs.Laws.Outcomes.{halt_left, unmade_left, check_left}
use Rattle.ks_ends.specs.Laws.Whys.{halt_why, halt_silent, check_why}
use Rattle.ks_ends.proofs.begun.begin.Goals as goal

pub returns-in-Err-clause-ends : goal.returns-in-Err-clause-ends
returns-in-Err-clause-ends g c =
    let spells = rw c.in-Some-Run.field-0-is at c.in-Some-Run.ensures.some in
    let e = c.in-Err.ensures in
    halt_left _ _ _ _ _ _ _ _ _ _ c.in-Err.halt c.in-Some-Run.pairing c.in-Some-Run.setting spells c.halted.ensures.halted c.halted.ensures.number e.once e.line e.cause refl

pub returns-in-Err-made-clause-ends : goal.returns-in-Err-made-clause-ends
returns-in-Err-made-clause-ends g c =
    let spells = rw c.in-Some-Make.field-0-is at c.in-Some-Make.ensures.some in
    let e = c.at.ensures in
    unmade_left _ _ _ _ _ _ _ _ _ _ c.in-Some-Make.pairing c.in-Some-Make.setting c.in-Some-Make.draft spells e.0 e.1 e.2 refl refl

pub returns-in-Some-Check-clause-ends : goal.returns-in-Some-Check-clause-ends
returns-in-Some-Check-clause-ends g c =
    let spells = rw c.in-Some-Check.field-0-is at c.in-Some-Check.ensures.some in
    let e = c.check.ensures in
    check_left _ _ _ _ _ _ _ _ _ _ spells e.status e.line e.number e.checked e.end e.untouched e.refused e.source e.output

pub returns-in-Err-clause-reason : goal.returns-in-Err-clause-reason
returns-in-Err-clause-reason g c =
    let spells = rw c.in-Some-Run.field-0-is at c.in-Some-Run.ensures.some in
    halt_why _ c.in-Some-Run.pairing c.in-Some-Run.setting _ _ _ _ _ c.in-Err.halt spells c.halted.ensures.halted c.halted.ensures.why c.in-Err.ensures.cause

pub returns-in-Err-clause-why : goal.returns-in-Err-clause-why
returns-in-Err-clause-why g c = halt_silent _ _ _ c.in-Err.halt c.halted.ensures.halted c.halted.ensures.why

pub returns-in-Err-made-clause-reason : goal.returns-in-Err-made-clause-reason
returns-in-Err-made-clause-reason g c = λ text asks is. absurd (omega (arith, c.at.ensures.0, is))

pub returns-in-Some-Check-clause-reason : goal.returns-in-Some-Check-clause-reason
returns-in-Some-Check-clause-reason g c = check_why _ _ _ _ _ (rw c.in-Some-Check.field-0-is at c.in-Some-Check.ensures.some) c.check.ensures.reason
