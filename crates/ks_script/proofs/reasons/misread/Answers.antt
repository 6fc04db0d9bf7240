use Rattle.ks_script.proofs.Common.{◌≡◌, ◌++◌, ◌+◌, List, ℕ, drop, length, sym, subst, ◌∙◌, nil_from_length}
use Rattle.std.proofs.lemmas.List.{at_drop_more, at_drop_all}
use Rattle.ks_script.specs.Reasons.{Misread}
use Rattle.ks_script.specs.Misfits.{words_behind}
use Rattle.ks_script.specs.declared.reasons.Due.{Due}
use Rattle.ks_script.specs.declared.reasons.Reason.TheVariants.{MissingWord, ExtraWord}
use Rattle.ks_script.specs.declared.reasons.Due.TheVariants.{Key}
use Rattle.ks_script.proofs.Cuts.{is_empty_true, is_empty_false}
use Rattle.ks_script.proofs.Refusals.{due_later, extra_word, misread_later, missing_word, not_first_due}
use Rattle.ks_script.proofs.reasons.misread.Goals as goal

pub returns-then-is_empty-clause-some : goal.returns-then-is_empty-clause-some
returns-then-is_empty-clause-some c =
    let i : ℕ = c.numbers.number-index in
    let rest = c.numbers.rest.now in
    let none = nil_from_length rest (is_empty_true (length rest) c.is_empty.result c.is_empty.ensures c.if-is_empty.true) in
    c.numbers.invariant.misread MissingWord (missing_word c.args.version c.args.due.now i _ (drop (i + 1) c.args.due.now) (at_drop_more (λ (ds : List Due). ds) c.args.due.now i Key c.numbers-test.true) rest none)

pub returns-in-Some-clause-some : goal.returns-in-Some-clause-some
returns-in-Some-clause-some c =
    let i : ℕ = c.numbers.number-index in
    let rest = c.numbers.rest.now in
    let some = is_empty_false (length rest) c.is_empty.result c.is_empty.ensures c.if-is_empty.false in
    c.numbers.invariant.misread c.in-Some.why
    (not_first_due c.args.version c.args.due.now i _ (drop (i + 1) c.args.due.now) (at_drop_more (λ (ds : List Due). ds) c.args.due.now i _ c.numbers-test.true) rest c.cut.result.0.now c.cut.result.1.now some (sym c.split_at.ensures.back ∙ c.cut.ensures.parts) c.cut.ensures.lacks c.cut.ensures.behind c.in-Some.why c.in-Some.ensures.some)

pub numbers-preserved : goal.numbers-preserved
numbers-preserved c =
    let i : ℕ = c.numbers.number-index in
    let all = c.args.due.now in
    let rest = c.numbers.rest.now in
    let word = c.cut.result.0.now in
    let tail = c.cut.result.1.now in
    let some = is_empty_false (length rest) c.is_empty.result c.is_empty.ensures c.if-is_empty.false in
    let split : drop 1 rest ≡ word ++ tail = sym c.split_at.ensures.back ∙ c.cut.ensures.parts in
    record {
      behind = c.cut.ensures.behind;
      misread = λ why h. c.numbers.invariant.misread why (misread_later c.args.version all i _ (drop (i + 1) all) (at_drop_more (λ (ds : List Due). ds) all i _ c.numbers-test.true) rest word tail some split c.cut.ensures.lacks c.cut.ensures.behind c.in_default.ensures.none why h);
      are_due = λ h. c.numbers.invariant.are_due (due_later c.args.version all i _ (drop (i + 1) all) (at_drop_more (λ (ds : List Due). ds) all i _ c.numbers-test.true) rest word tail some split c.cut.ensures.lacks c.cut.ensures.behind c.in_default.ensures.none h);
    }

pub returns-clause-some : goal.returns-clause-some
returns-clause-some c =
    let rest = c.numbers.rest.now in
    let some = is_empty_false (length rest) c.is_empty-2.result c.is_empty-2.ensures c.if-is_empty-2.false in
    c.numbers.invariant.misread ExtraWord (subst (λ (ds : List Due). Misread c.args.version ds (words_behind rest) ExtraWord) (sym (at_drop_all (λ (ds : List Due). ds) c.args.due.now c.numbers.number-index c.numbers-test.false)) (extra_word c.args.version rest some))
