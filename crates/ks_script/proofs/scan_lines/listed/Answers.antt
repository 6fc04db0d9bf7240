use Rattle.ks_script.proofs.Common.{ℕ, ◌≡◌, ◌^◌, ◌<◌, List, ◌++◌, codes, drop, refl, sym, ap, ◌∙◌, decimal, part_line, pair_words, IsPart, NoDigit}
use Rattle.ks_lines.specs.declared.parts.Part.{Part}
use Rattle.ks_script.proofs.Numerals.{wide}
use Rattle.ks_script.proofs.Cuts.{if_none_any}
use Rattle.ks_script.proofs.Lined.{number_told, end_free}
use Rattle.ks_script.proofs.Saids.{part_first, free_words}
use Rattle.ks_script.proofs.scan_lines.listed.Goals as goal

-- what follows the number of a part
behind : (m : ℕ) (rest tail bytes : List ℕ) (part : Part) → m < 2 ^ 64 → NoDigit rest → bytes ≡ decimal m ++ rest → IsPart part → bytes ≡ part_line part ++ tail → rest ≡ codes " " ++ (decimal part.last ++ (pair_words part.pairs ++ tail))
behind m rest tail bytes part small free read is e =
    (number_told m part.number rest (codes " " ++ (decimal part.last ++ (pair_words part.pairs ++ tail))) (wide m small) (wide part.number is.0) free refl (sym read ∙ (e ∙ part_first part tail))).1

pub returns-in_err-word-clause-none : goal.returns-in_err-word-clause-none
returns-in_err-word-clause-none c =
    let first = c.in_ok-first in
    if_none_any c.from_residual-in_err-word.result
    (λ part is tail ends e. c.in_err-word.ensures.none (decimal part.last ++ (pair_words part.pairs ++ tail)) (behind first.first first.rest.now tail c.args.bytes.now part first.ensures.fits first.ensures.some.1 first.ensures.some.0 is e))

pub returns-in_err-last-clause-none : goal.returns-in_err-last-clause-none
returns-in_err-last-clause-none c =
    let first = c.in_ok-first in
    let word = c.in_ok-word in
    if_none_any c.from_residual-in_err-last.result
    (λ part is tail ends e.
    c.in_err-last.ensures.none part.last (pair_words part.pairs ++ tail) is.1 (free_words part.pairs tail (end_free tail ends))
    (ap (λ (x : List ℕ). drop 1 x) (sym word.ensures.some ∙ behind first.first first.rest.now tail c.args.bytes.now part first.ensures.fits first.ensures.some.1 first.ensures.some.0 is e)))

pub returns-in_err-pairs-clause-none : goal.returns-in_err-pairs-clause-none
returns-in_err-pairs-clause-none c =
    let first = c.in_ok-first in
    let word = c.in_ok-word in
    let last = c.in_ok-last in
    if_none_any c.from_residual-in_err-pairs.result
    (λ part is tail ends e.
    let after = ap (λ (x : List ℕ). drop 1 x) (sym word.ensures.some ∙ behind first.first first.rest.now tail c.args.bytes.now part first.ensures.fits first.ensures.some.1 first.ensures.some.0 is e) in
    c.in_err-pairs.ensures.none part.pairs is.2 is.3 tail ends
    (number_told last.last part.last last.rest.now (pair_words part.pairs ++ tail) (wide last.last last.ensures.fits) (wide part.last is.1) last.ensures.some.1 (free_words part.pairs tail (end_free tail ends)) (sym last.ensures.some.0 ∙ after)).1)
