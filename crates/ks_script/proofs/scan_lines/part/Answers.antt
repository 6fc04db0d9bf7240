use Rattle.ks_script.proofs.Common.{ℕ, ◌≡◌, ◌<◌, ◌≤◌, ◌⊎◌, ◌∷◌, sym, ap, subst, inl, inr, arith, lines_of, part_line, IsPart, IsPartFrom, Lines, NoneFirst}
use Rattle.ks_lines.specs.declared.parts.Part.{Part}
use Rattle.ks_script.proofs.Cuts.{if_none_any}
use Rattle.ks_script.proofs.Lined.{lined_first, none_first}
use Rattle.ks_script.proofs.Spelled.{plain_part}
use Rattle.ks_script.proofs.Saids.{some_part, one_part}
use Rattle.ks_script.proofs.scan_lines.part.Goals as goal

-- a part that ends elsewhere
elsewhere : (next last : ℕ) (part : Part) (lines more : Lines) → lines ≡ part_line part ∷ more → IsPart part → ((part.last < next) ⊎ ((next ≤ part.last) × (last < part.last))) → NoneFirst (IsPartFrom next last) part_line lines
elsewhere next last part lines more e good odd =
    subst (NoneFirst (IsPartFrom next last) part_line) (sym e) (λ other is same.
    let end : part.last ≡ other.last = ap (λ (p : Part). p.last) (one_part part other good is.2 same) in
    let least = is.0 in
    let most = is.1 in
    elim odd [ inl below ↦ omega arith | inr above ↦ (let past = above.1 in omega arith) ])

pub returns-in_err-part-clause-none : goal.returns-in_err-part-clause-none
returns-in_err-part-clause-none c = if_none_any c.from_residual.result (none_first (IsPartFrom c.args.next c.args.last) part_line c.args.bytes.now (λ x is. c.in_err-part.ensures.none x is.2))

pub returns-then-part-next-clause-none : goal.returns-then-part-next-clause-none
returns-then-part-next-clause-none c =
    let read = c.in_ok-part in
    let good = read.ensures.some.0 in
    elsewhere c.args.next c.args.last read.part (lines_of c.args.bytes.now) (lines_of read.rest.now) (lined_first (part_line read.part) c.args.bytes.now read.rest.now (plain_part read.part good) (some_part read.part) read.ensures.some.1) good c.then-part-next.either

pub returns-clause-some : goal.returns-clause-some
returns-clause-some c =
    let read = c.in_ok-part in
    let good = read.ensures.some.0 in
    ((c.if-part-next.false, c.if-part-last.false, good), lined_first (part_line read.part) c.args.bytes.now read.rest.now (plain_part read.part good) (some_part read.part) read.ensures.some.1)
