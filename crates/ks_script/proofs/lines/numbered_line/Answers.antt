use Rattle.ks_script.proofs.Common.{◌≡◌, ◌++◌, length, ap, List, ℕ, append-nil, length-append, arith, decimal}
use Rattle.ks_script.proofs.Spelled.{plain_numbered}
use Rattle.ks_script.proofs.lines.numbered_line.Goals as goal

pub word-requires : goal.word-requires
word-requires c = omega (arith, c.number.ensures.long, ap (λ (x : List ℕ). length x) c.new-line.ensures)

pub word_line-requires : goal.word_line-requires
word_line-requires c =
    let front = c.args.front.now in
    let is : c.bytes.result.now ≡ front ++ decimal c.args.of = simp (c.bytes.ensures, c.word.ensures, c.number.ensures.digits, c.new-line.ensures, append-nil) in
    rw is (record { plain = plain_numbered front c.args.of c.requires.plain (omega arith); some = omega (arith, length-append front (decimal c.args.of)) })

pub returns : goal.returns
returns c =
    let is : c.bytes.result.now ≡ c.args.front.now ++ decimal c.args.of = simp (c.bytes.ensures, c.word.ensures, c.number.ensures.digits, c.new-line.ensures, append-nil) in
    rw is at c.word_line.ensures
