use Rattle.ks_script.proofs.Common.{◌≡◌, ◌+◌, ◌-◌, [], ◌∷◌, ◌++◌, length, arith, length-append, IsLineOf, calls_in, parts_of, parts_in, sum_by, AllByRecursion}
use Rattle.ks_script.proofs.Steps.{all_push, calls_append, parts_append}
use Rattle.ks_script.proofs.ScriptRead.{next_read}
use Rattle.ks_script.proofs.reader.callers.Goals as goal

pub callers-preserved : goal.callers-preserved
callers-preserved c =
    let front = c.callers.front in
    let all = front.callers.items in
    let lines = c.in_ok-lines.lines in
    let before = c.callers.invariant in
    let read = c.in_ok-lines.ensures in
    let many : length (all ++ lines ∷ []) ≡ length all + 1 = length-append all (lines ∷ []) in
    let sum : calls_in (all ++ lines ∷ []) ≡ calls_in all + length lines = omega (arith, calls_append all (lines ∷ [])) in
    let asked : parts_in (all ++ lines ∷ []) ≡ parts_in all + sum_by parts_of lines = omega (arith, parts_append all (lines ∷ [])) in
    let left : c.in_ok-lines.left ≡ 65536 - parts_in (all ++ lines ∷ []) = omega (arith, asked, read.parts, before.parts, before.is.parts) in
    rw c.in_ok-push.ensures.items
    (record {
      is = record {
        callers = omega (arith, before.is.callers, many);
        calls = omega (arith, before.is.calls, sum);
        parts = omega (arith, asked, read.parts, before.parts, before.is.parts);
        each = all_push (AllByRecursion (IsLineOf front.version)) all lines before.is.each read.each;
      };
      reads = next_read front.version c.args.bytes.now front.rest.now c.in-Some.more.now c.in_ok-lines.behind.now all lines front.lines (front.lines + (1 + c.len-in-callers-2.result)) before.reads c.in-Some.ensures.some read.reads (omega arith);
      few = omega (arith, many);
      calls = omega (arith, sum);
      parts = left;
      begun = λ none. absurd (omega (arith, many));
      line = λ some below. rw left at (read.stops (omega (arith, sum)));
    })
