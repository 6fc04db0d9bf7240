use Rattle.ks_script.proofs.Common.{refl, ◌+◌, [], ◌∷◌, length, map, map_push, arith, length-append, IsLineOf, line_text, parts_of}
use Rattle.std.proofs.lemmas.List.Sums.{sum_by_push}
use Rattle.ks_script.proofs.Leading.{reads_line}
use Rattle.ks_script.proofs.Steps.{all_push}
use Rattle.ks_script.proofs.reader.calls.Goals as goal

pub calls-preserved : goal.calls-preserved
calls-preserved c =
    let was = c.calls.calls in
    let before = c.calls.invariant in
    let asked = c.in-Some.asked in
    let some = c.in-Some.ensures.some in
    rw (c.in_ok-push.ensures.ok, length-append was (asked ∷ []), map_push line_text was asked, sum_by_push parts_of was asked)
    (record {
      each = all_push (IsLineOf c.args.version) was asked before.each some.0.0;
      within = omega arith;
      parts = omega (arith, before.parts, some.0.1);
      reads = reads_line (map line_text was) (line_text asked) c.args.bytes.now c.calls.rest.now c.in-Some.more.now (length was) (length was + 1) before.reads some.1 refl;
      shorter = omega (arith, c.in-Some.ensures.shorter);
    })
