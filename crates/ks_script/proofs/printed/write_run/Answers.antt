use Rattle.ks_script.proofs.Common.{◌≡◌, [], ◌++◌, sym, ap, ◌∙◌, text_of, callers_from, map_lines, run_text}
use Rattle.ks_script.proofs.Texts.{text_append}
use Rattle.ks_script.proofs.Putting.{holds_none, puts_on, puts_as}
use Rattle.ks_script.proofs.printed.write_run.Goals as goal

pub returns : goal.returns
returns g c =
    let run = c.printed.inside in
    let text : text_of (callers_from 0 c.deref.result.now) ++ text_of (map_lines c.deref-2.result.now) ≡ run_text c.args.printed.now =
    (λ i. text_of (callers_from 0 (c.deref.ensures.value i)) ++ text_of (map_lines (c.deref-2.ensures.value i))) ∙ (sym (text_append (callers_from 0 run.callers.items) (map_lines run.pairs.items)) ∙ ap run_text c.printed.view_is) in
    let puts = puts_as (puts_on c.put_callers.ensures c.put_map.ensures) text in
    let takes = c.finish.ensures _ _ _ (puts.on _ _ [] (holds_none _ _ _ c.new-piece.ensures.0 c.new-piece.ensures.1)) in
    record { ok = takes.ok; front = takes.front; cause = takes.cause; count = takes.count }
