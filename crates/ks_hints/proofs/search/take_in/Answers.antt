use Rattle.std.proofs.Common.{List, [], ◌∷◌, ◌++◌, sym, ap, ◌∙◌, subst}
use Rattle.ks_hints.specs.Hints.{HasLowAt, LacksLowAt}
use Rattle.ks_hints.specs.declared.hint.Hint.{Hint}
use Rattle.ks_hints.proofs.Lists.{after_post_found, after_post_full, after_post_room, written}
use Rattle.ks_hints.proofs.search.take_in.Goals as goal

pub returns-in-Ok : goal.returns-in-Ok
returns-in-Ok c =
    let xs = c.args.list.now.items in
    let found : HasLowAt c.args.hint.low xs c.in-Ok.at = subst (λ (l : List Hint). HasLowAt c.args.hint.low l c.in-Ok.at) c.as_slice.ensures.value c.in-Ok.ensures in
    written xs c.as_mut_slice.result.now c.in-Ok.at c.args.hint c.as_mut_slice.ensures.value ∙ sym (after_post_found c.args.hint xs c.in-Ok.at found)

pub returns-then-is_full : goal.returns-then-is_full
returns-then-is_full c =
    let xs = c.args.list.now.items in
    let missing : LacksLowAt c.args.hint.low xs c.in-Err.at = subst (λ (l : List Hint). LacksLowAt c.args.hint.low l c.in-Err.at) c.as_slice.ensures.value c.in-Err.ensures in
    c.push.ensures.items ∙ ap (λ (l : List Hint). l ++ c.args.hint ∷ []) c.clear.ensures ∙ sym (after_post_full c.args.hint xs c.in-Err.at missing (sym c.is_full.ensures.value ∙ c.if-is_full.true))

pub returns-else-is_full : goal.returns-else-is_full
returns-else-is_full c =
    let xs = c.args.list.now.items in
    let missing : LacksLowAt c.args.hint.low xs c.in-Err.at = subst (λ (l : List Hint). LacksLowAt c.args.hint.low l c.in-Err.at) c.as_slice.ensures.value c.in-Err.ensures in
    c.insert.ensures.items ∙ sym (after_post_room c.args.hint xs c.in-Err.at missing (sym c.is_full.ensures.value ∙ c.if-is_full.false))
