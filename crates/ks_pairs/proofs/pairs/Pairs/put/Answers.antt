use Rattle.std.proofs.Common.{rules, arith, length, ap, sym, set, ◌≡◌, ◌+◌, ◌∙◌}
use Rattle.std.proofs.lemmas.List.{length-set}
use Rattle.std.proofs.lemmas.List.Edits.{length-insert}
use Rattle.ks_pairs.proofs.Lists.{places_length, values_length, value_found, put_found, put_missing, missing_value, length-paired, refill_same}
use Rattle.ks_pairs.proofs.pairs.Pairs.put.Goals as goal

pub item-old-requires : goal.item-old-requires
item-old-requires g c = omega (arith, c.in-Ok.ensures.within, values_length _ _ c.self.invariant.0 (ap (λ s. s.items) c.self.view_is), ap length c.as_slice.ensures.value)

pub set_item-requires : goal.set_item-requires
set_item-requires g c = omega (arith, c.in-Ok.ensures.within, values_length _ _ c.self.invariant.0 (ap (λ s. s.items) c.self.view_is), ap length c.as_mut_slice.ensures.value)

pub insert_at-requires : goal.insert_at-requires
insert_at-requires g c =
    let long = places_length _ _ c.self.invariant.0 (ap (λ s. s.items) c.self.view_is) in
    (search rules, (omega (arith, c.in-Err.ensures.within), omega (arith, c.requires.room (missing_value c.in-Err.ensures))))

pub insert_at-requires-in-Err : goal.insert_at-requires-in-Err
insert_at-requires-in-Err g c =
    let long = values_length _ _ c.self.invariant.0 (ap (λ s. s.items) c.self.view_is) in
    (search rules, (omega (arith, c.in-Err.ensures.within), omega (arith, c.requires.room (missing_value c.in-Err.ensures))))

pub returns-in-Ok-clause-items : goal.returns-in-Ok-clause-items
returns-in-Ok-clause-items g c =
    let vs = c.self.inside.values.items in
    let same : c.set_item.new.items ≡ set vs c.in-Ok.at c.args.value = c.set_item.ensures ∙ ap (λ l. set l c.in-Ok.at c.args.value) c.as_mut_slice.ensures.value in
    rw (same, refill_same (length vs) vs (set vs c.in-Ok.at c.args.value) (length-set vs c.in-Ok.at c.args.value)) (put_found _ _ c.self.invariant.0 (ap (λ s. s.items) c.self.view_is) c.in-Ok.ensures c.args.value)

pub returns-in-Ok-clause-answer : goal.returns-in-Ok-clause-answer
returns-in-Ok-clause-answer g c = value_found _ _ c.self.invariant.0 (ap (λ s. s.items) c.self.view_is) c.in-Ok.ensures c.item-old.result (rw (← c.as_slice.ensures.value) c.item-old.ensures)

pub returns-in-Ok-clause-fits : goal.returns-in-Ok-clause-fits
returns-in-Ok-clause-fits g c =
    let ps = c.self.inside.places.items in
    let vs = c.self.inside.values.items in
    let same : c.set_item.new.items ≡ set vs c.in-Ok.at c.args.value = c.set_item.ensures ∙ ap (λ l. set l c.in-Ok.at c.args.value) c.as_mut_slice.ensures.value in
    rw (same, refill_same (length vs) vs (set vs c.in-Ok.at c.args.value) (length-set vs c.in-Ok.at c.args.value))
    (omega (arith, length-paired ps (set vs c.in-Ok.at c.args.value) (c.self.invariant.0 ∙ sym (length-set vs c.in-Ok.at c.args.value)), c.self.invariant.1))

pub returns-in-Err-clause-items : goal.returns-in-Err-clause-items
returns-in-Err-clause-items g c = rw (c.insert_at.ensures, c.insert_at-in-Err.ensures) (put_missing _ _ c.self.invariant.0 (ap (λ s. s.items) c.self.view_is) c.in-Err.ensures c.args.value)

pub invariant_of-self-in-Err : goal.invariant_of-self-in-Err
invariant_of-self-in-Err g c =
    let ps = c.self.inside.places.items in
    let vs = c.self.inside.values.items in
    let at = c.in-Err.at in
    let long = places_length _ _ c.self.invariant.0 (ap (λ s. s.items) c.self.view_is) in
    let places : length c.insert_at.new.items.items ≡ length ps + 1 = ap length c.insert_at.ensures ∙ length-insert ps at c.args.place (omega (arith, c.in-Err.ensures.within)) in
    let values : length c.insert_at-in-Err.new.items.items ≡ length vs + 1 = ap length c.insert_at-in-Err.ensures ∙ length-insert vs at c.args.value (omega (arith, c.self.invariant.0, c.in-Err.ensures.within)) in
    (omega (arith, c.self.invariant.0), omega (arith, c.requires.room (missing_value c.in-Err.ensures)))

pub returns-in-Err-clause-fits : goal.returns-in-Err-clause-fits
returns-in-Err-clause-fits g c =
    let kept = invariant_of-self-in-Err g c in
    omega (arith, length-paired c.insert_at.new.items.items c.insert_at-in-Err.new.items.items kept.0, kept.1)
