use Rattle.std.proofs.Common.{arith, length, ap, ◌≡◌, ◌+◌, ◌∙◌}
use Rattle.std.proofs.lemmas.List.Edits.{length-remove}
use Rattle.ks_pairs.proofs.Lists.{length-paired, places_length, values_length, value_found, del_found}
use Rattle.ks_pairs.proofs.pairs.Pairs.del.Goals as goal

pub item-removed-requires : goal.item-removed-requires
item-removed-requires g c = omega (arith, c.in-Ok.ensures.within, values_length _ _ c.self.invariant.0 (ap (λ s. s.items) c.self.view_is), ap length c.as_slice.ensures.value)

pub remove_at-requires : goal.remove_at-requires
remove_at-requires g c = omega (arith, c.in-Ok.ensures.within, places_length _ _ c.self.invariant.0 (ap (λ s. s.items) c.self.view_is))

pub remove_at-requires-in-Ok : goal.remove_at-requires-in-Ok
remove_at-requires-in-Ok g c = omega (arith, c.in-Ok.ensures.within, values_length _ _ c.self.invariant.0 (ap (λ s. s.items) c.self.view_is))

pub returns-in-Ok-clause-items : goal.returns-in-Ok-clause-items
returns-in-Ok-clause-items g c = rw (c.remove_at.ensures, c.remove_at-in-Ok.ensures) (del_found _ _ c.self.invariant.0 (ap (λ s. s.items) c.self.view_is) c.in-Ok.ensures)

pub returns-in-Ok-clause-answer : goal.returns-in-Ok-clause-answer
returns-in-Ok-clause-answer g c = value_found _ _ c.self.invariant.0 (ap (λ s. s.items) c.self.view_is) c.in-Ok.ensures c.item-removed.result (rw (← c.as_slice.ensures.value) c.item-removed.ensures)

pub invariant_of-self : goal.invariant_of-self
invariant_of-self g c =
    let ps = c.self.inside.places.items in
    let vs = c.self.inside.values.items in
    let at = c.in-Ok.at in
    let long = places_length _ _ c.self.invariant.0 (ap (λ s. s.items) c.self.view_is) in
    let places : length c.remove_at.new.items.items + 1 ≡ length ps = ap (λ l. length l + 1) c.remove_at.ensures ∙ length-remove ps at (omega (arith, c.in-Ok.ensures.within)) in
    let values : length c.remove_at-in-Ok.new.items.items + 1 ≡ length vs = ap (λ l. length l + 1) c.remove_at-in-Ok.ensures ∙ length-remove vs at (omega (arith, c.self.invariant.0, c.in-Ok.ensures.within)) in
    (omega (arith, c.self.invariant.0), omega (arith, c.self.invariant.1))

pub returns-in-Ok-clause-fits : goal.returns-in-Ok-clause-fits
returns-in-Ok-clause-fits g c =
    let kept = invariant_of-self g c in
    omega (arith, length-paired c.remove_at.new.items.items c.remove_at-in-Ok.new.items.items kept.0, kept.1)

pub returns-in-Err-clause-fits : goal.returns-in-Err-clause-fits
returns-in-Err-clause-fits g c = omega (arith, c.self.invariant.1, places_length _ _ c.self.invariant.0 (ap (λ s. s.items) c.self.view_is))
