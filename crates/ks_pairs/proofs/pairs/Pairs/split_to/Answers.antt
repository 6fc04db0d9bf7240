use Rattle.std.proofs.Common.{arith, length, ap, drop, [], ◌≡◌, ◌∙◌, ◌++◌}
use Rattle.std.proofs.lemmas.List.{length-drop, nil_from_length}
use Rattle.ks_pairs.proofs.Lists.{places_length, values_length, on_ok, below_rank, from_rank}
use Rattle.ks_pairs.proofs.pairs.Pairs.split_to.Goals as goal

pub split_at-requires : goal.split_at-requires
split_at-requires g c = omega (arith, c.rank-at.ensures.within, places_length _ _ c.self.invariant.0 (ap (λ s. s.items) c.self.view_is), ap length c.as_slice.ensures.value)

pub returns-clause-left : goal.returns-clause-left
returns-clause-left g c = rw (c.truncate.ensures.items, c.truncate-2.ensures.items) (below_rank _ _ c.self.invariant.0 (ap (λ s. s.items) c.self.view_is) c.rank-at.ensures)

pub returns-clause-right : goal.returns-clause-right
returns-clause-right g c =
    let at = c.rank-at.result in
    let ps = c.self.inside.places.items in
    let vs = c.self.inside.values.items in
    let no_places : c.right.inside.places.items ≡ [] = nil_from_length _ (places_length _ _ c.right.invariant.0 (ap (λ s. s.items) c.right.view_is) ∙ ap length c.requires.blank) in
    let no_values : c.right.inside.values.items ≡ [] = nil_from_length _ (values_length _ _ c.right.invariant.0 (ap (λ s. s.items) c.right.view_is) ∙ ap length c.requires.blank) in
    let back_places : c.split_at.result.1.now ≡ drop at ps = c.split_at.ensures.back ∙ ap (drop at) c.as_slice.ensures.value in
    let back_values : c.split_at-2.result.1.now ≡ drop at vs = c.split_at-2.ensures.back ∙ ap (drop at) c.as_slice-2.ensures.value in
    let places : c.try_extend_from_slice.new.self.items ≡ drop at ps = on_ok _ _ (c.try_extend_from_slice.ensures.variant.1 (omega (arith, c.self.invariant.1, ap length no_places, ap length back_places, length-drop at ps))) c.try_extend_from_slice.ensures.ok ∙ ap (λ l. l ++ c.split_at.result.1.now) no_places ∙ back_places in
    let values : c.try_extend_from_slice-2.new.self.items ≡ drop at vs = on_ok _ _ (c.try_extend_from_slice-2.ensures.variant.1 (omega (arith, c.self.invariant.0, c.self.invariant.1, ap length no_values, ap length back_values, length-drop at vs))) c.try_extend_from_slice-2.ensures.ok ∙ ap (λ l. l ++ c.split_at-2.result.1.now) no_values ∙ back_values in
    rw (places, values) (from_rank _ _ c.self.invariant.0 (ap (λ s. s.items) c.self.view_is) c.rank-at.ensures)
