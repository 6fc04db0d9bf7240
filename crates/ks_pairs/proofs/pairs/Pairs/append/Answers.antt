use Rattle.std.proofs.Common.{arith, length, ap, sym, subst, ◌≡◌, ◌≤◌, ◌∙◌, ◌++◌}
use Rattle.std.proofs.lemmas.List.{length-append}
use Rattle.ks_keysets.specs.Paired.{paired}
use Rattle.ks_pairs.proofs.Lists.{places_length, values_length, append-paired, on_ok}
use Rattle.ks_pairs.proofs.pairs.Pairs.append.Goals as goal

pub returns-clause-left : goal.returns-clause-left
returns-clause-left g c =
    let ps = c.self.inside.places.items in
    let vs = c.self.inside.values.items in
    let qs = c.right.inside.places.items in
    let ws = c.right.inside.values.items in
    let places : c.try_extend_from_slice.new.self.items ≡ ps ++ qs = on_ok _ _ (c.try_extend_from_slice.ensures.variant.1 (omega (arith, c.requires, places_length _ _ c.self.invariant.0 (ap (λ s. s.items) c.self.view_is), places_length _ _ c.right.invariant.0 (ap (λ s. s.items) c.right.view_is), ap length c.as_slice.ensures.value))) c.try_extend_from_slice.ensures.ok ∙ ap (λ l. ps ++ l) c.as_slice.ensures.value in
    let values : c.try_extend_from_slice-2.new.self.items ≡ vs ++ ws = on_ok _ _ (c.try_extend_from_slice-2.ensures.variant.1 (omega (arith, c.requires, values_length _ _ c.self.invariant.0 (ap (λ s. s.items) c.self.view_is), values_length _ _ c.right.invariant.0 (ap (λ s. s.items) c.right.view_is), ap length c.as_slice-2.ensures.value))) c.try_extend_from_slice-2.ensures.ok ∙ ap (λ l. vs ++ l) c.as_slice-2.ensures.value in
    rw (places, values)
    (append-paired ps vs qs ws c.self.invariant.0 ∙ ap (λ s. s.items ++ paired qs ws) c.self.view_is ∙ ap (λ s. c.args.self.now.items ++ s.items) c.right.view_is)

pub returns-clause-fits : goal.returns-clause-fits
returns-clause-fits g c =
    subst (λ l. length l ≤ g.row.N) (sym (returns-clause-left g c)) (omega (arith, length-append c.args.self.now.items c.args.right.now.items, c.requires))
