use Rattle.std.proofs.Common.{ℕ, suc, ◌≡◌, ◌-◌, List, Some, None, cond, arith, sym, subst, ap, ◌∙◌}
use Rattle.std.proofs.lemmas.List.{get_or_default}
use Rattle.ks_guide.specs.declared.spot.Spot.{Spot}
use Rattle.ks_guide.specs.Branches.{IsBegun}
use Rattle.ks_guide.proofs.Placing.{guess_first, guess_at}
use Rattle.ks_guide.proofs.branches.Branches.guess.Goals as goal

pub returns-then-begun-eq0 : goal.returns-then-begun-eq0
returns-then-begun-eq0 c =
    let p = c.args.place in
    let begun : IsBegun p c.as_slice.result.now 0 = subst (λ (k : ℕ). IsBegun p c.as_slice.result.now k) c.if-begun-eq0.true c.begun-begun.ensures in
    sym (guess_first p c.args.self.now.spots.items (subst (λ (xs : List Spot). IsBegun p xs 0) c.as_slice.ensures.value begun))

pub returns-then-holds : goal.returns-then-holds
returns-then-holds c =
    let p = c.args.place in
    let xs = c.args.self.now.spots.items in
    let k = c.begun-begun.result - 1 in
    let spot = c.index.result.now in
    let next : c.begun-begun.result ≡ suc k = omega (arith, c.if-begun-eq0.false) in
    let begun : IsBegun p xs (suc k) = subst (λ (n : ℕ). IsBegun p xs n) next (subst (λ (xs : List Spot). IsBegun p xs c.begun-begun.result) c.as_slice.ensures.value c.begun-begun.ensures) in
    sym (guess_at p xs k spot begun (λ d. get_or_default xs k d spot (omega (arith, begun.within)) ∙ sym c.index.ensures)
    ∙ ap (λ b. cond b (Some spot.node) None) (sym c.holds.ensures ∙ c.if-holds.true))

pub returns : goal.returns
returns c =
    let p = c.args.place in
    let xs = c.args.self.now.spots.items in
    let k = c.begun-begun.result - 1 in
    let spot = c.index.result.now in
    let next : c.begun-begun.result ≡ suc k = omega (arith, c.if-begun-eq0.false) in
    let begun : IsBegun p xs (suc k) = subst (λ (n : ℕ). IsBegun p xs n) next (subst (λ (xs : List Spot). IsBegun p xs c.begun-begun.result) c.as_slice.ensures.value c.begun-begun.ensures) in
    sym (guess_at p xs k spot begun (λ d. get_or_default xs k d spot (omega (arith, begun.within)) ∙ sym c.index.ensures)
    ∙ ap (λ b. cond b (Some spot.node) None) (sym c.holds.ensures ∙ c.if-holds.false))
