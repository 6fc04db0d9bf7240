use Rattle.std.proofs.Common.{rules, ℕ, suc, ◌≡◌, ◌-◌, List, arith, sym, subst, ◌∙◌}
use Rattle.std.proofs.lemmas.List.{get_or_default}
use Rattle.ks_guide.specs.declared.spot.Spot.{Spot}
use Rattle.ks_guide.specs.Branches.{IsBegun}
use Rattle.ks_guide.proofs.Placing.{guess_noted, guess_placed}
use Rattle.ks_guide.proofs.branches.Branches.note.Goals as goal

pub returns-then-eq-clause-told : goal.returns-then-eq-clause-told
returns-then-eq-clause-told c = λ p some low last.
    let new = c.args.new in
    let xs = c.args.self.now.spots.items in
    let k = c.begun-to.result - 1 in
    let next : c.begun-to.result ≡ suc k = omega (arith, c.if-to-gt0.true) in
    let begun : IsBegun new.last xs (suc k) = subst (λ (n : ℕ). IsBegun new.last xs n) next (subst (λ (xs : List Spot). IsBegun new.last xs c.begun-to.result) c.as_slice.ensures.value c.begun-to.ensures) in
    let same : c.index.result.now ≡ new = search rules in
    guess_noted new xs k p c.args.self.now.ascend begun
    (λ d. get_or_default xs k d c.index.result.now (omega (arith, begun.within)) ∙ sym c.index.ensures ∙ same) low last

pub returns-then-from-to-clause-told : goal.returns-then-from-to-clause-told
returns-then-from-to-clause-told c = λ p some low last. guess_placed c.args.new _ _ p c.put_over.ensures.placed low last

pub returns-then-len-self-clause-told : goal.returns-then-len-self-clause-told
returns-then-len-self-clause-told c = λ p some low last. guess_placed c.args.new _ _ p c.put_between.ensures.placed low last

pub returns-else-len-self-clause-told : goal.returns-else-len-self-clause-told
returns-else-len-self-clause-told c = λ p some low last. guess_placed c.args.new _ _ p c.put_beside.ensures.placed low last
