use Rattle.ks_script.proofs.Common.{ℕ, ◌*◌, ◌/◌, ◌-◌, ◌^◌, true, eqb, ltb, List, [], ◌∷◌, slice_index_or, refl, arith, agree_below_at, eqb-true}
use borrow.Author.Tests.{ltb-true}
use Rattle.ks_script.proofs.numeral.power.Goals as goal

abbrev product : ℕ → ℕ
product k = let powers : List ℕ = 1 ∷ 10 ∷ 100 ∷ 1000 ∷ 10000 ∷ 100000 ∷ 1000000 ∷ 10000000 ∷ 100000000 ∷ [] in slice_index_or powers (k / 2) 0 * slice_index_or powers (k - k / 2) 0

pub overflow_mul-result : goal.overflow_mul-result
overflow_mul-result c = record { fits = ltb-true _ _ (agree_below_at (λ (k : ℕ). ltb (product k) (2 ^ 64)) (λ (k : ℕ). true) 17 c.args.of refl (omega arith)) }

pub returns : goal.returns
returns c = eqb-true _ _ (agree_below_at (λ (k : ℕ). eqb (product k) (10 ^ k)) (λ (k : ℕ). true) 17 c.args.of refl (omega arith))
