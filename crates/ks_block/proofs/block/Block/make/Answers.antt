-- Places that are all empty begin with no pairs.
use Rattle.std.proofs.Common.{◌≡◌, ℕ, ◌-◌, List, [], replicate, refl, ap, ◌∙◌, arith}
use Rattle.std.specs.Prelude.{Option, None}
use Rattle.ks_block.specs.Contents.{contents}
use Rattle.ks_block.specs.Filled.{filled}
use Rattle.ks_block.proofs.Filling as filling
use Rattle.ks_block.proofs.block.Block.make.Goals as goal

empty : (n : ℕ) (cs : List (Option (ℕ × ℕ))) → cs ≡ replicate n None → cs ≡ filled [] n
unfolding filled
empty n cs e = let same : n ≡ n - 0 = omega arith in e ∙ ap (λ (k : ℕ). replicate k None) same

pub invariant_of-result : goal.invariant_of-result
invariant_of-result g c =
    let cs = c.in_ok-memory.memory in
    filling.kept cs [] c.args.room 0 (empty c.args.room cs c.in_ok-memory.ensures) refl (omega arith) c.requires.0 c.requires.1

pub returns : goal.returns
returns g c =
    let cs = c.in_ok-memory.memory in
    let told = filling.first cs [] c.args.room (omega arith) (empty c.args.room cs c.in_ok-memory.ensures) in
    λ j. contents (told.0 j) (told.1 j)
