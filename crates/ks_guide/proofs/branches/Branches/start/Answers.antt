use Rattle.std.proofs.Common.{[], ap, ◌∙◌, arith}
use Rattle.ks_guide.specs.Branches.{guess_among}
use Rattle.ks_guide.proofs.Placing.{guess_first}
use Rattle.ks_guide.proofs.branches.Branches.start.Goals as goal

pub returns-clause-none : goal.returns-clause-none
returns-clause-none c = λ p. ap (guess_among p) c.in_ok-with_capacity.ensures.items
    ∙ guess_first p [] (record {
      within = omega arith;
      before = λ i d h. absurd (omega arith);
      after = λ i d h l. absurd (omega arith);
    })
