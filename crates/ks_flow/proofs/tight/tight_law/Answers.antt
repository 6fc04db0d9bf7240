use Rattle.std.proofs.Common.{arith}
use Rattle.ks_flow.proofs.Tested.{begins, goes_down, span_keyset, span_ends, tight_on, tight_all, tight_along}
use Rattle.ks_flow.proofs.tight.tight_law.Goals as goal

pub returns-clause-opens : goal.returns-clause-opens
returns-clause-opens c layout g f = record { at = λ n live lt. absurd (omega arith) }

pub returns-clause-begins : goal.returns-clause-begins
returns-clause-begins c layout g f p good tree = begins layout g f good tree p

pub returns-clause-goes_down : goal.returns-clause-goes_down
returns-clause-goes_down c layout g f p last end n m r good tree = goes_down layout g f good tree p last end n m r

pub returns-clause-ends : goal.returns-clause-ends
returns-clause-ends c layout g f p last end n r good tree x is tested off run = tight_on layout g f good tree p last end n r x is off run tested

pub returns-clause-span : goal.returns-clause-span
returns-clause-span c layout g f p last end n r good tree = span_keyset layout g f good tree p last end n r

pub returns-clause-span_ends : goal.returns-clause-span_ends
returns-clause-span_ends c layout g f p last end n r good tree = span_ends layout g f good tree p last end n r

pub returns-clause-all : goal.returns-clause-all
returns-clause-all c layout g f good tree = tight_all layout g f good tree

pub returns-clause-along : goal.returns-clause-along
returns-clause-along c layout g k f h same = tight_along layout g k f h same
