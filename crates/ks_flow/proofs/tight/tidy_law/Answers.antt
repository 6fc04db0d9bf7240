use Rattle.ks_flow.proofs.Tested.{tidy_here, tidy_along}
use Rattle.ks_flow.proofs.tight.tidy_law.Goals as goal

pub returns-clause-here : goal.returns-clause-here
returns-clause-here c = tidy_here

pub returns-clause-along : goal.returns-clause-along
returns-clause-along c layout g k f h p same = tidy_along layout g k f h same p
