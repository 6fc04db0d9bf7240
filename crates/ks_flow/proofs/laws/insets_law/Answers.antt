use Rattle.ks_flow.proofs.Splits.{split_own_insets}
use Rattle.ks_flow.proofs.Unders.{split_under_insets}
use Rattle.ks_flow.proofs.Grown.{grow_insets}
use Rattle.ks_flow.proofs.Absorbs.{absorb_own_insets, collapse_insets}
use Rattle.ks_flow.proofs.AbsorbsUnders.{absorb_under_insets}
use Rattle.ks_flow.proofs.laws.insets_law.Goals as goal

pub returns-clause-split_own : goal.returns-clause-split_own
returns-clause-split_own c = split_own_insets

pub returns-clause-split_under : goal.returns-clause-split_under
returns-clause-split_under c = split_under_insets

pub returns-clause-grow : goal.returns-clause-grow
returns-clause-grow c = grow_insets

pub returns-clause-absorb_own : goal.returns-clause-absorb_own
returns-clause-absorb_own c = absorb_own_insets

pub returns-clause-absorb_under : goal.returns-clause-absorb_under
returns-clause-absorb_under c = absorb_under_insets

pub returns-clause-collapse : goal.returns-clause-collapse
returns-clause-collapse c = collapse_insets
