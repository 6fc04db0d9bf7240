-- Descents of non-blocking calls: how many nodes a caller took since its call began, and how deep its node is.
use Rattle.std.proofs.Common.{ℕ, List, []}
use Rattle.ks_history.specs.declared.Event.{Event}
use Rattle.ks_history.specs.Descent.{IsDeep, TookSince}

-- since s0 caller c took at least this many nodes, the root at most this often, and node i is this many steps deep, unless
-- another caller made a Shape
pub record IsDown (n c : ℕ) (s0 h : List Event) (taken roots steps i : ℕ) : Type 0 where
  pub took : TookSince c s0 h taken roots
  pub deep : IsDeep n c [] s0 h steps i
